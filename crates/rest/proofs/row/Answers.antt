use Rattle.std.proofs.Common.{rules, ◌∙◌}
use Rattle.matrix.proofs.Arrays.{items_fit}
use Rattle.rest.proofs.Resting.{finite_read}
use Rattle.rest.proofs.row.Goals as goal

pub returns-then-is_finite : goal.returns-then-is_finite
returns-then-is_finite g c =
    c.row_read.ensures
    ∙ finite_read g.row.N 6 g.row.FROM c.args.x c.args.i (items_fit g.row.N c.args.x _ c.well_formed.0) (search rules)
