use Rattle.std.proofs.Common.{◌∙◌, rules}
use Rattle.matrix.proofs.Arrays.{rows_long}
use Rattle.flat.proofs.Flattened.{flattened_is}
use Rattle.flat.proofs.flat.Goals as goal

pub returns : goal.returns
returns g c =
    c.copy_from_slice.ensures.after
    ∙ c.as_flattened.ensures.value
    ∙ flattened_is g.row.N g.row.P c.args.a (search rules) (rows_long g.row.N g.row.P c.args.a _ c.well_formed.0) (search rules)
