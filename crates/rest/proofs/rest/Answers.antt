use Rattle.std.proofs.Common.{rules, ◌∙◌}
use mathlib.Core.List.{[]}
use Rattle.matrix.specs.Matrix.{row, row_times}
use Rattle.selected.specs.Units.{less_from}
use Rattle.models.specs.Models.{selection}
use Rattle.matrix.proofs.Filled.{filled}
use Rattle.rest.proofs.Rows.{rest_is}
use Rattle.rest.proofs.rest.Goals as goal

pub returns : goal.returns
returns g c = filled _ _ (λ i. less_from 6 i (row_times g.row.N 6 (row c.args.k i) (selection g.row.N 6 g.row.FROM))) 6 (λ k b y q r. (search rules, search rules)) _ [] c.from_fn.ensures.items ∙ rest_is g.row.N 6 (selection g.row.N 6 g.row.FROM) c.args.k
