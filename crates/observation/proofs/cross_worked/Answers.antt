use Rattle.std.proofs.Common.{rules}
use mathlib.Core.List.{[]}
use Rattle.models.specs.Models.{selection}
use Rattle.matrix.proofs.Filled.{filled}
use Rattle.matrix.specs.Matrix.{row, row_times, transposed, product}
use Rattle.observation.proofs.cross_worked.Goals as goal

pub returns : goal.returns
unfolding product
returns g c = filled _ _ (λ i. row_times 6 g.row.N (row c.args.p i) (transposed g.row.N 6 (selection g.row.N 6 g.row.FROM))) 6 (λ k b y q r. (search rules, search rules)) _ [] c.from_fn.ensures.items
