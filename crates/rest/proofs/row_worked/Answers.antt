use Rattle.std.proofs.Common.{rules, ◌∙◌}
use Rattle.std.specs.Float.{nan}
use Prim.Native.Nat.{◌+◌}
use lib.Ieee.{binary64, sub, mul}
use Rattle.matrix.specs.Matrix.{item, sum_of}
use Rattle.selected.specs.Units.{unit_at}
use Rattle.matrix.proofs.Filled.{filled}
use Rattle.rest.proofs.Rows.{worked_is}
use Rattle.rest.proofs.row_worked.Goals as goal

pub returns : goal.returns
returns g c = filled _ _ (λ j. sub binary64 (unit_at j c.args.i) (sum_of g.row.N (λ m. mul binary64 (item c.args.x m) (unit_at (m + g.row.FROM) j)))) 6 (λ k b y q r. (search rules, search rules)) _ nan c.from_fn.ensures.items ∙ worked_is g.row.N 6 g.row.FROM c.args.x c.args.i
