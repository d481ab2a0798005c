use Rattle.std.proofs.Common.{rules}
use Rattle.std.specs.Float.{nan, binary64}
use Rattle.std.specs.Float.Ieee.{add, mul}
use Rattle.matrix.specs.Matrix.{item, nought}
use Rattle.matrix.proofs.Filled.{filled}
use Rattle.transition.proofs.position_row.Goals as goal

pub returns : goal.returns
returns c =
    let a = c.args in
    filled _ _ (λ j. add binary64 (add binary64 (item a.x j) (mul binary64 a.dt (item a.y j))) nought) 6 (λ k b y q r. (search rules, search rules)) _ nan c.from_fn.ensures.items
