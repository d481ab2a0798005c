use Rattle.std.proofs.Common.{rules}
use Rattle.std.specs.Float.{nan}
use Rattle.matrix.specs.Matrix.{plus_vector}
use Rattle.matrix.proofs.Filled.{filled}
use Rattle.sums.proofs.plus.Goals as goal

pub returns : goal.returns
unfolding plus_vector
returns g c = filled _ _ _ _ (λ k b y q r. (search rules, search rules)) _ nan c.from_fn.ensures.items
