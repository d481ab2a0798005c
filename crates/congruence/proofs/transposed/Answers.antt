use Rattle.std.proofs.Common.{rules}
use mathlib.Core.List.{[]}
use Rattle.matrix.specs.Matrix.{transposed}
use Rattle.matrix.proofs.Filled.{filled}
use Rattle.congruence.proofs.transposed.Goals as goal

pub returns : goal.returns
unfolding transposed
returns g c = filled _ _ _ _ (λ k b y q r. (search rules, search rules)) _ [] c.from_fn.ensures.items
