use Rattle.std.proofs.Common.{rules}
use mathlib.Core.List.{[]}
use Rattle.matrix.specs.Matrix.{plus}
use Rattle.matrix.proofs.Filled.{filled}
use Rattle.symmetrized.proofs.plus.Goals as goal

pub returns : goal.returns
unfolding plus
returns g c = filled _ _ _ _ (λ k b y q r. (search rules, search rules)) _ [] c.from_fn.ensures.items
