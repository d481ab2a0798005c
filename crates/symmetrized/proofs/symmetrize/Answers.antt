use Rattle.std.proofs.Common.{rules}
use mathlib.Core.List.{[]}
use Rattle.matrix.specs.Matrix.{symmetrized}
use Rattle.matrix.proofs.Filled.{filled}
use Rattle.symmetrized.proofs.symmetrize.Goals as goal

pub returns : goal.returns
unfolding symmetrized
returns g c = filled _ _ _ _ (λ k b y q r. (search rules, search rules)) _ [] c.from_fn.ensures.items
