use Rattle.std.proofs.Common.{rules}
use mathlib.Core.List.{[]}
use Rattle.symmetry.specs.Symmetry.{skew}
use Rattle.matrix.proofs.Filled.{filled}
use Rattle.symmetry.proofs.skew.Goals as goal

pub returns : goal.returns
unfolding skew
returns g c = filled _ _ _ _ (λ k b y q r. (search rules, search rules)) _ [] c.from_fn.ensures.items
