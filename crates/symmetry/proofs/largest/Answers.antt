-- Kept: the search opens the definition only where it is told to.
use Rattle.std.proofs.Common.{rules}
use Rattle.symmetry.specs.Symmetry.{largest}
use Rattle.symmetry.proofs.largest.Goals as goal

pub returns : goal.returns
unfolding largest
returns g c = search rules
