-- Kept: the search opens the definition only where it is told to.
use Rattle.std.proofs.Common.{rules}
use Rattle.symmetry.specs.Symmetry.{mirrored}
use Rattle.symmetry.proofs.is_mirrored.Goals as goal

pub returns : goal.returns
unfolding mirrored
returns g c = search rules
