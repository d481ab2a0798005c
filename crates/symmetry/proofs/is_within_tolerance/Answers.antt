-- Kept: the search opens the definition only where it is told to.
use Rattle.symmetry.specs.Symmetry.{is_symmetric}
use Rattle.symmetry.proofs.is_within_tolerance.Goals as goal

pub returns : goal.returns
unfolding is_symmetric
returns g c = cc
