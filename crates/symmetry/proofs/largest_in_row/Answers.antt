-- Kept: the search opens the definition only where it is told to.
use Rattle.std.proofs.Common.{rules}
use Rattle.symmetry.specs.Symmetry.{largest_in_row}
use Rattle.symmetry.proofs.largest_in_row.Goals as goal

pub returns : goal.returns
unfolding largest_in_row
returns g c = search rules
