-- `association::pairs_of` meets its contract: the first j columns have their pairs. Assumes nothing.
use native.Mathlib.Omega.{arith}
use Rattle.association.proofs.Telling.{told_none}
use Rattle.association.proofs.pairs_of.Goals as goal

pub loop-j-init : goal.loop-j-init
loop-j-init c = (omega arith, told_none _ _ _ _ _ _ c.no_pairs-pairs.ensures)
