-- The sequence of batches goes as by hand, by computation.
use mathlib.Core.Path.{refl}
use Rattle.recorded.proofs.Opened.{opened}
use Rattle.worked.specs.Case.{All}
use Rattle.worked.specs.Sequences.{sequence_cases}

pub sequences_hold : All sequence_cases
unfolding opened
sequences_hold = (refl, (refl, (refl, (refl, (refl, (refl, tt))))))
