use Rattle.square_root.proofs.Patterns.{lt_no_nan'}
use Rattle.square_root.proofs.correct.Goals as goal

pub float_to_bits-guess : goal.float_to_bits-guess
float_to_bits-guess c = lt_no_nan' _ _ c.if-guess.true
