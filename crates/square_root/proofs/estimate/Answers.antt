use Rattle.std.proofs.Common.{arith}
use Rattle.square_root.proofs.Patterns.{no_nan_bits}
use Rattle.square_root.proofs.estimate.Goals as goal

pub float_from_bits-x : goal.float_from_bits-x
float_from_bits-x c = no_nan_bits _ (omega arith)

pub float_from_bits-scale : goal.float_from_bits-scale
float_from_bits-scale c = no_nan_bits _ (omega arith)
