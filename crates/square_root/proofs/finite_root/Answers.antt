use Rattle.std.proofs.Common.{sym, arith, rules}
use lib.Ieee.{binary64, to_bits}
use lib.Ieee.Bits.{of_bits-to_bits}
use Rattle.square_root.proofs.Patterns.{no_nan_bits, lt_no_nan'}
use Rattle.square_root.proofs.finite_root.Goals as goal

pub float_to_bits-v : goal.float_to_bits-v
float_to_bits-v c = lt_no_nan' _ _ c.if-v.true

pub returns-then-is_root : goal.returns-then-is_root
returns-then-is_root c =
    let v = c.estimate-v.result in
    record { pattern = to_bits binary64 v; is = sym (of_bits-to_bits binary64 v (search rules)); right = c.is_root.ensures c.if-is_root.true }

pub float_from_bits-result : goal.float_from_bits-result
float_from_bits-result c = no_nan_bits _ (omega (arith, c.root_bits.ensures.rounded.range, c.root_bits.ensures.normal))

pub float_from_bits-result-2 : goal.float_from_bits-result-2
float_from_bits-result-2 c = no_nan_bits _ (omega (arith, c.root_bits-2.ensures.rounded.range, c.root_bits-2.ensures.normal))
