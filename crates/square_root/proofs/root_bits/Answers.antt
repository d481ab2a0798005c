use Rattle.std.proofs.Common.{ℕ, ◌+◌, ◌-◌, ◌*◌, ◌/◌, ◌%◌, ◌^◌, subst, arith}
use Rattle.square_root.specs.RootSteps.{PatternOf}
use Rattle.square_root.proofs.Powers.{scaled_least, scaled_most, q_most, pattern}
use Rattle.square_root.proofs.root_bits.Goals as goal

pub overflow_mul-m : goal.overflow_mul-m
overflow_mul-m c = let x = c.unpack-x in omega (arith, scaled_most x.result.digits (x.result.exponent % 2) (omega arith) x.ensures.most)

pub correct-q-requires : goal.correct-q-requires
correct-q-requires c =
    let x = c.unpack-x in
    (scaled_least x.result.digits (x.result.exponent % 2) (omega arith) x.ensures.least, scaled_most x.result.digits (x.result.exponent % 2) (omega arith) x.ensures.most)

pub overflow_add-result : goal.overflow_add-result
overflow_add-result c =
    let x = c.unpack-x in
    omega (arith, q_most x.result.digits x.result.exponent _ x.ensures.least x.ensures.most x.ensures.low x.ensures.high c.correct-q.ensures)

pub returns : goal.returns
returns c =
    let x = c.unpack-x in
    subst (λ (w : ℕ). PatternOf w ((x.result.exponent - 52) / 2 * 2 ^ 52 + c.correct-q.result)) x.ensures.is
    (pattern x.result.digits x.result.exponent _ x.ensures.least x.ensures.most x.ensures.low x.ensures.high c.correct-q.ensures)
