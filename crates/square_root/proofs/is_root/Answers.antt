use Rattle.std.proofs.Common.{◌≡◌, ℕ, ◌+◌, ◌-◌, ◌*◌, ◌/◌, ◌%◌, ◌^◌, sym, subst, true≢false, arith}
use Rattle.square_root.specs.RootSteps.{PatternOf}
use Rattle.square_root.proofs.Powers.{scaled_least, scaled_most, pattern}
use Rattle.square_root.proofs.is_root.Goals as goal

pub returns-then-r-below : goal.returns-then-r-below
returns-then-r-below c = λ e. absurd (true≢false (sym e))

pub overflow_mul-m : goal.overflow_mul-m
overflow_mul-m c = let x = c.unpack-x in omega (arith, scaled_most x.result.digits (x.result.exponent % 2) (omega arith) x.ensures.most)

pub is_nearest-requires : goal.is_nearest-requires
is_nearest-requires c =
    let x = c.unpack-x in
    (scaled_least x.result.digits (x.result.exponent % 2) (omega arith) x.ensures.least, scaled_most x.result.digits (x.result.exponent % 2) (omega arith) x.ensures.most)

pub returns : goal.returns
returns c = λ e.
    let x = c.unpack-x in
    let a = c.args in
    let below = (x.result.exponent - 52) / 2 * 2 ^ 52 in
    let r : below + (a.r - below) ≡ a.r = omega (arith, c.if-r-below.false) in
    subst (λ (w : ℕ). PatternOf w a.r) x.ensures.is
    (subst (λ (p : ℕ). PatternOf (x.result.digits * 2 ^ x.result.exponent) p) r
    (pattern x.result.digits x.result.exponent (a.r - below) x.ensures.least x.ensures.most x.ensures.low x.ensures.high (c.is_nearest.ensures e)))
