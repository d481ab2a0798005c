-- Numbers whose sign is plus, +0 and the infinity among them, and what keeps the sign. Assumes nothing.
use Rattle.std.proofs.Common.{◌≡◌, ℕ, zero, suc, ◌+◌, ◌*◌, ◌^◌, Bool, true, false, cond, not, ◌||◌, ltb, ℤ, refl, ap, ◌∙◌, zero-lt-suc, zero-mul, arith, lt-ltb, ne_eqb}
use lib.Ieee.{Float, nan, inf, fin, Format, binary64, prec, low, emax, up, down, odd, units, round, sum, add, mul, lt, eq, le, level}
use Rattle.number.specs.Float.{absolute_of, larger_of}
use Rattle.number.proofs.Zeros.{impossible}
use Rattle.number.proofs.Held.{zero_of}

abbrev pub is_plus : Float → Bool
is_plus nan = false
is_plus (inf s) = not s
is_plus (fin s m e) = not s

-- one of two such numbers
chosen : (b : Bool) (x y : Float) → is_plus x ≡ true → is_plus y ≡ true → is_plus (cond b x y) ≡ true
chosen true x y p q = p
chosen false x y p q = q

odd_plus : (d q k l : ℕ) → is_plus (odd d false q k l) ≡ true
unfolding odd
odd_plus d zero k l = refl
odd_plus d (suc q) k l = refl

units_plus : (f : Format) (q k : ℕ) → is_plus (units f false q k) ≡ true
unfolding units
units_plus f q k = chosen (ltb (q * 2 ^ k) (2 ^ (low f + suc (emax f)))) (odd (suc (prec f)) false q k (low f)) (inf false) (odd_plus (suc (prec f)) q k (low f)) refl

pub round_plus : (f : Format) (a c : ℕ) → is_plus (round f false a c) ≡ true
unfolding round
round_plus f a c = units_plus f _ _

pub add_plus : (x y : Float) → is_plus x ≡ true → is_plus y ≡ true → is_plus (add binary64 x y) ≡ true
unfolding add sum
add_plus nan y p q = impossible p
add_plus (inf s) nan p q = impossible q
add_plus (inf true) (inf t) p q = impossible p
add_plus (inf false) (inf true) p q = impossible q
add_plus (inf false) (inf false) p q = refl
add_plus (inf s) (fin t n d) p q = p
add_plus (fin s m e) nan p q = impossible q
add_plus (fin s m e) (inf t) p q = q
add_plus (fin true m e) (fin t n d) p q = impossible p
add_plus (fin false m e) (fin true n d) p q = impossible q
add_plus (fin false m e) (fin false n d) p q = round_plus binary64 (m * up e * down d + n * up d * down e) (down e * down d)

-- the first factor isn't a zero
pub mul_plus : (m : ℕ) (e : ℤ) (y : Float) → is_plus y ≡ true → is_plus (mul binary64 (fin false (suc m) e) y) ≡ true
unfolding mul
mul_plus m e nan q = impossible q
mul_plus m e (inf true) q = impossible q
mul_plus m e (inf false) q = ap (λ (b : Bool). is_plus (cond b nan (inf false))) (ne_eqb (suc m) 0 (λ z. omega (arith, z)))
mul_plus m e (fin true n d) q = impossible q
mul_plus m e (fin false n d) q = round_plus binary64 (suc m * up e * (n * up d)) (down e * down d)

-- the larger of two, where the second is a magnitude: a NaN is never the larger
pub larger_plus : (x y : Float) → is_plus x ≡ true → is_plus (larger_of x (absolute_of y)) ≡ true
unfolding lt
larger_plus nan y p = impossible p
larger_plus (inf s) nan p = p
larger_plus (inf s) (inf t) p = chosen (lt (inf s) (inf false)) (inf false) (inf s) refl p
larger_plus (inf s) (fin t n d) p = chosen (lt (inf s) (fin false n d)) (fin false n d) (inf s) refl p
larger_plus (fin s m e) nan p = p
larger_plus (fin s m e) (inf t) p = chosen (lt (fin s m e) (inf false)) (inf false) (fin s m e) refl p
larger_plus (fin s m e) (fin t n d) p = chosen (lt (fin s m e) (fin false n d)) (fin false n d) (fin s m e) refl p

-- +0 is at most every such number
pub zero_at_most : (x : Float) → is_plus x ≡ true → le (zero_of false) x ≡ true
unfolding le lt eq
zero_at_most nan p = impossible p
zero_at_most (inf true) p = impossible p
zero_at_most (inf false) p = refl
zero_at_most (fin true m e) p = impossible p
zero_at_most (fin false m e) p = ap (λ (x : ℕ). ltb x (m * up e * 1) || level false x false (m * up e * 1)) (zero-mul (down e)) ∙ from (m * up e * 1)
  where
    from : (n : ℕ) → (ltb 0 n || level false 0 false n) ≡ true
    from zero = refl
    from (suc n) = ap (λ (b : Bool). b || level false 0 false (suc n)) (lt-ltb 0 (suc n) (zero-lt-suc n))
