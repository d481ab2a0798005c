-- Comparisons of a finite value with zero. Assumes nothing.
use Rattle.std.proofs.Common.{◌≡◌, ℕ, zero, suc, ◌+◌, ◌*◌, ◌<◌, Bool, true, false, ◌&&◌, ℤ, sym, refl, ap, ◌∙◌, true≢false, zero-lt-suc, mul-pos, zero-mul, arith, ltb-false, ltb-true, eqb-true}
use lib.Ieee.{fin, binary64, up, down, level, lt, eq, of_bits}
use lib.Ieee.Fits.{up_pos}

pub impossible {ℓ} : {A : Type ℓ} → false ≡ true → A
impossible p = absurd (true≢false (sym p))

-- the sides of a comparison with zero: a digit that isn't zero, one that is, and zero itself
pub some : (m : ℕ) (e : ℤ) → 0 < suc m * up e * 1
some m e = mul-pos (mul-pos (zero-lt-suc m) (up_pos e)) (zero-lt-suc 0)

pub none : (e : ℤ) → zero * up e * 1 ≡ 0
none e = ap (λ (x : ℕ). x * 1) (zero-mul (up e))

pub zero_side : (e : ℤ) → 0 * 1 * down e ≡ 0
zero_side e = zero-mul (down e)

pub both : (a b : Bool) → (a && b) ≡ true → (a ≡ true) × (b ≡ true)
both true b p = (refl, p)
both false b p = impossible p

pub not_zero {ℓ} : {A : Type ℓ} (s : Bool) (m : ℕ) (e : ℤ) → eq (fin s (suc m) e) (of_bits binary64 0) ≡ true → A
unfolding eq of_bits
not_zero s m e h = absurd (omega (arith, eqb-true (suc m * up e * 1) (0 * 1 * down e) (both _ _ h).0, some m e, zero_side e))

pub negative_below {ℓ} : {A : Type ℓ} (m : ℕ) (e : ℤ) → lt (fin true (suc m) e) (of_bits binary64 0) ≡ false → A
unfolding lt of_bits
negative_below m e h = absurd (omega (arith, ltb-false 0 (suc m * up e * 1 + 0 * 1 * down e) h, some m e))

zeros_level : (s : Bool) → level s 0 false 0 ≡ true
zeros_level true = refl
zeros_level false = refl

pub zero_equal : (s : Bool) (e : ℤ) → eq (fin s zero e) (of_bits binary64 0) ≡ true
unfolding eq of_bits
zero_equal s e = ap (λ (x : ℕ). level s x false (0 * 1 * down e)) (none e) ∙ ap (λ (y : ℕ). level s 0 false y) (zero_side e) ∙ zeros_level s

pub positive_not_below {ℓ} : {A : Type ℓ} (m : ℕ) (e : ℤ) → lt (fin false m e) (of_bits binary64 0) ≡ true → A
unfolding lt of_bits
positive_not_below m e h = absurd (omega (arith, ltb-true (m * up e * 1) (0 * 1 * down e) h, zero_side e))

pub positive_above {ℓ} : {A : Type ℓ} (m : ℕ) (e : ℤ) → lt (of_bits binary64 0) (fin false (suc m) e) ≡ false → A
unfolding lt of_bits
positive_above m e h = absurd (omega (arith, ltb-false (0 * 1 * down e) (suc m * up e * 1) h, some m e, zero_side e))
