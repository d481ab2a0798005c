-- The difference of two equal numbers is no larger than +0. Assumes nothing.
use Rattle.std.proofs.Common.{◌≡◌, ℕ, ◌+◌, ◌-◌, ◌*◌, ◌<◌, Bool, true, false, cond, not, ◌&&◌, ◌||◌, eqb, ltb, sym, refl, ap, ◌∙◌, subst, ap₂, mul-pos, arith, eq-eqb, eqb-true}
use mathlib.Core.Bool.{beq}
use lib.Ieee.{Float, nan, inf, fin, binary64, up, down, round, sum, add, sub, neg, lt, eq, level}
use lib.Ieee.Fits.{down_pos}
use Rattle.number.specs.Float.{absolute_of, larger_of}
use Rattle.number.proofs.Zeros.{impossible, both}
use Rattle.number.proofs.Held.{zero_of, zero_round}

-- ±a / c less ±b / c, where the two are level
level_sum : (s t : Bool) (a b c : ℕ) → 0 < c → level s a t b ≡ true → absolute_of (sum binary64 s a (not t) b c) ≡ zero_of false
unfolding sum
level_sum s t a b c h v =
    let l = both (eqb a b) (beq s t || eqb a 0) v in
    subst (λ (x : ℕ). absolute_of (sum binary64 s a (not t) x c) ≡ zero_of false) (eqb-true a b l.0) (same s t l.1)
  where
    -- the signs are one: the difference is 0 / c
    apart : (s : Bool) → absolute_of (cond (ltb a a) (round binary64 (not s) (a - a) c) (round binary64 (s && ltb a a) (a - a) c)) ≡ zero_of false
    apart s =
        let z : a - a ≡ 0 = omega arith in
        ap (λ (x : ℕ). absolute_of (cond (ltb a a) (round binary64 (not s) x c) (round binary64 (s && ltb a a) x c))) z
        ∙ nothing (ltb a a) (not s) (s && ltb a a)
      where
        nothing : (b p q : Bool) → absolute_of (cond b (round binary64 p 0 c) (round binary64 q 0 c)) ≡ zero_of false
        nothing true p q = ap absolute_of (zero_round binary64 p c h)
        nothing false p q = ap absolute_of (zero_round binary64 q c h)

    -- they are not, and both are zeros
    joined : (s : Bool) → eqb a 0 ≡ true → absolute_of (round binary64 s (a + a) c) ≡ zero_of false
    joined s e =
        let z : a + a ≡ 0 = let q = eqb-true a 0 e in omega (arith, q) in
        ap (λ (x : ℕ). absolute_of (round binary64 s x c)) z ∙ ap absolute_of (zero_round binary64 s c h)

    same : (s t : Bool) → (beq s t || eqb a 0) ≡ true → absolute_of (sum binary64 s a (not t) a c) ≡ zero_of false
    same true true p = apart true
    same false false p = apart false
    same true false p = joined true p
    same false true p = joined false p

-- the larger of +0 and |x - y|
abbrev pub NoDifference : Float → Float → Type 0
NoDifference x y = larger_of (zero_of false) (absolute_of (sub binary64 x y)) ≡ zero_of false

larger_nan : larger_of (zero_of false) nan ≡ zero_of false
unfolding lt
larger_nan = refl

larger_zero : (x : Float) → x ≡ zero_of false → larger_of (zero_of false) x ≡ zero_of false
unfolding lt
larger_zero x e = ap (larger_of (zero_of false)) e

pub equal_difference : (x y : Float) → eq x y ≡ true → NoDifference x y
unfolding eq sub add neg
equal_difference nan y p = impossible p
equal_difference (inf s) nan p = impossible p
equal_difference (inf true) (inf true) p = larger_nan
equal_difference (inf true) (inf false) p = impossible p
equal_difference (inf false) (inf true) p = impossible p
equal_difference (inf false) (inf false) p = larger_nan
equal_difference (inf s) (fin t n d) p = impossible p
equal_difference (fin s m e) nan p = impossible p
equal_difference (fin s m e) (inf t) p = impossible p
equal_difference (fin s m e) (fin t n d) p =
    larger_zero (absolute_of (sub binary64 (fin s m e) (fin t n d))) (level_sum s t (m * up e * down d) (n * up d * down e) (down e * down d) (mul-pos (down_pos e) (down_pos d)) p)

pub eq_turned : (x y : Float) → eq x y ≡ true → eq y x ≡ true
unfolding eq
eq_turned nan y p = impossible p
eq_turned (inf s) nan p = impossible p
eq_turned (inf true) (inf true) p = refl
eq_turned (inf true) (inf false) p = impossible p
eq_turned (inf false) (inf true) p = impossible p
eq_turned (inf false) (inf false) p = refl
eq_turned (inf s) (fin t n d) p = impossible p
eq_turned (fin s m e) nan p = impossible p
eq_turned (fin s m e) (inf t) p = impossible p
eq_turned (fin s m e) (fin t n d) p = turned s t (m * up e * down d) (n * up d * down e) p
  where
    turned : (s t : Bool) (a b : ℕ) → level s a t b ≡ true → level t b s a ≡ true
    turned s t a b v =
        let l = both (eqb a b) (beq s t || eqb a 0) v in
        let h = eqb-true a b l.0 in
        ap₂ ◌&&◌ (eq-eqb b a (sym h)) (subst (λ (x : ℕ). (beq t s || eqb x 0) ≡ true) h (signs s t l.1))
      where
        signs : (s t : Bool) → (beq s t || eqb a 0) ≡ true → (beq t s || eqb a 0) ≡ true
        signs true true q = q
        signs true false q = q
        signs false true q = q
        signs false false q = q

-- a number less itself; that of a NaN or of an infinity is a NaN, which is no larger than +0
pub own_difference : (x : Float) → NoDifference x x
unfolding sub add neg eq
own_difference nan = larger_nan
own_difference (inf true) = larger_nan
own_difference (inf false) = larger_nan
own_difference (fin s m e) = equal_difference (fin s m e) (fin s m e) (itself s (m * up e * down e))
  where
    itself : (s : Bool) (a : ℕ) → level s a s a ≡ true
    itself true a = ap (λ (b : Bool). b && true) (eq-eqb a a refl)
    itself false a = ap (λ (b : Bool). b && true) (eq-eqb a a refl)
