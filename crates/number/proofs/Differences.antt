-- What a difference from +0, and from a number that is no larger, is. Assumes nothing.
use Rattle.std.proofs.Common.{◌≡◌, ℕ, zero, suc, ◌+◌, ◌-◌, ◌*◌, ◌<◌, Bool, true, false, cond, not, ◌&&◌, T, ltb, ℤ, sym, refl, ap, ◌∙◌, mul-pos, arith, ltb-false}
use lib.Ieee.{Float, nan, inf, fin, binary64, up, down, below, round, sum, add, sub, neg, lt, eq, fits, of_bits}
use lib.Ieee.Fits.{down_pos}
use lib.Ieee.Scale.{finite}
use Rattle.number.proofs.Zeros.{impossible, not_zero, positive_not_below}
use Rattle.number.proofs.Held.{zero_of, zero_exponent, zero_round, zeros_add, add_zero_of}
use Rattle.number.proofs.Plus.{is_plus, round_plus}

pub zero_of_lem : (x : Float) → T (fits binary64 x) → eq x (of_bits binary64 0) ≡ true → (s : Bool) × (x ≡ zero_of s)
unfolding eq of_bits
zero_of_lem nan p e = impossible e
zero_of_lem (inf s) p e = impossible e
zero_of_lem (fin s zero e) p h = (s, ap (fin s zero) (zero_exponent binary64 s e p))
zero_of_lem (fin s (suc m) e) p h = not_zero s m e h

-- +0 takes nothing away
pub less_zero : (x : Float) → T (fits binary64 x) → sub binary64 x (zero_of false) ≡ x
unfolding sub neg add
less_zero nan p = refl
less_zero (inf s) p = refl
less_zero (fin s zero e) p =
    let q = zero_exponent binary64 s e p in
    ap (λ (x : ℤ). sub binary64 (fin s zero x) (zero_of false)) q ∙ zeros_add s true ∙ ap zero_of (own_sign s) ∙ ap (fin s zero) (sym q)
  where
    own_sign : (s : Bool) → (s && true) ≡ s
    own_sign true = refl
    own_sign false = refl
less_zero (fin s (suc m) e) p = add_zero_of s true m e p

-- ---- what is no less than another leaves no number below 0

pub plus_not_below : (x : Float) → is_plus x ≡ true → lt x (zero_of false) ≡ false
unfolding lt of_bits
plus_not_below nan p = impossible p
plus_not_below (inf true) p = impossible p
plus_not_below (inf false) p = refl
plus_not_below (fin true m e) p = impossible p
plus_not_below (fin false m e) p = go (lt (fin false m e) (zero_of false)) refl
  where
    go : (b : Bool) → lt (fin false m e) (zero_of false) ≡ b → b ≡ false
    go true h = positive_not_below m e h
    go false h = refl

round_not_below : (a c : ℕ) → lt (round binary64 false a c) (zero_of false) ≡ false
round_not_below a c = plus_not_below (round binary64 false a c) (round_plus binary64 a c)

-- ±a / c less ±b / c, where the first is no less
difference : (s t : Bool) (a b c : ℕ) → 0 < c → below s a t b ≡ false → lt (sum binary64 s a (not t) b c) (zero_of false) ≡ false
unfolding sum lt
difference false false a b c h n = ap (λ (x : Bool). lt (cond x (round binary64 true (b - a) c) (round binary64 false (a - b) c)) (zero_of false)) n ∙ round_not_below (a - b) c
difference false true a b c h n = round_not_below (a + b) c
difference true false a b c h n =
    let z : a + b ≡ 0 = let l = ltb-false 0 (a + b) n in omega (arith, l) in
    ap (λ (x : ℕ). lt (round binary64 true x c) (zero_of false)) z ∙ ap (λ (x : Float). lt x (zero_of false)) (zero_round binary64 true c h)
difference true true a b c h n = go (ltb a b)
  where
    go : (x : Bool) → lt (cond x (round binary64 false (b - a) c) (round binary64 (ltb b a) (a - b) c)) (zero_of false) ≡ false
    go true = round_not_below (b - a) c
    go false = ap (λ (x : Bool). lt (round binary64 x (a - b) c) (zero_of false)) n ∙ round_not_below (a - b) c

pub sub_not_below : (x y : Float) → finite x ≡ true → finite y ≡ true → lt x y ≡ false → lt (sub binary64 x y) (zero_of false) ≡ false
unfolding sub neg add lt
sub_not_below nan y f g n = impossible f
sub_not_below (inf s) y f g n = impossible f
sub_not_below (fin s m e) nan f g n = impossible g
sub_not_below (fin s m e) (inf t) f g n = impossible g
sub_not_below (fin s m e) (fin t k d) f g n = difference s t (m * up e * down d) (k * up d * down e) (down e * down d) (mul-pos (down_pos e) (down_pos d)) n
