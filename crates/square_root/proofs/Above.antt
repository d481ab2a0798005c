-- The root of a number above zero is above zero. Assumes nothing.
use Rattle.std.proofs.Common.{◌≡◌, ℕ, zero, suc, ◌+◌, ◌-◌, ◌*◌, ◌/◌, ◌^◌, ◌<◌, ◌≤◌, Bool, true, false, cond, T, ltb, ℤ, sym, refl, ap, ◌∙◌, subst, le_trans, le_of_eq, le_refl, mul-le-mul_right, zero-lt-suc, mul-pos, one-mul, zero-mul, mul-one, arith, leb→le, pow_pos, pow_mono, pow-add, ltb-false, ltb-true}
use lib.Ieee.{Float, nan, inf, fin, binary64, up, down, size, odd, fits}
use lib.Ieee.Digits.{Equals, odd_val, size_reaches}
use lib.Ieee.Fits.{up_pos, down_pos}
use lib.Ieee.Nearest.{div_mono}
use Rattle.number.specs.Reply.{given}
use Rattle.number.proofs.Held.{low_enough}
use Rattle.square_root.specs.Root.{root_by, root_of, root_reply}

-- ---- the whole number nearest a root

module _ (n : ℕ) where
  pub grows : (k q : ℕ) → q ≤ root_by k n q
  unfolding root_by
  grows zero q = le_refl q
  grows (suc k) q = go (ltb ((q + 2 ^ k) * (q + 2 ^ k)) (n + (q + 2 ^ k))) (grows k (q + 2 ^ k)) (grows k q)
    where
      go : (b : Bool) → q + 2 ^ k ≤ root_by k n (q + 2 ^ k) → q ≤ root_by k n q → q ≤ root_by k n (cond b (q + 2 ^ k) q)
      go true h l = omega (arith, h)
      go false h l = l

  pub some : 0 < n → (k : ℕ) → 0 < root_by (suc k) n 0
  unfolding root_by
  some h zero = go (ltb 1 (n + 1)) refl
    where
      go : (b : Bool) → ltb 1 (n + 1) ≡ b → 0 < cond b 1 0
      go true e = zero-lt-suc 0
      go false e = absurd (omega (arith, h, ltb-false 1 (n + 1) e))
  some h (suc k) = go (ltb ((0 + 2 ^ suc k) * (0 + 2 ^ suc k)) (n + (0 + 2 ^ suc k))) (grows (suc k) (0 + 2 ^ suc k)) (some h k)
    where
      go : (b : Bool) → 0 + 2 ^ suc k ≤ root_by (suc k) n (0 + 2 ^ suc k) → 0 < root_by (suc k) n 0 → 0 < root_by (suc k) n (cond b (0 + 2 ^ suc k) 0)
      go true g l = omega (arith, g, pow_pos (suc k))
      go false g l = l

at_least_one : (a b : ℕ) → 0 < b → b ≤ a → 0 < a / b
at_least_one a b p h = let q : 1 / 1 ≤ a / b = div_mono 1 1 a b (zero-lt-suc 0) p (omega (arith, h, one-mul b, mul-one a)) in q

half_of : (z : ℕ) → (z - 105) / 2 + (z - 105) / 2 ≤ z - 105
half_of z = omega arith

-- what is cut off leaves something
pub cut_some : (w : ℕ) → 0 < w → 0 < w / (2 ^ ((size w - 105) / 2) * 2 ^ ((size w - 105) / 2))
cut_some w h = at_least_one w (2 ^ j * 2 ^ j) (mul-pos (pow_pos j) (pow_pos j)) (subst (λ (x : ℕ). x ≤ w) (pow-add 2 j j) (reach (ltb 0 (size w)) refl))
  where
    j : ℕ
    j = (size w - 105) / 2

    reach : (b : Bool) → ltb 0 (size w) ≡ b → 2 ^ (j + j) ≤ w
    reach true e = size_reaches w (j + j) (omega (arith, half_of (size w), ltb-true 0 (size w) e))
    reach false e = let z : j + j ≡ 0 = omega (arith, half_of (size w), ltb-false 0 (size w) e) in subst (λ (x : ℕ). 2 ^ x ≤ w) (sym z) h

-- ---- the root itself

-- a value above zero that is no infinity
pub record Above (v : Float) : Type 0 where
  pub digits : ℕ
  pub power : ℤ
  pub is : v ≡ fin false (suc digits) power

abbrev minus : Float → Bool
minus nan = true
minus (inf s) = s
minus (fin s m e) = s

odd_plus : (d q k l : ℕ) → minus (odd d false q k l) ≡ false
unfolding odd
odd_plus d zero k l = refl
odd_plus d (suc q) k l = refl

value_above : (v : Float) (a c : ℕ) → Equals v a c → 0 < a → minus v ≡ false → Above v
value_above nan a c e h s = absurd e
value_above (inf t) a c e h s = absurd e
value_above (fin t zero d) a c e h s = absurd (omega (arith, sym e ∙ ap (λ (x : ℕ). x * c) (zero-mul (up d)) ∙ zero-mul c, mul-pos h (down_pos d)))
value_above (fin t (suc m) d) a c e h s = record { digits = m; power = d; is = ap (λ (b : Bool). fin b (suc m) d) s }

root_of_above : (w : ℕ) → 0 < w → Above (root_of w)
unfolding root_of
root_of_above w h =
    let j = (size w - 105) / 2 in
    let q = root_by 53 (w / (2 ^ j * 2 ^ j)) 0 in
    value_above (odd 53 false q j 1074) (q * 2 ^ j) (2 ^ 1074) (odd_val 53 false q j 1074) (mul-pos (some (w / (2 ^ j * 2 ^ j)) (cut_some w h) 52) (pow_pos j)) (odd_plus 53 q j 1074)

weight_some : (m : ℕ) (e : ℤ) → down e ≤ 2 ^ 1074 → 0 < suc m * up e * 2 ^ 2148 / down e
weight_some m e h =
    at_least_one (suc m * up e * 2 ^ 2148) (down e) (down_pos e)
    (scaled (suc m * up e) (2 ^ 2148) (down e) (mul-pos (zero-lt-suc m) (up_pos e)) (le_trans h (pow_mono (leb→le 1074 2148 tt))))
  where
    scaled : (a b d : ℕ) → 0 < a → d ≤ b → d ≤ a * b
    scaled a b d p q = le_trans q (le_trans (le_of_eq (sym (one-mul b))) (mul-le-mul_right b p))

-- the root of a finite value above zero
pub root_above : (m : ℕ) (e : ℤ) → T (fits binary64 (fin false (suc m) e)) → (v : Float) × (given v ≡ root_reply (fin false (suc m) e)) × Above v
unfolding root_reply
root_above m e t = (root_of (suc m * up e * 2 ^ 2148 / down e), refl, root_of_above _ (weight_some m e (low_enough binary64 false m e t)))
