-- A sum is -0 only where both of its terms are: no sum of two values is so small that it is rounded to a zero. Assumes nothing.
use Rattle.std.proofs.Common.{◌≡◌, ℕ, zero, suc, ◌+◌, ◌-◌, ◌*◌, ◌/◌, ◌%◌, ◌^◌, ◌<◌, ◌≤◌, Bool, true, false, cond, ◌&&◌, T, ltb, ◌⊎◌, ℤ, sym, refl, ap, ◌∙◌, subst, ap₂, inl, inr, le_trans, le_of_eq, lt_of_lt_of_le, zero-lt-suc, mul_assoc, mul_comm, add-mul, mul-pos, one-mul, le-div_iff_mul-le, zero-mul, mul_right_comm, arith, pow_pos, ltb-true}
use Prim.Native.Nat.{compare}
use native.Mathlib.Nat.{mul-sub}
use lib.Ieee.{Float, nan, inf, fin, Format, binary64, prec, emax, low, up, down, size, nearest, odd, units, round, sum, add, fits}
use lib.Ieee.Digits.{size-lt, size_reaches}
use lib.Ieee.Exact.{HasValue, odd_sign}
use lib.Ieee.Fits.{round_is, two, up_pos, down_pos}
use lib.Ieee.Nearest.{nearest-ge}
use Rattle.number.proofs.Zeros.{impossible}
use Rattle.number.proofs.Held.{low_enough, zero_exponent, units_of_lem}
use Rattle.number.proofs.Plus.{is_plus, round_plus}

abbrev pub is_minus_zero : Float → Bool
is_minus_zero nan = false
is_minus_zero (inf s) = false
is_minus_zero (fin s zero e) = s
is_minus_zero (fin s (suc m) e) = false

-- ---- a fraction that is no less than the smallest value is not rounded to a zero

of_value : (x : Float) (s : Bool) (a c : ℕ) → HasValue x s a c → 0 < a → is_minus_zero x ≡ false
of_value nan s a c v h = refl
of_value (inf t) s a c v h = refl
of_value (fin t zero e) s a c v h = absurd (omega (arith, v.1, mul-pos h (down_pos e), zero-mul (up e), ap (λ (x : ℕ). x * c) (zero-mul (up e)), zero-mul c))
of_value (fin t (suc m) e) s a c v h = refl

units_some : (f : Format) (s : Bool) (q k : ℕ) → 0 < q → is_minus_zero (units f s q k) ≡ false
unfolding units
units_some f s q k h = go (ltb (q * 2 ^ k) (2 ^ (low f + suc (emax f))))
  where
    go : (b : Bool) → is_minus_zero (cond b (odd (suc (prec f)) s q k (low f)) (inf s)) ≡ false
    go true = of_value (odd (suc (prec f)) s q k (low f)) s (q * 2 ^ k) (2 ^ low f) (odd_sign (suc (prec f)) s q k (low f)) (mul-pos h (pow_pos k))
    go false = refl

some_digits : (n : ℕ) → 0 < n → 0 < size n
some_digits n h = go (size n) (size-lt n)
  where
    go : (k : ℕ) → n < 2 ^ k → 0 < k
    go zero l = absurd (omega (arith, h, l))
    go (suc k) l = zero-lt-suc k

fewer : (z p : ℕ) → 0 < z → 2 ≤ p → z - p < z
fewer z p h k = omega arith

-- a / c with c ≤ a in units of the smallest value
round_some : (f : Format) (s : Bool) (a c : ℕ) → 0 < c → c ≤ a * 2 ^ low f → is_minus_zero (round f s a c) ≡ false
round_some f s a c C h =
    let n = a * 2 ^ low f in
    let k = size (n / c) - prec f in
    let u = c * 2 ^ k in
    let w : 1 ≤ n / c = (le-div_iff_mul-le C).1 (le_trans (le_of_eq (one-mul c)) h) in
    let d : 2 ^ k * c ≤ n = (le-div_iff_mul-le C).0 (size_reaches (n / c) k (fewer (size (n / c)) (prec f) (some_digits (n / c) w) (two f))) in
    let q : 1 ≤ n / u = (le-div_iff_mul-le (mul-pos C (pow_pos k))).1 (le_trans (le_of_eq (one-mul u ∙ mul_comm c (2 ^ k))) d) in
    ap is_minus_zero (round_is f s a c) ∙ units_some f s (nearest (n / u) (compare (n % u * 2) u)) k (lt_of_lt_of_le q (nearest-ge (n / u) (compare (n % u * 2) u)))

pub plus_no_minus : (x : Float) → is_plus x ≡ true → is_minus_zero x ≡ false
plus_no_minus nan p = refl
plus_no_minus (inf s) p = refl
plus_no_minus (fin true m e) p = impossible p
plus_no_minus (fin false zero e) p = refl
plus_no_minus (fin false (suc m) e) p = refl

-- ---- ±a / c + ±b / c, both whole numbers of the smallest value

module _ (c : ℕ) (C : 0 < c) where
  abbrev Whole : ℕ → Type 0
  Whole a = (w : ℕ) × (a * 2 ^ low binary64 ≡ w * c)

  at_least : (w x : ℕ) → 0 < x → x ≡ w * c → c ≤ x
  at_least zero x h e = absurd (omega (arith, h, e, zero-mul c))
  at_least (suc w) x h e = omega (arith, e, add-mul 1 w c, one-mul c)

  whole_some : (s : Bool) (a : ℕ) → Whole a → 0 < a → is_minus_zero (round binary64 s a c) ≡ false
  whole_some s a (w, e) h = round_some binary64 s a c C (at_least w (a * 2 ^ low binary64) (mul-pos h (pow_pos (low binary64))) e)

  whole_sum : (a b : ℕ) → Whole a → Whole b → Whole (a + b)
  whole_sum a b (v, p) (w, q) = (v + w, add-mul a b (2 ^ low binary64) ∙ ap₂ (λ (x y : ℕ). x + y) p q ∙ sym (add-mul v w c))

  whole_less : (a b : ℕ) → Whole a → Whole b → Whole (a - b)
  whole_less a b (v, p) (w, q) = let l = 2 ^ low binary64 in (
    v - w,
    mul_comm (a - b) l ∙ mul-sub l a b ∙ ap₂ (λ (x y : ℕ). x - y) (mul_comm l a ∙ p ∙ mul_comm v c) (mul_comm l b ∙ q ∙ mul_comm w c) ∙ sym (mul-sub c v w) ∙ mul_comm c (v - w),
  )

  apart : (s t : Bool) (a b : ℕ) → Whole a → Whole b → (s && t) ≡ false → is_minus_zero (cond (ltb a b) (round binary64 t (b - a) c) (round binary64 (s && ltb b a) (a - b) c)) ≡ false
  apart s t a b p q n = less (ltb a b) refl
    where
      no_less : (x : Bool) → ltb b a ≡ x → is_minus_zero (round binary64 (s && x) (a - b) c) ≡ false
      no_less true e = let l = ltb-true b a e in whole_some (s && true) (a - b) (whole_less a b p q) (omega (arith, l))
      no_less false e = ap (λ (x : Bool). is_minus_zero (round binary64 x (a - b) c)) (never s) ∙ plus_no_minus (round binary64 false (a - b) c) (round_plus binary64 (a - b) c)
        where
          never : (s : Bool) → (s && false) ≡ false
          never true = refl
          never false = refl

      less : (x : Bool) → ltb a b ≡ x → is_minus_zero (cond x (round binary64 t (b - a) c) (round binary64 (s && ltb b a) (a - b) c)) ≡ false
      less true e = let l = ltb-true a b e in whole_some t (b - a) (whole_less b a q p) (omega (arith, l))
      less false e = no_less (ltb b a) refl

  -- not both are negative, or they are not both zeros
  sum_no_minus : (s t : Bool) (a b : ℕ) → Whole a → Whole b → ((s && t) ≡ false) ⊎ (0 < a + b) → is_minus_zero (sum binary64 s a t b c) ≡ false
  unfolding sum
  sum_no_minus true true a b p q (inl n) = impossible (sym n)
  sum_no_minus true true a b p q (inr h) = whole_some true (a + b) (whole_sum a b p q) h
  sum_no_minus false false a b p q n = plus_no_minus (round binary64 false (a + b) c) (round_plus binary64 (a + b) c)
  sum_no_minus true false a b p q n = apart true false a b p q refl
  sum_no_minus false true a b p q n = apart false true a b p q refl

-- ---- the values of binary64 are such

low_held : (s : Bool) (m : ℕ) (e : ℤ) → T (fits binary64 (fin s m e)) → down e ≤ 2 ^ low binary64
low_held s zero e p = subst (λ (x : ℤ). down x ≤ 2 ^ low binary64) (sym (zero_exponent binary64 s e p)) (pow_pos (low binary64))
low_held s (suc m) e p = low_enough binary64 s m e p

whole_of : (s : Bool) (m : ℕ) (e d : ℤ) → T (fits binary64 (fin s m e)) → (w : ℕ) × (m * up e * down d * 2 ^ low binary64 ≡ w * (down e * down d))
whole_of s m e d p =
    let j = units_of_lem (low binary64) e (low_held s m e p) in (
      m * 2 ^ j.0,
      mul_right_comm (m * up e) (down d) (2 ^ low binary64) ∙ ap (λ (x : ℕ). x * down d) (j.1 m) ∙ mul_assoc (m * 2 ^ j.0) (down e) (down d),
    )

and_never : (s t : Bool) → t ≡ false → (s && t) ≡ false
and_never true t e = e
and_never false t e = refl

some_of : (m : ℕ) (e d : ℤ) → 0 < suc m * up e * down d
some_of m e d = mul-pos (mul-pos (zero-lt-suc m) (up_pos e)) (down_pos d)

sides : (s t : Bool) (m n : ℕ) (e d : ℤ) → (is_minus_zero (fin s m e) ≡ false) ⊎ (is_minus_zero (fin t n d) ≡ false) → ((s && t) ≡ false) ⊎ (0 < m * up e * down d + n * up d * down e)
sides s t zero n e d (inl k) = inl (ap (λ (b : Bool). b && t) k)
sides s t (suc m) n e d (inl k) = inr (omega (arith, some_of m e d))
sides s t m zero e d (inr k) = inl (and_never s t k)
sides s t m (suc n) e d (inr k) = inr (omega (arith, some_of n d e))

pub add_no_minus : (x y : Float) → T (fits binary64 x) → T (fits binary64 y) → (is_minus_zero x ≡ false) ⊎ (is_minus_zero y ≡ false) → is_minus_zero (add binary64 x y) ≡ false
unfolding add
add_no_minus nan y p q k = refl
add_no_minus (inf s) nan p q k = refl
add_no_minus (inf true) (inf true) p q k = refl
add_no_minus (inf true) (inf false) p q k = refl
add_no_minus (inf false) (inf true) p q k = refl
add_no_minus (inf false) (inf false) p q k = refl
add_no_minus (inf s) (fin t n d) p q k = refl
add_no_minus (fin s m e) nan p q k = refl
add_no_minus (fin s m e) (inf t) p q k = refl
add_no_minus (fin s m e) (fin t n d) p q k =
    sum_no_minus (down e * down d) (mul-pos (down_pos e) (down_pos d)) s t (m * up e * down d) (n * up d * down e) (whole_of s m e d p)
    (subst (λ (c : ℕ). (w : ℕ) × (n * up d * down e * 2 ^ low binary64 ≡ w * c)) (mul_comm (down d) (down e)) (whole_of t n d e q))
    (sides s t m n e d k)
