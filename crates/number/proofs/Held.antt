-- A value that a format holds is rounded to itself. So 1 leaves every factor as it is, and a zero every term that isn't one. Assumes nothing.
use Rattle.std.proofs.Common.{◌≡◌, ℕ, zero, suc, ◌+◌, ◌-◌, ◌*◌, ◌%◌, ◌^◌, ◌<◌, ◌≤◌, Bool, true, false, cond, ◌&&◌, T, eqb, ltb, leb, ℤ, pos, negsuc, sym, refl, ap, ◌∙◌, subst, add-zero, zero-lt-suc, mul_assoc, mul_comm, lt_of_mul-lt-mul_right, mul-lt-mul_of_pos_right, mul-pos, one-mul, pow-suc, zero-add, zero-mul, mul-one, mul_left_comm, arith, eqb→eq, ltb→lt, leb→le, pow_pos, pow-add, ltb-false, ltb-true, le-ltb, lt-ltb}
use native.Mathlib.Nat.{pow-succ', eq_of_mul-eq-mul_right}
use lib.Pow.{pow-lt}
use lib.Ieee.{Float, nan, inf, fin, Format, binary32, binary64, prec, emax, low, up, down, unlike, round, sum, add, mul, fits, of_bits}
use lib.Ieee.Fits.{round-fits, up_pos, down_pos, and_l, and_r}
use lib.Ieee.Exact.{HasValue, round_exact}
use lib.Ieee.Scale.{round_same}

-- ---- what it is to be held

parts : (f : Format) (s : Bool) (m : ℕ) (e : ℤ) → T (fits f (fin s (suc m) e)) → (suc m % 2 ≡ 1) × (suc m < 2 ^ prec f) × (down e ≤ 2 ^ low f) × (suc m * up e < 2 ^ suc (emax f) * down e)
unfolding fits
parts f s m e t =
    let a = eqb (suc m % 2) 1 in
    let b = ltb (suc m) (2 ^ prec f) in
    let c = leb (down e) (2 ^ low f) in
    let d = ltb (suc m * up e) (2 ^ suc (emax f) * down e) in (
      eqb→eq (suc m % 2) 1 (and_l a b (and_l (a && b) c (and_l (a && b && c) d t))),
      ltb→lt (suc m) (2 ^ prec f) (and_r a b (and_l (a && b) c (and_l (a && b && c) d t))),
      leb→le (down e) (2 ^ low f) (and_r (a && b) c (and_l (a && b && c) d t)),
      ltb→lt (suc m * up e) (2 ^ suc (emax f) * down e) (and_r (a && b && c) d t),
    )

pub low_enough : (f : Format) (s : Bool) (m : ℕ) (e : ℤ) → T (fits f (fin s (suc m) e)) → down e ≤ 2 ^ low f
low_enough f s m e t = (parts f s m e t).2

double_one : (p : ℕ) → 0 < p → 2 * p ≡ 1 → ⊥
double_one p h e = omega arith

flat : (e : ℤ) → up e * down e ≡ 1 → e ≡ pos 0
flat (pos zero) h = refl
flat (pos (suc k)) h = absurd (double_one (2 ^ k) (pow_pos k) (sym (pow-succ' 2 k) ∙ sym (mul-one (2 ^ suc k)) ∙ h))
flat (negsuc k) h = absurd (double_one (2 ^ k) (pow_pos k) (sym (pow-succ' 2 k) ∙ sym (one-mul (2 ^ suc k)) ∙ h))

pub zero_exponent : (f : Format) (s : Bool) (e : ℤ) → T (fits f (fin s zero e)) → e ≡ pos 0
unfolding fits
zero_exponent f s e t = flat e (eqb→eq (up e * down e) 1 t)

-- ---- a value is written in one way

even_odd : (m t : ℕ) → m % 2 ≡ 1 → m ≡ 2 * t → ⊥
even_odd m t o h = omega arith

odd_powers : (m n a b : ℕ) → m % 2 ≡ 1 → n % 2 ≡ 1 → m * 2 ^ a ≡ n * 2 ^ b → (m ≡ n) × (a ≡ b)
odd_powers m n zero zero o p h = (sym (mul-one m) ∙ h ∙ mul-one n, refl)
odd_powers m n zero (suc b) o p h = absurd (even_odd m (n * 2 ^ b) o (sym (mul-one m) ∙ h ∙ ap (λ (x : ℕ). n * x) (pow-succ' 2 b) ∙ mul_left_comm n 2 (2 ^ b)))
odd_powers m n (suc a) zero o p h = absurd (even_odd n (m * 2 ^ a) p (sym (mul-one n) ∙ sym h ∙ ap (λ (x : ℕ). m * x) (pow-succ' 2 a) ∙ mul_left_comm m 2 (2 ^ a)))
odd_powers m n (suc a) (suc b) o p h =
    let r = odd_powers m n a b o p (eq_of_mul-eq-mul_right 2 (zero-lt-suc 1) (m * 2 ^ a) (n * 2 ^ b)
    (mul_assoc m (2 ^ a) 2 ∙ ap (λ (x : ℕ). m * x) (sym (pow-suc 2 a)) ∙ h ∙ ap (λ (x : ℕ). n * x) (pow-suc 2 b) ∙ sym (mul_assoc n (2 ^ b) 2))) in
    (r.0, ap suc r.1)

-- m and n are odd, and m * 2 ^ e is n * 2 ^ g
one_way : (m n : ℕ) (e g : ℤ) → m % 2 ≡ 1 → n % 2 ≡ 1 → m * up e * down g ≡ n * up g * down e → (m ≡ n) × (e ≡ g)
one_way m n (pos a) (pos b) o p h = let r = odd_powers m n a b o p (sym (mul-one (m * 2 ^ a)) ∙ h ∙ mul-one (n * 2 ^ b)) in (r.0, ap pos r.1)
one_way m n (pos a) (negsuc b) o p h =
    let r = odd_powers m n (a + suc b) 0 o p (ap (λ (x : ℕ). m * x) (pow-add 2 a (suc b)) ∙ sym (mul_assoc m (2 ^ a) (2 ^ suc b)) ∙ h ∙ mul-one (n * 1)) in
    absurd (omega (arith, r.1))
one_way m n (negsuc a) (pos b) o p h =
    let r = odd_powers n m (b + suc a) 0 p o (ap (λ (x : ℕ). n * x) (pow-add 2 b (suc a)) ∙ sym (mul_assoc n (2 ^ b) (2 ^ suc a)) ∙ sym h ∙ mul-one (m * 1)) in
    absurd (omega (arith, r.1))
one_way m n (negsuc a) (negsuc b) o p h =
    let r = odd_powers m n (suc b) (suc a) o p (ap (λ (x : ℕ). x * 2 ^ suc b) (sym (mul-one m)) ∙ h ∙ ap (λ (x : ℕ). x * 2 ^ suc a) (mul-one n)) in
    (r.0, ap negsuc (omega (arith, r.1)))

same_value : (f : Format) (s t : Bool) (m n : ℕ) (e g : ℤ) → T (fits f (fin s (suc m) e)) → T (fits f (fin t (suc n) g)) → s ≡ t → suc m * up e * down g ≡ suc n * up g * down e → fin s (suc m) e ≡ fin t (suc n) g
same_value f s t m n e g p q w h =
    let r = one_way (suc m) (suc n) e g (parts f s m e p).0 (parts f t n g q).0 h in
    λ i. fin (w i) (r.0 i) (r.1 i)

not_nothing : (m : ℕ) (e : ℤ) (c : ℕ) → 0 < c → zero ≡ suc m * up e * c → ⊥
not_nothing m e c h p = omega (arith, p, mul-pos (mul-pos (zero-lt-suc m) (up_pos e)) h)

of_value : (f : Format) (x : Float) (s : Bool) (m : ℕ) (e : ℤ) → T (fits f x) → T (fits f (fin s (suc m) e)) → HasValue x s (suc m * up e) (down e) → x ≡ fin s (suc m) e
of_value f nan s m e p q v = absurd v
of_value f (inf t) s m e p q v = absurd v
of_value f (fin t zero g) s m e p q v = absurd (not_nothing m e (down g) (down_pos g) (sym (zero-mul (down e)) ∙ ap (λ (x : ℕ). x * down e) (sym (zero-mul (up g))) ∙ v.1))
of_value f (fin t (suc n) g) s m e p q v = same_value f t s n m g e p q v.0 v.1

-- ---- rounded to itself

-- m * 2 ^ e in units of the smallest value is m * 2 ^ j
pub units_of_lem : (l : ℕ) (e : ℤ) → down e ≤ 2 ^ l → (j : ℕ) × ((m : ℕ) → m * up e * 2 ^ l ≡ m * 2 ^ j * down e)
units_of_lem l (pos k) h = (k + l, λ m. mul_assoc m (2 ^ k) (2 ^ l) ∙ ap (λ (x : ℕ). m * x) (sym (pow-add 2 k l)) ∙ sym (mul-one (m * 2 ^ (k + l))))
units_of_lem l (negsuc k) h =
    let le : suc k ≤ l = pow_below (suc k) l h in
    (l - suc k, λ m. ap (λ (x : ℕ). x * 2 ^ l) (mul-one m) ∙ ap (λ (x : ℕ). m * 2 ^ x) (omega (arith, le)) ∙ ap (λ (x : ℕ). m * x) (pow-add 2 (l - suc k) (suc k)) ∙ sym (mul_assoc m (2 ^ (l - suc k)) (2 ^ suc k)))
  where
    pow_below : (a b : ℕ) → 2 ^ a ≤ 2 ^ b → a ≤ b
    pow_below a b q = go (ltb b a) refl
      where
        go : (x : Bool) → ltb b a ≡ x → a ≤ b
        go true r = absurd (omega (arith, q, pow-lt (ltb-true b a r)))
        go false r = ltb-false b a r

bounded : (l t : ℕ) (x w d : ℕ) → 0 < d → x * 2 ^ l ≡ w * d → x < 2 ^ t * d → w < 2 ^ (l + t)
bounded l t x w d h p q =
    lt_of_mul-lt-mul_right d
    (subst (λ (a : ℕ). a < 2 ^ (l + t) * d) p
    (subst (λ (b : ℕ). x * 2 ^ l < b) (simp (mul_assoc, mul_comm, mul_left_comm, pow-add)) (mul-lt-mul_of_pos_right q (pow_pos l))))

pub round_held : (f : Format) (s : Bool) (m : ℕ) (e : ℤ) → T (fits f (fin s (suc m) e)) → round f s (suc m * up e) (down e) ≡ fin s (suc m) e
round_held f s m e t =
    let p = parts f s m e t in
    let j = units_of_lem (low f) e p.2 in
    of_value f (round f s (suc m * up e) (down e)) s m e (round-fits f s (suc m * up e) (down e)) t
    (round_exact f s (suc m * up e) (down e) (suc m) j.0 (down_pos e) p.1 (bounded (low f) (suc (emax f)) (suc m * up e) (suc m * 2 ^ j.0) (down e) (down_pos e) (j.1 (suc m)) p.3) (j.1 (suc m)))

-- ---- 1 as a factor

unlike_comm : (s t : Bool) → unlike s t ≡ unlike t s
unlike_comm true true = refl
unlike_comm true false = refl
unlike_comm false true = refl
unlike_comm false false = refl

like_false : (t : Bool) → unlike false t ≡ t
like_false true = refl
like_false false = refl

pub mul_turned : (f : Format) (x y : Float) → mul f x y ≡ mul f y x
unfolding mul
mul_turned f nan nan = refl
mul_turned f nan (inf t) = refl
mul_turned f nan (fin t n d) = refl
mul_turned f (inf s) nan = refl
mul_turned f (inf s) (inf t) = ap inf (unlike_comm s t)
mul_turned f (inf s) (fin t n d) = ap (λ (b : Bool). cond (eqb n 0) nan (inf b)) (unlike_comm s t)
mul_turned f (fin s m e) nan = refl
mul_turned f (fin s m e) (inf t) = ap (λ (b : Bool). cond (eqb m 0) nan (inf b)) (unlike_comm s t)
mul_turned f (fin s m e) (fin t n d) = rw (unlike_comm s t, mul_comm (m * up e) (n * up d), mul_comm (down e) (down d)) refl

zero_over_one : (f : Format) (s : Bool) → round f s 0 1 ≡ fin s 0 (pos 0)
unfolding round
zero_over_one binary32 true = refl
zero_over_one binary32 false = refl
zero_over_one binary64 true = refl
zero_over_one binary64 false = refl

pub zero_round : (f : Format) (s : Bool) (c : ℕ) → 0 < c → round f s 0 c ≡ fin s 0 (pos 0)
zero_round f s c h = round_same f s 0 c 0 1 h (zero-lt-suc 0) (sym (zero-mul c)) ∙ zero_over_one f s

pub one_times : (x : Float) → T (fits binary64 x) → mul binary64 (of_bits binary64 0x3ff0_0000_0000_0000) x ≡ x
unfolding mul of_bits
one_times nan p = refl
one_times (inf t) p = ap inf (like_false t)
one_times (fin t zero d) p = rw (zero_exponent binary64 t d p, like_false t) (zero_round binary64 t 1 (zero-lt-suc 0))
one_times (fin t (suc n) d) p = rw (like_false t, one-mul (suc n * up d), one-mul (down d)) (round_held binary64 t n d p)

-- ---- a zero as a factor and as a term

abbrev pub zero_of : Bool → Float
zero_of s = fin s 0 (pos 0)

pub zero_times : (s t : Bool) (n : ℕ) (d : ℤ) → mul binary64 (zero_of s) (fin t n d) ≡ zero_of (unlike s t)
unfolding mul
zero_times s t n d = rw (zero-mul (n * up d), one-mul (down d)) (zero_round binary64 (unlike s t) (down d) (down_pos d))

pub zeros_add : (s t : Bool) → add binary64 (zero_of s) (zero_of t) ≡ zero_of (s && t)
unfolding add sum round
zeros_add true true = refl
zeros_add true false = refl
zeros_add false true = refl
zeros_add false false = refl

-- ±a / c + ±0 / c for an a above 0
module _ (f : Format) (a c : ℕ) (h : 0 < a) where
  less_zero : (s : Bool) → round f s (a - 0) c ≡ round f s a c
  less_zero s = let e : a - 0 ≡ a = omega arith in ap (λ (x : ℕ). round f s x c) e

  sum_zero : (s t : Bool) → sum f s a t 0 c ≡ round f s a c
  unfolding sum
  sum_zero true true = ap (λ (x : ℕ). round f true x c) (add-zero a)
  sum_zero false false = ap (λ (x : ℕ). round f false x c) (add-zero a)
  sum_zero true false =
      ap (λ (b : Bool). cond b (round f false (0 - a) c) (round f (ltb 0 a) (a - 0) c)) (le-ltb a 0 (omega arith))
      ∙ ap (λ (b : Bool). round f b (a - 0) c) (lt-ltb 0 a h)
      ∙ less_zero true
  sum_zero false true = ap (λ (b : Bool). cond b (round f true (0 - a) c) (round f false (a - 0) c)) (le-ltb a 0 (omega arith)) ∙ less_zero false

  zero_sum : (s t : Bool) → sum f t 0 s a c ≡ round f s a c
  unfolding sum
  zero_sum true true = ap (λ (x : ℕ). round f true x c) (zero-add a)
  zero_sum false false = ap (λ (x : ℕ). round f false x c) (zero-add a)
  zero_sum true false = ap (λ (b : Bool). cond b (round f true (a - 0) c) (round f false (0 - a) c)) (lt-ltb 0 a h) ∙ less_zero true
  zero_sum false true = ap (λ (b : Bool). cond b (round f false (a - 0) c) (round f (ltb a 0) (0 - a) c)) (lt-ltb 0 a h) ∙ less_zero false

sums : (s t : Bool) {a b c a' b' c' : ℕ} → a ≡ a' → b ≡ b' → c ≡ c' → sum binary64 s a t b c ≡ sum binary64 s a' t b' c'
sums s t p q r = λ i. sum binary64 s (p i) t (q i) (r i)

above : (m : ℕ) (e : ℤ) → 0 < suc m * up e
above m e = mul-pos (zero-lt-suc m) (up_pos e)

pub add_zero_of : (s t : Bool) (m : ℕ) (e : ℤ) → T (fits binary64 (fin s (suc m) e)) → add binary64 (fin s (suc m) e) (zero_of t) ≡ fin s (suc m) e
unfolding add
add_zero_of s t m e p =
    sums s t (mul-one (suc m * up e)) (zero-mul (down e)) (mul-one (down e))
    ∙ sum_zero binary64 (suc m * up e) (down e) (above m e) s t
    ∙ round_held binary64 s m e p

pub zero_of_add : (s t : Bool) (m : ℕ) (e : ℤ) → T (fits binary64 (fin s (suc m) e)) → add binary64 (zero_of t) (fin s (suc m) e) ≡ fin s (suc m) e
unfolding add
zero_of_add s t m e p =
    sums t s (zero-mul (down e)) (mul-one (suc m * up e)) (one-mul (down e))
    ∙ zero_sum binary64 (suc m * up e) (down e) (above m e) s t
    ∙ round_held binary64 s m e p
