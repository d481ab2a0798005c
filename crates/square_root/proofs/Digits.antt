-- A rounded root is the function's. Assumes nothing.
use Rattle.std.proofs.Common.{◌≡◌, ℕ, zero, suc, ◌+◌, ◌-◌, ◌*◌, ◌/◌, ◌^◌, ◌<◌, ◌≤◌, Bool, true, false, cond, not, T, ltb, sym, ap, ◌∙◌, subst, le_trans, le_of_eq, lt_of_lt_of_le, mul-le-mul_right, add-mul, le_antisymm, mul-le-mul_left, mul-lt-mul_of_pos_right, mul-pos, one-mul, lt_of_not-le, mul-one, mul-add, not-le_of_lt, mul-div_cancel, arith, ltb→lt, nltb→le, pow_pos, pow_mono, pow-add}
use native.Mathlib.Nat.{two-pow-succ}
use lib.Ieee.{size, odd}
use lib.Ieee.Digits.{size-lt, size-le}
use Rattle.square_root.specs.Root.{root_by, root_of}
use Rattle.square_root.specs.RootSteps.{Nearest, Rounded}
use Rattle.square_root.proofs.Squares.{square_suc}

-- ---- only one number is nearest
-- p + 1 ≤ q, so (p + 1)² ≤ q² and more
apart : (p q : ℕ) → p + 1 ≤ q → p * p + p + q ≤ q * q
apart p q h =
    let d = q - (p + 1) in
    let e : q ≡ p + 1 + d = omega arith in
    let s : (p + 1) * q ≤ q * q = mul-le-mul_right q h in
    let a : (p + 1) * q ≡ p * q + 1 * q = add-mul p 1 q in
    let b : 1 * q ≡ q = one-mul q in
    let f : p * (p + 1) ≤ p * q = mul-le-mul_left p h in
    let g : p * (p + 1) ≡ p * p + p * 1 = mul-add p p 1 in
    let k : p * 1 ≡ p = mul-one p in
    omega arith

at_most : (n p q : ℕ) → n ≤ p * p + p → q * q < n + q → q ≤ p
at_most n p q a b =
    let lt : q < p + 1 = lt_of_not-le (λ (h : p + 1 ≤ q). let f = apart p q h in omega arith) in
    omega arith

pub unique : (n p q : ℕ) → Nearest n p → Nearest n q → p ≡ q
unique n p q a b = le_antisymm (at_most n q p b.above a.below) (at_most n p q a.above b.below)

-- ---- the digits, from the top
root_by_lem : (k n q : ℕ) → q * q < n + q → n + (q + 2 ^ k) ≤ (q + 2 ^ k) * (q + 2 ^ k) → Nearest n (root_by k n q)
unfolding root_by
root_by_lem zero n q a b = record { above = omega (arith, square_suc q); below = a }
root_by_lem (suc k) n q a b = go (ltb (p * p) (n + p)) (ltb→lt (p * p) (n + p)) (nltb→le (p * p) (n + p)) (root_by_lem k n)
  where
    p : ℕ
    p = q + 2 ^ k

    go : (t : Bool) → (T t → p * p < n + p) → (T (not t) → n + p ≤ p * p) → ((z : ℕ) → z * z < n + z → n + (z + 2 ^ k) ≤ (z + 2 ^ k) * (z + 2 ^ k) → Nearest n (root_by k n z))
        → Nearest n (root_by k n (cond t p q))
    go true x y ih =
        let e : q + 2 ^ suc k ≡ p + 2 ^ k = omega (arith, two-pow-succ k) in
        ih p (x tt) (subst (λ (z : ℕ). n + z ≤ z * z) e b)
    go false x y ih = ih q a (y tt)

by_digits : (n q : ℕ) → 0 < n → n < 2 ^ 106 → Nearest n q → q < 2 ^ 53 → root_by 53 n 0 ≡ q
by_digits n q l u h w =
    let s : q * q ≤ (2 ^ 53 - 1) * q = mul-le-mul_right q (omega arith) in
    unique n (root_by 53 n 0) q (root_by_lem 53 n 0 (omega arith) (omega (arith, h.above))) h

-- ---- the exponent
exponent : (w n j : ℕ) → w ≡ n * (2 ^ j * 2 ^ j) → 2 ^ 104 ≤ n → n < 2 ^ 106 → (size w - 105) / 2 ≡ j
exponent w n j e l u =
    let s = 2 ^ j * 2 ^ j in
    let p : (k : ℕ) → 2 ^ (k + (j + j)) ≡ 2 ^ k * s = λ k. pow-add 2 k (j + j) ∙ ap (λ (x : ℕ). 2 ^ k * x) (pow-add 2 j j) in
    let hi : size w ≤ 106 + (j + j) = size-le w (106 + (j + j)) (subst (λ (x : ℕ). x < 2 ^ (106 + (j + j))) (sym e) (lt_of_lt_of_le (mul-lt-mul_of_pos_right u (mul-pos (pow_pos j) (pow_pos j))) (le_of_eq (sym (p 106))))) in
    let lo : 104 + (j + j) < size w = lt_of_not-le
    (λ (h : size w ≤ 104 + (j + j)).
    not-le_of_lt (size-lt w) (le_trans (pow_mono h) (le_trans (le_of_eq (p 104)) (le_trans (mul-le-mul_right s l) (le_of_eq (sym e)))))) in
    omega arith

pub is_function : (w q j : ℕ) → Rounded w q j → odd 53 false q j 1074 ≡ root_of w
unfolding root_of
is_function w q j h =
    let e = exponent w h.n j h.exact h.least h.most in
    let s = 2 ^ j * 2 ^ j in
    let d : w / s ≡ h.n = ap (λ (x : ℕ). x / s) h.exact ∙ mul-div_cancel h.n (mul-pos (pow_pos j) (pow_pos j)) in
    let r : root_by 53 (w / s) 0 ≡ q = ap (λ (x : ℕ). root_by 53 x 0) d ∙ by_digits h.n q (omega (arith, h.least)) h.most h.near h.most_root in
    ap (λ (x : ℕ). odd 53 false x j 1074) (sym r) ∙ ap (λ (i : ℕ). odd 53 false (root_by 53 (w / (2 ^ i * 2 ^ i)) 0) i 1074) (sym e)
