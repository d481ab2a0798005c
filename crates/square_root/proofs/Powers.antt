-- From the root of a whole number to the pattern of a root. Assumes nothing.
use Rattle.std.proofs.Common.{◌≡◌, ℕ, zero, suc, ◌+◌, ◌-◌, ◌*◌, ◌/◌, ◌%◌, ◌^◌, ◌<◌, ◌≤◌, sym, refl, ap, ◌∙◌, subst, mul-le-mul_right, mul_assoc, mul-lt-mul_of_pos_right, lt_of_not-le, arith, pow_pos, pow_mono, pow-add}
use Rattle.std.proofs.lemmas.Nat.{leading_top}
use Rattle.std.specs.Int.Count.{count_leading_zeros}
use Rattle.square_root.specs.RootSteps.{Nearest, Rounded, digits, power, PatternOf, weight_of, Normal}
use Rattle.square_root.proofs.Squares.{at_least, at_most}

-- 2 ^ e is 2 ^ k times a square, for an e that is k and an even number
split_power : (m k j e : ℕ) → e ≡ k + (j + j) → m * 2 ^ e ≡ m * 2 ^ k * (2 ^ j * 2 ^ j)
split_power m k j e h = ap (λ (x : ℕ). m * 2 ^ x) h ∙ ap (λ (x : ℕ). m * x) (pow-add 2 k (j + j) ∙ ap (λ (x : ℕ). 2 ^ k * x) (pow-add 2 j j)) ∙ sym (mul_assoc m (2 ^ k) (2 ^ j * 2 ^ j))

-- ---- m, or twice m where the exponent is odd
module _ (m : ℕ) where
  scaled : (r : ℕ) → r < 2 → m * 2 ^ (52 + r) ≡ m * (1 + r) * 2 ^ 52
  scaled zero h = omega arith
  scaled (suc zero) h = omega arith
  scaled (suc (suc r)) h = absurd (omega arith)

  pub scaled_least : (r : ℕ) → r < 2 → 2 ^ 52 ≤ m → 2 ^ 52 ≤ m * (1 + r)
  scaled_least zero h a = omega arith
  scaled_least (suc zero) h a = omega arith
  scaled_least (suc (suc r)) h a = absurd (omega arith)

  pub scaled_most : (r : ℕ) → r < 2 → m < 2 ^ 53 → m * (1 + r) + 2 ≤ 2 ^ 54
  scaled_most zero h a = omega arith
  scaled_most (suc zero) h a = omega arith
  scaled_most (suc (suc r)) h a = absurd (omega arith)

-- ---- the pattern with the digits q, nearest the root of m times a power of four
module _ (m e q : ℕ) (least : 2 ^ 52 ≤ m) (most : m < 2 ^ 53) (lo : 52 ≤ e) (hi : e < 4000) (near : Nearest (m * (1 + e % 2) * 2 ^ 52) q) where
  abbrev j : ℕ
  j = (e - 52) / 2

  pub q_least : 2 ^ 52 ≤ q
  q_least = at_least (m * (1 + e % 2) * 2 ^ 52) q (omega (arith, scaled_least m (e % 2) (omega arith) least)) near

  pub q_most : q < 2 ^ 53
  q_most = at_most (m * (1 + e % 2) * 2 ^ 52) q (omega (arith, scaled_most m (e % 2) (omega arith) most)) near

  rounded : Rounded (m * 2 ^ e) q j
  rounded =
      record {
        n = m * (1 + e % 2) * 2 ^ 52;
        exact = split_power m (52 + e % 2) j e (omega arith) ∙ ap (λ (x : ℕ). x * (2 ^ j * 2 ^ j)) (scaled m (e % 2) (omega arith));
        least = omega (arith, scaled_least m (e % 2) (omega arith) least);
        most = omega (arith, scaled_most m (e % 2) (omega arith) most);
        near = near;
        least_root = q_least;
        most_root = q_most;
        range = omega arith;
      }

  pub pattern : PatternOf (m * 2 ^ e) (j * 2 ^ 52 + q)
  pattern =
      let r = j * 2 ^ 52 + q in
      let d : q ≡ digits r = omega (arith, q_least, q_most) in
      let p : j ≡ power r = omega (arith, q_least, q_most) in
      record { normal = omega (arith, q_least); rounded = subst (λ (x : ℕ). Rounded (m * 2 ^ e) x (power r)) d (subst (λ (x : ℕ). Rounded (m * 2 ^ e) q x) p rounded) }

-- ---- a number shifted until it has 53 digits
pub record Shifted (t : ℕ) : Type 0 where
  pub room : 11 ≤ count_leading_zeros 64 t
  pub normal : Normal t (t * 2 ^ (count_leading_zeros 64 t - 11) % 2 ^ 64) (count_leading_zeros 64 t - 11)

pub shifted : (t : ℕ) → 0 < t → t < 2 ^ 52 → Shifted t
shifted t p l =
    let top = leading_top 64 t p (omega arith) in
    let j = top.0 in
    let z = count_leading_zeros 64 t - 11 in
    let few : j < 52 = lt_of_not-le (λ (h : 52 ≤ j). let a : 2 ^ 52 ≤ 2 ^ j = pow_mono h in omega (arith, top.2)) in
    let e : j + z ≡ 52 = omega (arith, top.1) in
    let f : suc j + z ≡ 53 = omega arith in
    let least : 2 ^ 52 ≤ t * 2 ^ z = subst (λ (k : ℕ). 2 ^ k ≤ t * 2 ^ z) e (rw (pow-add 2 j z) (mul-le-mul_right (2 ^ z) top.2)) in
    let most : t * 2 ^ z < 2 ^ 53 = subst (λ (k : ℕ). t * 2 ^ z < 2 ^ k) f (rw (pow-add 2 (suc j) z) (mul-lt-mul_of_pos_right top.3 (pow_pos z))) in
    let whole : t * 2 ^ z % 2 ^ 64 ≡ t * 2 ^ z = omega arith in
    record { room = omega (arith, top.1); normal = record { is = whole; least = omega arith; most = omega arith; few = omega arith } }

pub undo : (t z m : ℕ) → m ≡ t * 2 ^ z → z ≤ 52 → m * 2 ^ (1074 - z) ≡ t * 2 ^ 1074
undo t z m e l =
    let f : z + (1074 - z) ≡ 1074 = omega arith in
    ap (λ (x : ℕ). x * 2 ^ (1074 - z)) e
    ∙ mul_assoc t (2 ^ z) (2 ^ (1074 - z))
    ∙ ap (λ (x : ℕ). t * x) (sym (pow-add 2 z (1074 - z)) ∙ ap (λ (x : ℕ). 2 ^ x) f)

pub at_field : (k t : ℕ) → (k ≡ 0 → ⊥) → (2 ^ 52 + t) * 2 ^ (k + 1073) ≡ weight_of k t
at_field zero t n = absurd (n refl)
at_field (suc k) t n =
    let f : suc k + 1073 ≡ k + 1074 = omega arith in
    ap (λ (x : ℕ). (2 ^ 52 + t) * 2 ^ x) f

pub at_zero : (k t : ℕ) → k ≡ 0 → t * 2 ^ 1074 ≡ weight_of k t
at_zero zero t e = refl
at_zero (suc k) t e = absurd (omega arith)
