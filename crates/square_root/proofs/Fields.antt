-- The bit pattern of a finite value above zero, and what the pattern of a root stands for. Assumes nothing.
use Rattle.std.proofs.Common.{◌≡◌, ℕ, zero, suc, ◌+◌, ◌*◌, ◌/◌, ◌%◌, ◌^◌, ◌<◌, ◌≤◌, Bool, true, false, cond, eqb, leb, ℤ, sym, refl, ap, ◌∙◌, subst, true≢false, lt_irrefl, zero-lt-suc, mul_assoc, mul-pos, lt_of_not-le, zero-mul, mul-one, mul_right_comm, mul-div_cancel, arith, pow_pos, pow-add, ne_eqb, leb-false}
use borrow.Author.Tests.{lt-leb, eqb-false}
use lib.Ieee.{Float, nan, inf, fin, binary64, up, down, odd, of_fields, of_bits}
use lib.Ieee.Exact.{HasValue, odd_sign}
use lib.Ieee.Fits.{up_pos, down_pos}
use lib.Ieee.Scale.{finite}
use Rattle.square_root.specs.RootSteps.{PatternOf, digits, power, weight_of, weight}

-- the value of a field and digits, in units of 2 ^ -1074
abbrev units_of : ℕ → ℕ → ℕ
units_of zero t = t * 2 ^ 0
units_of (suc k) t = (2 ^ 52 + t) * 2 ^ k

weight_units : (k t : ℕ) → weight_of k t ≡ units_of k t * 2 ^ 1074
weight_units zero t = ap (λ (x : ℕ). x * 2 ^ 1074) (sym (mul-one t))
weight_units (suc k) t = ap (λ (x : ℕ). (2 ^ 52 + t) * x) (pow-add 2 k 1074) ∙ sym (mul_assoc (2 ^ 52 + t) (2 ^ k) (2 ^ 1074))

module _ (m : ℕ) (e : ℤ) where
  abbrev Told : Bool → ℕ → ℕ → Type 0
  Told s k t = (false ≡ s) × (k ≡ 2047 → ⊥) × (suc m * up e * 2 ^ 1074 ≡ units_of k t * down e)

  no_inf : (b s : Bool) → cond b (inf s) nan ≡ fin false (suc m) e → ⊥
  no_inf true s p = true≢false (sym (ap finite p))
  no_inf false s p = true≢false (sym (ap finite p))

  told : (s : Bool) (k t : ℕ) → of_fields binary64 s k t ≡ fin false (suc m) e → Told s k t
  unfolding of_fields
  told s zero t p = let v = subst (λ (x : Float). HasValue x s (t * 2 ^ 0) (2 ^ 1074)) p (odd_sign 53 s t 0 1074) in (v.0, (λ h. omega arith), v.1)
  told s (suc k) t p = go (eqb (suc k) 2047) refl p
    where
      go : (b : Bool) → eqb (suc k) 2047 ≡ b → cond b (cond (eqb t 0) (inf s) nan) (odd 53 s (2 ^ 52 + t) k 1074) ≡ fin false (suc m) e → Told s (suc k) t
      go true h q = absurd (no_inf (eqb t 0) s q)
      go false h q = let v = subst (λ (x : Float). HasValue x s ((2 ^ 52 + t) * 2 ^ k) (2 ^ 1074)) q (odd_sign 53 s (2 ^ 52 + t) k 1074) in (v.0, eqb-false (suc k) 2047 h, v.1)

  module _ (b : ℕ) (p : of_bits binary64 b ≡ fin false (suc m) e) where
    all : Told (leb 9223372036854775808 b) (b % 9223372036854775808 / 4503599627370496) (b % 4503599627370496)
    unfolding of_bits
    all = told (leb 9223372036854775808 b) (b % 9223372036854775808 / 4503599627370496) (b % 4503599627370496) p

    pub below_inf : b < 0x7ff0_0000_0000_0000
    below_inf =
        let l = leb-false 9223372036854775808 b (sym all.0) in
        let f : b % 9223372036854775808 / 4503599627370496 < 2047 = lt_of_not-le (λ (h : 2047 ≤ b % 9223372036854775808 / 4503599627370496). all.1 (omega arith)) in
        omega arith

    cross : suc m * up e * 2 ^ 2148 ≡ weight b * down e
    cross =
        let l = leb-false 9223372036854775808 b (sym all.0) in
        let f : b % 9223372036854775808 / 4503599627370496 ≡ b / 2 ^ 52 = omega arith in
        let u = units_of (b / 2 ^ 52) (b % 2 ^ 52) in
        let v : suc m * up e * 2 ^ 1074 ≡ u * down e = all.2 ∙ ap (λ (k : ℕ). units_of k (b % 2 ^ 52) * down e) f in
        sym (mul_assoc (suc m * up e) (2 ^ 1074) (2 ^ 1074))
        ∙ ap (λ (x : ℕ). x * 2 ^ 1074) v
        ∙ mul_right_comm u (down e) (2 ^ 1074)
        ∙ ap (λ (x : ℕ). x * down e) (sym (weight_units (b / 2 ^ 52) (b % 2 ^ 52)))

    -- the value is that many units of 2 ^ -2148
    pub argument : HasValue (fin false (suc m) e) false (weight b) (2 ^ 2148)
    argument = (refl, cross)

    pub weighs : suc m * up e * 2 ^ 2148 / down e ≡ weight b
    weighs = ap (λ (x : ℕ). x / down e) cross ∙ mul-div_cancel (weight b) (down_pos e)

    pub above_zero : 0 < b
    above_zero =
        lt_of_not-le
        (λ (h : b ≤ 0).
        let z : b ≡ 0 = omega arith in
        let w : weight b * down e ≡ 0 = ap (λ (x : ℕ). weight x * down e) z ∙ zero-mul (down e) in
        let n : 0 < suc m * up e * 2 ^ 2148 = mul-pos (mul-pos (zero-lt-suc m) (up_pos e)) (pow_pos 2148) in
        lt_irrefl 0 (subst (λ (x : ℕ). 0 < x) (cross ∙ w) n))

-- ---- the pattern of a root
normal_field : (x t : ℕ) → x < 2046 → of_fields binary64 false (suc x) t ≡ odd 53 false (2 ^ 52 + t) x 1074
unfolding of_fields
normal_field x t h = let n : eqb (suc x) 2047 ≡ false = ne_eqb (suc x) 2047 (λ p. omega arith) in ap (λ (b : Bool). cond b (cond (eqb t 0) (inf false) nan) (odd 53 false (2 ^ 52 + t) x 1074)) n

pub root_value : (w r : ℕ) → PatternOf w r → of_bits binary64 r ≡ odd 53 false (digits r) (power r) 1074
unfolding of_bits
root_value w r h =
    let g = h.rounded.range in
    let n = h.normal in
    let s : leb 9223372036854775808 r ≡ false = lt-leb 9223372036854775808 r (omega arith) in
    let f : r % 9223372036854775808 / 4503599627370496 ≡ suc (power r) = omega arith in
    ap (λ (b : Bool). of_fields binary64 b (r % 9223372036854775808 / 4503599627370496) (r % 2 ^ 52)) s
    ∙ ap (λ (k : ℕ). of_fields binary64 false k (r % 2 ^ 52)) f
    ∙ normal_field (power r) (r % 2 ^ 52) g
