-- Squares of whole numbers, and the number nearest a root. Assumes nothing.
use Rattle.std.proofs.Common.{◌≡◌, ℕ, ◌+◌, ◌-◌, ◌*◌, ◌/◌, ◌%◌, ◌^◌, ◌<◌, ◌≤◌, Bool, true, false, cond, ltb, sym, refl, ap, ◌∙◌, subst, lt_of_le_of_lt, le_of_lt, mul-le-mul_right, mul_assoc, mul_comm, add-mul, mul-le-mul_left, one-mul, lt_of_not-le, mul-one, mul-add, arith, shl_lt, ltb-false, ltb-true}
use Rattle.square_root.specs.RootSteps.{Squared, Nearest}

pub prod_lt : (j k : ℕ) {a b : ℕ} → a < 2 ^ j → b < 2 ^ k → a * b < 2 ^ (j + k)
prod_lt j k {a} {b} x y = lt_of_le_of_lt (mul-le-mul_left a (le_of_lt y)) (shl_lt j k x)

-- x times a number of two digits
dist : (x h l b q : ℕ) → q ≡ h * b + l → x * q ≡ x * h * b + x * l
dist x h l b q e = ap (λ (n : ℕ). x * n) e ∙ mul-add x (h * b) l ∙ ap (λ (n : ℕ). n + x * l) (sym (mul_assoc x h b))

-- ---- the square by digits of 26 bits
module _ (q : ℕ) where
  abbrev h : ℕ
  h = q / 67108864

  abbrev l : ℕ
  l = q % 67108864

  expand : q * q ≡ h * h * 4503599627370496 + h * l * 134217728 + l * l
  expand =
      let e : q ≡ h * 67108864 + l = omega arith in
      let a = dist q h l 67108864 q e in
      let b = dist h h l 67108864 q e in
      let d = dist l h l 67108864 q e in
      omega (arith, a, b, d, mul_comm q h, mul_comm q l, mul_comm l h)

  pub hh_lt : q < 2 ^ 53 → h * h < 2 ^ 54
  hh_lt x = let b : h < 2 ^ 27 = omega arith in prod_lt 27 27 b b

  pub hl_lt : q < 2 ^ 53 → h * l < 2 ^ 53
  hl_lt x = let b : h < 2 ^ 27 = omega arith in let d : l < 2 ^ 26 = omega arith in prod_lt 27 26 b d

  pub ll_lt : l * l < 2 ^ 52
  ll_lt = let d : l < 2 ^ 26 = omega arith in prod_lt 26 26 d d

  pub squared : q < 2 ^ 53 → Squared q (h * h + h * l / 33554432) (h * l % 33554432 * 134217728 + l * l)
  squared x =
      record {
        is = omega (arith, expand);
        small = omega (arith, ll_lt);
        fits = omega (arith, hh_lt x, hl_lt x);
      }

  -- a * 2 ^ 52 less the square, taken off digit by digit and moved up
  pub taken_off : (a t u : ℕ) → t + h * h ≡ a → u + 2 * (h * l) ≡ t * 67108864 + 268435456 → 2 ^ 52 ≤ q → u * 2 ^ 26 + 3 * q - l * l + q * q ≡ a * 2 ^ 52 + 2 ^ 54 + 3 * q
  taken_off a t u x y z = omega (arith, expand, ll_lt)

-- ---- neighbours
pub square_suc : (p : ℕ) → (p + 1) * (p + 1) ≡ p * p + p + p + 1
square_suc p = simp (mul-add, add-mul, mul-one, one-mul) (omega arith)

square_pred : (q : ℕ) → 0 < q → q * q ≡ (q - 1) * (q - 1) + (q - 1) + (q - 1) + 1
square_pred q z =
    let e : q ≡ q - 1 + 1 = omega arith in
    ap (λ (m : ℕ). m * m) e ∙ square_suc (q - 1)

-- ---- bisection: p is at or below the nearest number, or above it
pub record Bracket (n least end : ℕ) : Type 0 where
  pub below : least * least < n + least
  pub above : n + end ≤ end * end
  pub order : least < end
  pub range : end ≤ 2 ^ 53

module _ (a p whole rest : ℕ) (s : Squared p whole rest) (r : p < 2 ^ 53) where
  pub test_true : whole + (rest + 9007199254740992 - p) / 4503599627370496 < a + 2 → p * p < a * 2 ^ 52 + p
  test_true h = omega (arith, s.is, s.small)

  pub test_false : a + 2 ≤ whole + (rest + 9007199254740992 - p) / 4503599627370496 → a * 2 ^ 52 + p ≤ p * p
  test_false h = omega (arith, s.is, s.small)

pub bracketed : (n least end : ℕ) → Bracket n least end → end - least ≤ 1 → Nearest n least
bracketed n least end b h =
    let e : end ≡ least + 1 = omega (arith, b.order) in
    let f : n + (least + 1) ≤ (least + 1) * (least + 1) = subst (λ (x : ℕ). n + x ≤ x * x) e b.above in
    record { above = omega (arith, square_suc least); below = b.below }

-- ---- a guess that is right, or one off: d is n - q² + 2 ^ 54 + 3 * q
module _ (n q d : ℕ) (is : d + q * q ≡ n + 2 ^ 54 + 3 * q) (z : 0 < q) where
  lower : 2 ^ 54 + 2 < d → d ≤ 2 ^ 54 + 2 * q → Nearest n (q - 1)
  lower x y = record { above = omega (arith, square_pred q z); below = omega (arith, square_pred q z) }

  pub same : 2 ^ 54 + 2 * q < d → d ≤ 2 ^ 54 + 4 * q → Nearest n q
  same x y = record { above = omega arith; below = omega arith }

  upper : 2 ^ 54 + 4 * q < d → d ≤ 2 ^ 54 + 6 * q + 2 → Nearest n (q + 1)
  upper x y = record { above = omega (arith, square_suc q); below = omega (arith, square_suc q) }

  -- the guess moved by the two tests
  pub moved : 2 ^ 54 + 2 < d → d ≤ 2 ^ 54 + 6 * q + 2 → Nearest n (q - 1 + cond (ltb (2 ^ 54 + 2 * q) d) 1 0 + cond (ltb (2 ^ 54 + 4 * q) d) 1 0)
  moved x y = go (ltb (2 ^ 54 + 2 * q) d) (ltb (2 ^ 54 + 4 * q) d) refl refl
    where
      at : (r : ℕ) (s : ℕ) → r ≡ s → Nearest n r → Nearest n s
      at r s e h = subst (λ (k : ℕ). Nearest n k) e h

      go : (t u : Bool) → ltb (2 ^ 54 + 2 * q) d ≡ t → ltb (2 ^ 54 + 4 * q) d ≡ u → Nearest n (q - 1 + cond t 1 0 + cond u 1 0)
      go true true e f = at (q + 1) (q - 1 + 1 + 1) (omega arith) (upper (ltb-true _ _ f) y)
      go true false e f = at q (q - 1 + 1 + 0) (omega arith) (same (ltb-true _ _ e) (ltb-false _ _ f))
      go false true e f = absurd (omega (arith, ltb-false (2 ^ 54 + 2 * q) d e, ltb-true (2 ^ 54 + 4 * q) d f))
      go false false e f = at (q - 1) (q - 1 + 0 + 0) (omega arith) (lower x (ltb-false _ _ e))

-- ---- a - b, wrapped at 2 ^ 64
abbrev pub less : ℕ → ℕ → ℕ
less a b = (a + (2 ^ 64 - b)) % 2 ^ 64

pub wraps_back : (a b : ℕ) → a < 2 ^ 64 → b ≤ 2 ^ 64 → (less a b + b) % 2 ^ 64 ≡ a
wraps_back a b h k = omega arith

-- ---- a guess that is right, by its digits
unwrapped : (x y z : ℕ) → x + y < 2 ^ 64 → (x + y) % 2 ^ 64 ≡ z → x + y ≡ z
unwrapped x y z l e = omega arith

moved_above : (u w q s : ℕ) → w + (18014398509481985 + s) ≡ u * 67108864 + q → 2 ^ 54 + 2 * q < u * 2 ^ 26 + 3 * q - s
moved_above u w q s e = omega arith

moved_below : (u w q s : ℕ) → w + (18014398509481985 + s) ≡ u * 67108864 + q → w < 2 * q → u * 2 ^ 26 + 3 * q - s ≤ 2 ^ 54 + 4 * q
moved_below u w q s e l = omega arith

pub right_by : (a q t u w : ℕ) → 2 ^ 52 ≤ q → q < 2 ^ 53 → t < 1073741824 → (t + h q * h q) % 2 ^ 64 ≡ a → u < 1073741824 → (u + 2 * (h q * l q)) % 2 ^ 64 ≡ t * 67108864 + 268435456 → w < 2 * q → (w + (18014398509481985 + l q * l q)) % 2 ^ 64 ≡ u * 67108864 + q → Nearest (a * 2 ^ 52) q
right_by a q t u w least most tl te ul ue wl we =
    let x = unwrapped t (h q * h q) a (fits_high (h q * h q) t (hh_lt q most) tl) te in
    let y = unwrapped u (2 * (h q * l q)) (t * 67108864 + 268435456) (fits_cross (h q * l q) u (hl_lt q most) ul) ue in
    let z = unwrapped w (18014398509481985 + l q * l q) (u * 67108864 + q) (fits_low (l q * l q) w q (ll_lt q) wl most) we in
    same (a * 2 ^ 52) q (u * 2 ^ 26 + 3 * q - l q * l q) (taken_off q a t u x y least) (above least) (moved_above u w q (l q * l q) z) (moved_below u w q (l q * l q) z wl)
  where
    fits_high : (s t : ℕ) → s < 2 ^ 54 → t < 1073741824 → t + s < 2 ^ 64
    fits_high s t i j = omega arith

    fits_cross : (s u : ℕ) → s < 2 ^ 53 → u < 1073741824 → u + 2 * s < 2 ^ 64
    fits_cross s u i j = omega arith

    fits_low : (s w q : ℕ) → s < 2 ^ 52 → w < 2 * q → q < 2 ^ 53 → w + (18014398509481985 + s) < 2 ^ 64
    fits_low s w q i j k = omega arith

    above : 2 ^ 52 ≤ q → 0 < q
    above i = omega arith

-- ---- the range of a nearest number
pub at_least : (n q : ℕ) → 2 ^ 104 ≤ n → Nearest n q → 2 ^ 52 ≤ q
at_least n q l near =
    lt_of_not-le
    (λ (p : q ≤ 2 ^ 52 - 1).
    let s : q * q ≤ (2 ^ 52 - 1) * q = mul-le-mul_right q p in
    omega (arith, near.above))

pub at_most : (n q : ℕ) → n + 2 ^ 53 ≤ 2 ^ 106 → Nearest n q → q < 2 ^ 53
at_most n q u near = lt_of_not-le (λ (p : 2 ^ 53 ≤ q). too_large n q u p near.below)
  where
    -- q * (q - 1) is at least 2 ^ 53 * (2 ^ 53 - 1)
    too_large : (n q : ℕ) → n + 2 ^ 53 ≤ 2 ^ 106 → 2 ^ 53 ≤ q → q * q < n + q → ⊥
    too_large n q u p b =
        let e : q ≡ q - 1 + 1 = omega arith in
        let s : q * q ≡ q * (q - 1) + q = ap (λ (x : ℕ). q * x) e ∙ mul-add q (q - 1) 1 ∙ ap (λ (x : ℕ). q * (q - 1) + x) (mul-one q) in
        let t : 2 ^ 53 * (q - 1) ≤ q * (q - 1) = mul-le-mul_right (q - 1) p in
        let v : q * (q - 1) < n = omega arith in
        omega arith
