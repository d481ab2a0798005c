-- A rounded root lies between the midpoints around it. Assumes nothing.
use Rattle.std.proofs.Common.{◌≡◌, ℕ, ◌+◌, ◌-◌, ◌*◌, ◌^◌, ◌<◌, ◌≤◌, Bool, true, false, cond, eqb, sym, refl, ap, ◌∙◌, subst, le_of_eq, lt_of_lt_of_le, lt_of_le_of_lt, mul_assoc, mul_comm, add-mul, mul-lt-mul_of_pos_right, mul-pos, one-mul, mul-one, mul-add, mul_left_comm, arith, pow_pos, eqb-true}
use Rattle.square_root.specs.Root.{lower_midpoint, upper_midpoint}
use Rattle.square_root.specs.RootSteps.{Nearest, Rounded}

-- ---- squares of midpoints, in quarters
upper_square : (q : ℕ) → (4 * q + 2) * (4 * q + 2) ≡ 16 * (q * q) + 16 * q + 4
upper_square q = simp (mul-add, add-mul, mul-one, one-mul, mul_assoc, mul_comm, mul_left_comm) (omega arith)

-- with p one below the midpoint's own number
lower_square : (p : ℕ) → (4 * p + 2) * (4 * p + 2) + 16 * (p + 1) ≡ 16 * ((p + 1) * (p + 1)) + 4
lower_square p =
    let s : (p + 1) * (p + 1) ≡ p * p + p + p + 1 = simp (mul-add, add-mul, mul-one, one-mul) (omega arith) in
    omega (arith, upper_square p)

module _ (n q : ℕ) (least : 2 ^ 104 ≤ n) (near : Nearest n q) (least_root : 2 ^ 52 ≤ q) where
  above : 16 * n < upper_midpoint q * upper_midpoint q
  above = omega (arith, upper_square q, near.above)

  below : lower_midpoint q * lower_midpoint q < 16 * n
  below = go (eqb q (2 ^ 52)) refl
    where
      go : (t : Bool) → eqb q (2 ^ 52) ≡ t → cond t (4 * q - 1) (4 * q - 2) * cond t (4 * q - 1) (4 * q - 2) < 16 * n
      go true e =
          let f : q ≡ 2 ^ 52 = eqb-true q (2 ^ 52) e in
          subst (λ (x : ℕ). (4 * x - 1) * (4 * x - 1) < 16 * n) (sym f) (omega arith)
      go false e =
          let f : q ≡ q - 1 + 1 = omega arith in
          let g : q * q ≡ (q - 1 + 1) * (q - 1 + 1) = ap (λ (x : ℕ). x * x) f in
          let k : 4 * q - 2 ≡ 4 * (q - 1) + 2 = omega arith in
          let l : (4 * q - 2) * (4 * q - 2) ≡ (4 * (q - 1) + 2) * (4 * (q - 1) + 2) = ap (λ (x : ℕ). x * x) k in
          omega (arith, lower_square (q - 1), near.below)

-- ---- the same times a power of four
square_of_lem : (x p : ℕ) → x * p * (x * p) ≡ x * x * (p * p)
square_of_lem x p = simp (mul_assoc, mul_comm, mul_left_comm)

module _ (w q j : ℕ) (h : Rounded w q j) where
  by_sixteen : 16 * w ≡ 16 * h.n * (2 ^ j * 2 ^ j)
  by_sixteen = ap (λ (x : ℕ). 16 * x) h.exact ∙ sym (mul_assoc 16 h.n (2 ^ j * 2 ^ j))

  pub upper : 16 * w < upper_midpoint q * 2 ^ j * (upper_midpoint q * 2 ^ j)
  upper =
      lt_of_le_of_lt (le_of_eq by_sixteen)
      (lt_of_lt_of_le (mul-lt-mul_of_pos_right (above h.n q h.least h.near h.least_root) (mul-pos (pow_pos j) (pow_pos j)))
      (le_of_eq (sym (square_of_lem (upper_midpoint q) (2 ^ j)))))

  pub lower : lower_midpoint q * 2 ^ j * (lower_midpoint q * 2 ^ j) < 16 * w
  lower =
      lt_of_le_of_lt (le_of_eq (square_of_lem (lower_midpoint q) (2 ^ j)))
      (lt_of_lt_of_le (mul-lt-mul_of_pos_right (below h.n q h.least h.near h.least_root) (mul-pos (pow_pos j) (pow_pos j)))
      (le_of_eq (sym by_sixteen)))
