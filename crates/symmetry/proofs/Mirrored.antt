-- A matrix that equals its transpose counts as symmetric: no difference in it is larger than +0, and the tolerance is never less. Assumes nothing.
use mathlib.Core.Path.{◌≡◌, refl, sym, ap, ◌∙◌, subst}
use mathlib.Core.Logic.{◌⊎◌, inl, inr}
use mathlib.Core.Bool.{Bool, true, false}
use mathlib.Core.List.{[]}
use Prim.Native.Nat.{ℕ, zero, suc, ◌<◌}
use native.Mathlib.Nat.{le_refl, eq-or-lt_of_le}
use native.Mathlib.Omega.{arith}
use lib.Dec.{ltb}
use borrow.Author.Tests.{ltb-true, ltb-false}
use lib.Ieee.{Float, nan, binary64, sub, mul, le, eq, of_bits}
use Rattle.number.specs.Float.{absolute_of, larger_of}
use Rattle.number.proofs.Held.{zero_of}
use Rattle.number.proofs.Equal.{NoDifference, equal_difference, own_difference, eq_turned}
use Rattle.number.proofs.Plus.{is_plus, add_plus, mul_plus, larger_plus, zero_at_most}
use Rattle.matrix.specs.Matrix.{Matrix, item, row, entry, all_of}
use Rattle.matrix.proofs.All.{all_true}
use Rattle.matrix.proofs.Tabulated.{get_d_tabulate}
use Rattle.symmetry.specs.Symmetry.{largest_of, largest_in_row, largest_in_rows, largest, skew_row, skew, mirrored, tolerance, is_symmetric}

-- ---- the largest of numbers none of which is larger than +0

abbrev Nothing : Float → Type 0
Nothing x = larger_of (zero_of false) (absolute_of x) ≡ zero_of false

of_nothing : (n : ℕ) (f : ℕ → Float) → ((k : ℕ) → k < n → Nothing (f k)) → largest_of n f (zero_of false) ≡ zero_of false
of_nothing zero f h = refl
of_nothing (suc n) f h = ap (λ (m : Float). larger_of m (absolute_of (f n))) (of_nothing n f (λ k b. h k (omega (arith, b)))) ∙ h n (le_refl (suc n))

rows_nothing : (n p : ℕ) (a : Matrix) → ((i j : ℕ) → i < n → j < p → Nothing (entry a i j)) → largest_in_rows n p a ≡ zero_of false
unfolding of_bits largest_in_row
rows_nothing zero p a h = refl
rows_nothing (suc n) p a h =
    ap (λ (m : Float). largest_in_row p (row a n) m) (rows_nothing n p a (λ i j b. h i j (omega (arith, b))))
    ∙ of_nothing p (λ k. item (row a n) k) (λ j b. h n j (le_refl (suc n)) b)

-- ---- the tolerance has the sign plus

of_plus : (n : ℕ) (f : ℕ → Float) (m : Float) → is_plus m ≡ true → is_plus (largest_of n f m) ≡ true
of_plus zero f m p = p
of_plus (suc n) f m p = larger_plus (largest_of n f m) (f n) (of_plus n f m p)

rows_plus : (n p : ℕ) (a : Matrix) → is_plus (largest_in_rows n p a) ≡ true
unfolding of_bits largest_in_row
rows_plus zero p a = refl
rows_plus (suc n) p a = of_plus p (λ k. item (row a n) k) (largest_in_rows n p a) (rows_plus n p a)

tolerance_plus : (x : Float) → is_plus x ≡ true → is_plus (tolerance x) ≡ true
unfolding of_bits
tolerance_plus x p = add_plus (of_bits binary64 0x3d71_9799_812d_ea11) (mul binary64 (of_bits binary64 0x3e11_2e0b_e826_d695) x) refl (mul_plus _ _ x p)

-- ---- a matrix that equals its transpose

module _ (n : ℕ) (a : Matrix) (same : mirrored n a ≡ true) where
  pair : (i j : ℕ) → i < n → j < i → eq (entry a j i) (entry a i j) ≡ true
  unfolding mirrored
  pair i j hi hj = all_true i (λ j. eq (entry a j i) (entry a i j)) (all_true n (λ i. all_of i (λ j. eq (entry a j i) (entry a i j))) same i hi) j hj

  level : (i j : ℕ) → i < n → j < n → NoDifference (entry a i j) (entry a j i)
  level i j hi hj = go (ltb i j) refl
    where
      beyond : (j ≡ i) ⊎ (j < i) → NoDifference (entry a i j) (entry a j i)
      beyond (inl e) = subst (λ (k : ℕ). NoDifference (entry a i k) (entry a k i)) (sym e) (own_difference (entry a i i))
      beyond (inr l) = equal_difference (entry a i j) (entry a j i) (eq_turned (entry a j i) (entry a i j) (pair i j hi l))

      go : (b : Bool) → ltb i j ≡ b → NoDifference (entry a i j) (entry a j i)
      go true e = equal_difference (entry a i j) (entry a j i) (pair j i hj (ltb-true i j e))
      go false e = beyond (eq-or-lt_of_le (ltb-false i j e))

  skew_entry : (i j : ℕ) → i < n → j < n → entry (skew n a) i j ≡ sub binary64 (entry a i j) (entry a j i)
  unfolding skew skew_row
  skew_entry i j hi hj =
      ap (λ r. item r j) (get_d_tabulate [] n i (λ i. skew_row n a i) hi)
      ∙ get_d_tabulate nan n j (λ j. sub binary64 (entry a i j) (entry a j i)) hj

  pub mirrored_symmetric : true ≡ is_symmetric n a
  unfolding is_symmetric largest
  mirrored_symmetric =
      sym (ap (λ (x : Float). le x (tolerance (largest n n a))) (rows_nothing n n (skew n a) (λ i j hi hj. subst Nothing (sym (skew_entry i j hi hj)) (level i j hi hj)))
      ∙ zero_at_most (tolerance (largest n n a)) (tolerance_plus (largest n n a) (rows_plus n n a)))
