-- What a matrix that selects items makes of a row and of a covariance, row by row. Assumes nothing.
use mathlib.Core.Path.{◌≡◌, sym, ap, ◌∙◌}
use mathlib.Core.List.{[]}
use Prim.Native.Nat.{ℕ, ◌+◌, ◌<◌}
use lib.Ieee.{binary64, mul}
use Rattle.number.proofs.Held.{mul_turned}
use Rattle.matrix.specs.Matrix.{Vector, Matrix, item, row, entry, tabulate, sum_of, dot, row_times, product, times_vector, transposed, congruence}
use Rattle.matrix.proofs.Tabulated.{get_d_tabulate, tabulate_same, sum_of_same}
use Rattle.matrix.proofs.Entries.{transposed_entry}
use Rattle.models.specs.Models.{selection}
use Rattle.selected.specs.Units.{unit_at, unit_vector}
use Rattle.selected.proofs.Reading.{turned_entry}

-- a matrix times a vector is the vector times the transpose
pub times_turned : (n m : ℕ) (a : Matrix) (x : Vector) → row_times m n x (transposed n m a) ≡ times_vector n m a x
unfolding times_vector row_times
times_turned n m a x =
    tabulate_same n (λ i. sum_of m (λ k. mul binary64 (item x k) (entry (transposed n m a) k i))) (λ i. dot m (row a i) x)
    (λ i hi. sum_of_same m (λ k. mul binary64 (item x k) (entry (transposed n m a) k i)) (λ k. mul binary64 (entry a i k) (item x k))
    (λ k hk. ap (mul binary64 (item x k)) (transposed_entry n m a k i hk hi) ∙ mul_turned binary64 (item x k) (entry a i k)))

module _ (k n first : ℕ) where
  -- the row x times the transpose
  pub row_seen_is : (x : Vector) → tabulate k (λ i. sum_of n (λ j. mul binary64 (item x j) (unit_at (i + first) j))) ≡ row_times n k x (transposed k n (selection k n first))
  unfolding row_times
  row_seen_is x =
      tabulate_same k (λ i. sum_of n (λ j. mul binary64 (item x j) (unit_at (i + first) j))) (λ i. sum_of n (λ j. mul binary64 (item x j) (entry (transposed k n (selection k n first)) j i)))
      (λ i hi. sum_of_same n (λ j. mul binary64 (item x j) (unit_at (i + first) j)) (λ j. mul binary64 (item x j) (entry (transposed k n (selection k n first)) j i))
      (λ j hj. ap (mul binary64 (item x j)) (sym (turned_entry k n first j i hj hi))))

  selection_row : (i : ℕ) → i < k → row (selection k n first) i ≡ unit_vector n (i + first)
  unfolding selection unit_vector
  selection_row i hi = get_d_tabulate [] k i (λ i. tabulate n (λ j. unit_at (i + first) j)) hi

  -- the covariance of what is selected
  pub spread_is : (p : Matrix) → tabulate k (λ i. row_times n k (row_times n n (unit_vector n (i + first)) p) (transposed k n (selection k n first))) ≡ congruence k n (selection k n first) p
  unfolding congruence product
  spread_is p =
      let h = selection k n first in
      tabulate_same k (λ i. row_times n k (row_times n n (unit_vector n (i + first)) p) (transposed k n h)) (λ i. row_times n k (row (tabulate k (λ i. row_times n n (row h i) p)) i) (transposed k n h))
      (λ i hi. ap (λ x. row_times n k x (transposed k n h)) (ap (λ r. row_times n n r p) (sym (selection_row i hi)) ∙ sym (get_d_tabulate [] k i (λ i. row_times n n (row h i) p) hi)))
