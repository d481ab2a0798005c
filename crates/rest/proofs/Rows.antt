-- I − K H row by row, for an H that selects items. Assumes nothing.
use mathlib.Core.Path.{◌≡◌, sym, ap, ap₂, ◌∙◌}
use mathlib.Core.List.{[]}
use Prim.Native.Nat.{ℕ, ◌+◌}
use lib.Ieee.{nan, binary64, sub, mul}
use Rattle.matrix.specs.Matrix.{Vector, Matrix, item, row, entry, tabulate, sum_of, row_times, product, minus, minus_vector, identity}
use Rattle.matrix.proofs.Tabulated.{get_d_tabulate, tabulate_same, sum_of_same}
use Rattle.models.specs.Models.{selection}
use Rattle.selected.specs.Units.{unit_at, less_from}
use Rattle.selected.proofs.Reading.{selection_entry}

module _ (k n first : ℕ) where
  -- row i of the identity less x times H
  pub worked_is : (x : Vector) (i : ℕ) → tabulate n (λ j. sub binary64 (unit_at j i) (sum_of k (λ m. mul binary64 (item x m) (unit_at (m + first) j)))) ≡ less_from n i (row_times k n x (selection k n first))
  unfolding less_from minus_vector row_times
  worked_is x i =
      let h = selection k n first in
      tabulate_same n (λ j. sub binary64 (unit_at j i) (sum_of k (λ m. mul binary64 (item x m) (unit_at (m + first) j)))) (λ j. sub binary64 (item (tabulate n (λ j. unit_at j i)) j) (item (tabulate n (λ j. sum_of k (λ m. mul binary64 (item x m) (entry h m j)))) j))
      (λ j hj. ap₂ (sub binary64) (sym (get_d_tabulate nan n j (λ j. unit_at j i) hj))
      (sum_of_same k (λ m. mul binary64 (item x m) (unit_at (m + first) j)) (λ m. mul binary64 (item x m) (entry h m j)) (λ m hm. ap (mul binary64 (item x m)) (sym (selection_entry k n first m j hm hj)))
      ∙ sym (get_d_tabulate nan n j (λ j. sum_of k (λ m. mul binary64 (item x m) (entry h m j))) hj)))

-- the rows together
pub rest_is : (k n : ℕ) (h gain : Matrix) → tabulate n (λ i. less_from n i (row_times k n (row gain i) h)) ≡ minus n n (identity n) (product n k n gain h)
unfolding minus identity product less_from
rest_is k n h gain =
    tabulate_same n (λ i. minus_vector n (tabulate n (λ j. unit_at j i)) (row_times k n (row gain i) h)) (λ i. minus_vector n (row (tabulate n (λ i. tabulate n (λ j. unit_at j i))) i) (row (tabulate n (λ i. row_times k n (row gain i) h)) i))
    (λ i hi. ap₂ (minus_vector n) (sym (get_d_tabulate [] n i (λ i. tabulate n (λ j. unit_at j i)) hi)) (sym (get_d_tabulate [] n i (λ i. row_times k n (row gain i) h) hi)))
