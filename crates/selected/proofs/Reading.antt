-- H P Hᵀ and P Hᵀ for an H that selects items, and a plain P: they are read off P, with +0 added, which only makes a -0 a +0. Assumes nothing.
use mathlib.Core.Path.{◌≡◌, refl, sym, ap, ap₂, ◌∙◌}
use mathlib.Core.Logic.{inl}
use mathlib.Core.Bool.{true}
use mathlib.Core.List.{[]}
use Prim.Native.Nat.{ℕ, suc, ◌+◌, ◌≤◌, ◌<◌}
use native.Mathlib.Omega.{arith}
use lib.Dec.{T}
use lib.Ieee.{Float, nan, binary64, add, mul, fits}
use lib.Ieee.Fits.{add-fits}
use Rattle.matrix.specs.Matrix.{Matrix, item, row, entry, tabulate, nought, sum_to, row_times, product, transposed, congruence}
use Rattle.models.specs.Models.{selection}
use Rattle.selected.specs.Units.{unit_at, read_row, read_rows, is_plain}
use Rattle.selected.proofs.Picks.{Held, Near, near_held, near_plus, no_minus_plus}
use Rattle.number.proofs.Minus.{is_minus_zero}
use Rattle.selected.proofs.Selected.{selected_near, selected_plus, selected_itself, turned}
use Rattle.matrix.proofs.Tabulated.{get_d_tabulate, tabulate_same, sum_same}
use Rattle.matrix.proofs.Entries.{product_entry, transposed_entry}
use Rattle.selected.proofs.Plain.{plain_finite, plain_above}

-- an entry of the matrix that selects the k items from `first` on
module _ (k n first : ℕ) where
  pub selection_entry : (i j : ℕ) → i < k → j < n → entry (selection k n first) i j ≡ unit_at (i + first) j
  unfolding selection
  selection_entry i j hi hj =
      ap (λ r. item r j) (get_d_tabulate [] k i (λ i. tabulate n (λ j. unit_at (i + first) j)) hi)
      ∙ get_d_tabulate nan n j (λ j. unit_at (i + first) j) hj

  pub turned_entry : (i j : ℕ) → i < n → j < k → entry (transposed k n (selection k n first)) i j ≡ unit_at (j + first) i
  turned_entry i j hi hj = transposed_entry k n (selection k n first) i j hi hj ∙ selection_entry j i hj hi

module _ (k l first : ℕ) (room : k + first ≤ suc l) (p : Matrix) (fit : (i j : ℕ) → i < suc l → j < suc l → T (fits binary64 (entry p i j))) (plain : is_plain (suc l) p ≡ true) where
  held : (i j : ℕ) → i ≤ l → j ≤ l → Held (entry p i j)
  held i j hi hj = (fit i j (omega (arith, hi)) (omega (arith, hj)), plain_finite l p plain i j hi hj)

  abbrev read : ℕ → ℕ → Float
  read i j = add binary64 (entry p i j) nought

  abbrev h : Matrix
  h = selection k (suc l) first

  -- an entry of H P
  abbrev left : ℕ → ℕ → Float
  left i m = sum_to l (λ q. mul binary64 (unit_at (i + first) q) (entry p q m))

  left_entry : (i m : ℕ) → i < k → m ≤ l → entry (product k (suc l) (suc l) h p) i m ≡ left i m
  left_entry i m hi hm =
      product_entry k (suc l) (suc l) h p i m hi (omega (arith, hm))
      ∙ sum_same l (λ q. mul binary64 (entry h i q) (entry p q m)) (λ q. mul binary64 (unit_at (i + first) q) (entry p q m))
      (λ q b. ap (λ (x : Float). mul binary64 x (entry p q m)) (selection_entry k (suc l) first i q hi (omega (arith, b))))

  left_near : (i m : ℕ) → i < k → m ≤ l → Near (entry p (i + first) m) (left i m)
  left_near i m hi hm = selected_near l (i + first) (λ q. entry p q m) (λ q b. held q m b hm) (omega (arith, hi, room))

  left_held : (i m : ℕ) → i < k → m ≤ l → Held (left i m)
  left_held i m hi hm = near_held (entry p (i + first) m) (left i m) (held (i + first) m (omega (arith, hi, room)) hm) (left_near i m hi hm)

  left_read : (i j : ℕ) → i < k → j < k → left i (j + first) ≡ read (i + first) (j + first)
  left_read i j hi hj =
      let hm : j + first ≤ l = omega (arith, hj, room) in
      selected_plus l (i + first) (λ q. entry p q (j + first)) (λ q b. held q (j + first) b hm) (omega (arith, hi, room)) (j + first) hm (plain_above l p plain (j + first) hm)

  -- +0 added once more changes nothing
  read_again : (i j : ℕ) → i ≤ l → j ≤ l → add binary64 (read i j) nought ≡ read i j
  read_again i j hi hj =
      sym (near_plus (read i j) (read i j) (add-fits binary64 (entry p i j) nought) (inl refl) (no_minus_plus (entry p i j) (held i j hi hj).0))

  spread_entry : (i j : ℕ) → i < k → j < k → sum_to l (λ m. mul binary64 (left i m) (unit_at (j + first) m)) ≡ read (i + first) (j + first)
  spread_entry i j hi hj =
      let a = i + first in
      let b = j + first in
      let ha : a ≤ l = omega (arith, hi, room) in
      let hb : b ≤ l = omega (arith, hj, room) in
      turned l b (left i)
      ∙ selected_itself l b (left i) (λ m q. left_held i m hi q) hb (ap is_minus_zero (left_read i j hi hj) ∙ no_minus_plus (entry p a b) (held a b ha hb).0)
      ∙ ap (λ (x : Float). add binary64 x nought) (left_read i j hi hj)
      ∙ read_again a b ha hb

  pub spread_read : congruence k (suc l) (selection k (suc l) first) p ≡ tabulate k (λ i. read_row k first (row p (i + first)))
  unfolding congruence product row_times read_row
  spread_read =
      tabulate_same k (λ i. row_times (suc l) k (row (product k (suc l) (suc l) h p) i) (transposed k (suc l) h)) (λ i. tabulate k (λ j. read (i + first) (j + first)))
      (λ i hi. tabulate_same k (λ j. sum_to l (λ m. mul binary64 (entry (product k (suc l) (suc l) h p) i m) (entry (transposed k (suc l) h) m j))) (λ j. read (i + first) (j + first))
      (λ j hj. sum_same l (λ m. mul binary64 (entry (product k (suc l) (suc l) h p) i m) (entry (transposed k (suc l) h) m j)) (λ m. mul binary64 (left i m) (unit_at (j + first) m))
      (λ m b. ap₂ (mul binary64) (left_entry i m hi b) (turned_entry k (suc l) first m j (omega (arith, b)) hj))
      ∙ spread_entry i j hi hj))

  cross_entry : (i j : ℕ) → i ≤ l → j < k → sum_to l (λ m. mul binary64 (entry p i m) (unit_at (j + first) m)) ≡ read i (j + first)
  cross_entry i j hi hj =
      let hb : j + first ≤ l = omega (arith, hj, room) in
      turned l (j + first) (λ m. entry p i m) ∙ selected_plus l (j + first) (λ m. entry p i m) (λ m b. held i m hi b) hb i hi (plain_above l p plain i hi)

  pub cross_read : product (suc l) (suc l) k p (transposed k (suc l) (selection k (suc l) first)) ≡ read_rows k first (suc l) p
  unfolding product row_times read_row read_rows
  cross_read =
      tabulate_same (suc l) (λ i. row_times (suc l) k (row p i) (transposed k (suc l) h)) (λ i. tabulate k (λ j. read i (j + first)))
      (λ i hi. tabulate_same k (λ j. sum_to l (λ m. mul binary64 (entry p i m) (entry (transposed k (suc l) h) m j))) (λ j. read i (j + first))
      (λ j hj. sum_same l (λ m. mul binary64 (entry p i m) (entry (transposed k (suc l) h) m j)) (λ m. mul binary64 (entry p i m) (unit_at (j + first) m))
      (λ m b. ap (mul binary64 (entry p i m)) (turned_entry k (suc l) first m j (omega (arith, b)) hj))
      ∙ cross_entry i j (omega (arith, hi)) hj))
