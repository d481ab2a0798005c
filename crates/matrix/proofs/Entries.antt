-- The entries of a product and of a transpose. Assumes nothing.
use mathlib.Core.Path.{◌≡◌, ap, ◌∙◌}
use mathlib.Core.List.{[]}
use Prim.Native.Nat.{ℕ, ◌<◌}
use lib.Ieee.{nan, binary64, mul}
use Rattle.matrix.specs.Matrix.{Matrix, item, row, entry, tabulate, sum_of, row_times, product, transposed}
use Rattle.matrix.proofs.Tabulated.{get_d_tabulate}

pub product_entry : (n m p : ℕ) (a b : Matrix) (i j : ℕ) → i < n → j < p → entry (product n m p a b) i j ≡ sum_of m (λ k. mul binary64 (entry a i k) (entry b k j))
unfolding product row_times
product_entry n m p a b i j hi hj =
    ap (λ r. item r j) (get_d_tabulate [] n i (λ i. row_times m p (row a i) b) hi)
    ∙ get_d_tabulate nan p j (λ j. sum_of m (λ k. mul binary64 (entry a i k) (entry b k j))) hj

pub transposed_entry : (n p : ℕ) (a : Matrix) (i j : ℕ) → i < p → j < n → entry (transposed n p a) i j ≡ entry a j i
unfolding transposed
transposed_entry n p a i j hi hj =
    ap (λ r. item r j) (get_d_tabulate [] p i (λ j. tabulate n (λ i. entry a i j)) hi)
    ∙ get_d_tabulate nan n j (λ j. entry a j i) hj
