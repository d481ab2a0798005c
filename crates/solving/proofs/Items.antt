-- Solving reads a vector item by item, so a row and the column that is made of its items have one solution. For any size. Assumes nothing.
use mathlib.Core.Path.{◌≡◌, refl, sym, ap, ◌∙◌}
use mathlib.Core.List.{[], ◌∷◌, ◌++◌}
use Prim.Native.Nat.{ℕ, zero, suc, ◌<◌}
use native.Mathlib.Omega.{arith}
use lib.ListN.{length}
use lib.Ieee.{nan, binary64, mul, div}
use Rattle.matrix.specs.Matrix.{Vector, Matrix, item, row, entry, tabulate, transposed}
use Rattle.matrix.proofs.Tabulated.{get_d_tabulate, tabulate_same}
use Rattle.cholesky.specs.Cholesky.{less_each}
use lib.Ieee.{Float}
use Rattle.solving.specs.Solving.{forward_to, forward, backward_from, backward, solved, solved_columns, gain_by}

tabulate_items : (n : ℕ) (x : Vector) → length x ≡ n → tabulate n (λ k. item x k) ≡ x
tabulate_items zero [] e = refl
tabulate_items zero (a ∷ x) e = absurd (omega (arith, e))
tabulate_items (suc n) [] e = absurd (omega (arith, e))
tabulate_items (suc n) (a ∷ x) e = ap (λ l. a ∷ l) (tabulate_items n x (omega (arith, e)))

forward_same : (i : ℕ) (l : Matrix) (b d : Vector) → ((k : ℕ) → k < i → item b k ≡ item d k) → forward_to i l b ≡ forward_to i l d
forward_same zero l b d h = refl
forward_same (suc i) l b d h =
    let e : forward_to i l b ≡ forward_to i l d = forward_same i l b d (λ k g. h k (omega arith)) in
    let g : item b i ≡ item d i = h i (omega arith) in
    λ j. e j ++ (div binary64 (less_each i (λ k. mul binary64 (entry l k i) (item (e j) k)) (g j)) (entry l i i) ∷ [])

length_backward : (k n : ℕ) (l : Matrix) (y : Vector) → length (backward_from k n l y) ≡ k
length_backward zero n l y = refl
length_backward (suc k) n l y = ap suc (length_backward k n l y)

gain_row : (n : ℕ) (l : Matrix) (v : Vector) → tabulate n (λ i. item (solved n l (tabulate n (λ k. item v k))) i) ≡ solved n l v
unfolding solved forward backward
gain_row n l v =
    tabulate_items n _ (length_backward n n l _)
    ∙ ap (backward_from n n l) (forward_same n l (tabulate n (λ k. item v k)) v (λ k h. get_d_tabulate nan n k (λ k. item v k) h))

table_at : (n p : ℕ) (f : ℕ → ℕ → Float) (i j : ℕ) → i < n → j < p → entry (tabulate n (λ i. tabulate p (f i))) i j ≡ f i j
table_at n p f i j hi hj = ap (λ r. item r j) (get_d_tabulate [] n i (λ i. tabulate p (f i)) hi) ∙ get_d_tabulate nan p j (f i) hj

-- the gain, row by row
module _ (n p : ℕ) (l pht : Matrix) where
  turned : Matrix
  turned = transposed n p (transposed p n pht)

  turned_row : (j : ℕ) → j < p → row turned j ≡ tabulate n (λ k. item (row pht j) k)
  unfolding transposed turned
  turned_row j h =
      get_d_tabulate [] p j (λ j. tabulate n (λ i. entry (transposed p n pht) i j)) h
      ∙ tabulate_same n _ _ (λ k b. table_at n p (λ i j. entry pht j i) k j b h)

  gained_row : (j : ℕ) → j < p → solved n l (row pht j) ≡ tabulate n (λ i. entry (solved_columns n p l (transposed p n pht)) i j)
  unfolding solved_columns transposed turned
  gained_row j h =
      sym (gain_row n l (row pht j))
      ∙ tabulate_same n _ _ (λ i b. ap (λ v. item (solved n l v) i) (sym (turned_row j h)) ∙ sym (table_at n p (λ i j. item (solved n l (row turned j)) i) i j b h))

  pub gain_rows : tabulate p (λ j. solved n l (row pht j)) ≡ gain_by n p l pht
  unfolding gain_by transposed
  gain_rows = tabulate_same p _ _ gained_row
