-- What is solved with a Cholesky factor, for any size, each operation rounded once.
-- 01, Matrix: "Solving forward subtracts term by term; backward sums first and subtracts once."
use Rattle.std.specs.Prelude.{ℕ, zero, suc, ◌+◌, ◌-◌, [], ◌∷◌, ◌++◌, Float}
use Rattle.std.specs.Float.{binary64}
use Rattle.std.specs.Float.Ieee.{sub, mul, div}
use Rattle.matrix.specs.Matrix.{Vector, Matrix, item, row, entry, tabulate, sum_of, transposed}
use Rattle.cholesky.specs.Cholesky.{less_each}

-- x less the sum of n terms; x itself where there are none
abbrev pub less_sum : ℕ → (ℕ → Float) → Float → Float
less_sum zero f x = x
less_sum (suc n) f x = sub binary64 x (sum_of (suc n) f)

-- ---- solving with the factor's columns l

-- item i of y with L y = b, by the i items before it
abbrev pub forward_item : Matrix → Vector → ℕ → (ℕ → Float) → Float
forward_item l b i before = div binary64 (less_each i (λ k. mul binary64 (entry l k i) (before k)) (item b i)) (entry l i i)

-- the first i items of it
abbrev pub forward_to : ℕ → Matrix → Vector → Vector
forward_to zero l b = []
forward_to (suc i) l b =
    let y = forward_to i l b in
    y ++ (forward_item l b i (λ k. item y k) ∷ [])

unfoldable pub forward : ℕ → Matrix → Vector → Vector
forward n l b = forward_to n l b

-- item i of x with Lᵀ x = y, by the k items behind it
abbrev pub backward_item : Matrix → Vector → ℕ → ℕ → (ℕ → Float) → Float
backward_item l y i k behind = div binary64 (less_sum k (λ t. mul binary64 (entry l i (i + 1 + t)) (behind t)) (item y i)) (entry l i i)

-- the last k of the n items of it
abbrev pub backward_from : ℕ → ℕ → Matrix → Vector → Vector
backward_from zero n l y = []
backward_from (suc k) n l y =
    let x = backward_from k n l y in
    backward_item l y (n - suc k) k (λ t. item x t) ∷ x

unfoldable pub backward : ℕ → Matrix → Vector → Vector
backward n l y = backward_from n n l y

-- x with L Lᵀ x = b
unfoldable pub solved : ℕ → Matrix → Vector → Vector
solved n l b = backward n l (forward n l b)

-- X with L Lᵀ X = b, for b of n by p: column j of X from column j of b
unfoldable pub solved_columns : ℕ → ℕ → Matrix → Matrix → Matrix
solved_columns n p l b = tabulate n (λ i. tabulate p (λ j. item (solved n l (row (transposed n p b) j)) i))

-- 01, Filter: "Update takes K from (symmetrized S) X = (P Hᵀ)ᵀ". K = Xᵀ, for P Hᵀ of p by n.
unfoldable pub gain_by : ℕ → ℕ → Matrix → Matrix → Matrix
gain_by n p l pht = transposed n p (solved_columns n p l (transposed p n pht))
