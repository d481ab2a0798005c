-- A matrix as one list, row after row. 01, The form for each place: "covariance as a flat array".
use Rattle.std.specs.Prelude.{ℕ, ◌+◌, ◌*◌, ◌/◌, ◌%◌}
use Rattle.matrix.specs.Matrix.{Vector, Matrix, item, entry, tabulate}

-- the matrix of n rows and p columns that a list holds, and the list that holds a matrix
unfoldable pub row_of : ℕ → Vector → ℕ → Vector
row_of p v i = tabulate p (λ j. item v (i * p + j))

unfoldable pub rows_of : ℕ → ℕ → Vector → Matrix
rows_of n p v = tabulate n (λ i. row_of p v i)

unfoldable pub flat_of : ℕ → ℕ → Matrix → Vector
flat_of n p a = tabulate (n * p) (λ k. entry a (k / p) (k % p))
