-- When a vector and a matrix are finite, for any size.
use Rattle.std.specs.Prelude.{ℕ, Bool}
use Rattle.std.specs.Float.Ieee.Scale.{finite}
use Rattle.matrix.specs.Matrix.{Vector, Matrix, item, row, all_of}

-- no NaN and no infinity among n items, among n rows of p items
unfoldable pub finite_vector : ℕ → Vector → Bool
finite_vector n x = all_of n (λ k. finite (item x k))

unfoldable pub finite_matrix : ℕ → ℕ → Matrix → Bool
finite_matrix n p a = all_of n (λ i. finite_vector p (row a i))
