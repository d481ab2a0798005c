-- When a matrix counts as symmetric, for any size.
use Rattle.std.specs.Prelude.{ℕ, zero, suc, Bool, Float}
use Rattle.std.specs.Float.{binary64}
use Rattle.std.specs.Float.Ieee.{add, sub, mul, le, eq, of_bits}
use Rattle.number.specs.Float.{absolute_of, larger_of}
use Rattle.matrix.specs.Matrix.{Vector, Matrix, item, row, entry, tabulate, nought, all_of}

-- the largest of m, |f 0|, .. of n numbers
abbrev pub largest_of : ℕ → (ℕ → Float) → Float → Float
largest_of zero f m = m
largest_of (suc n) f m = larger_of (largest_of n f m) (absolute_of (f n))

-- "the largest |m|": over a row of p items, begun with m, and over n rows, begun with +0
unfoldable pub largest_in_row : ℕ → Vector → Float → Float
largest_in_row p x m = largest_of p (λ k. item x k) m

abbrev pub largest_in_rows : ℕ → ℕ → Matrix → Float
largest_in_rows zero p a = nought
largest_in_rows (suc n) p a = largest_in_row p (row a n) (largest_in_rows n p a)

unfoldable pub largest : ℕ → ℕ → Matrix → Float
largest n p a = largest_in_rows n p a

-- m − mᵀ: row i of it, and the whole
unfoldable pub skew_row : ℕ → Matrix → ℕ → Vector
skew_row n a i = tabulate n (λ j. sub binary64 (entry a i j) (entry a j i))

unfoldable pub skew : ℕ → Matrix → Matrix
skew n a = tabulate n (λ i. skew_row n a i)

-- each entry equals the one across the diagonal
unfoldable pub mirrored : ℕ → Matrix → Bool
mirrored n a = all_of n (λ i. all_of i (λ j. eq (entry a j i) (entry a i j)))

-- 1e-12 + 1e-9 × the scale
abbrev pub tolerance : Float → Float
tolerance scale = add binary64 (of_bits binary64 0x3d71_9799_812d_ea11) (mul binary64 (of_bits binary64 0x3e11_2e0b_e826_d695) scale)

-- 01, Matrix: "Symmetric: the largest |m − mᵀ| is at most 1e-12 + 1e-9 × the largest |m|."
unfoldable pub is_symmetric : ℕ → Matrix → Bool
is_symmetric n a = le (largest n n (skew n a)) (tolerance (largest n n a))
