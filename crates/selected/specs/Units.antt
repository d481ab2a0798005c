-- The rows of an identity, which a measurement's matrix is made of, and a test that lets the products with it be read off.
use Rattle.std.specs.Prelude.{ℕ, ◌+◌, ◌-◌, Bool, ◌&&◌, cond, ltb, eqb, Float}
use Rattle.std.specs.Float.{binary64}
use Rattle.std.specs.Float.Ieee.{add, sub, lt}
use Rattle.std.specs.Float.Ieee.Scale.{finite}
use Rattle.matrix.specs.Matrix.{Vector, Matrix, item, row, entry, tabulate, nought, one, total, all_of, minus_vector}

-- 1 at place k, else +0
abbrev pub unit_at : ℕ → ℕ → Float
unit_at k j = cond (eqb j k) one nought

-- row k of the identity of n
unfoldable pub unit_vector : ℕ → ℕ → Vector
unit_vector n k = tabulate n (λ j. unit_at k j)

-- the k items of x from `first` on, each with +0 added
unfoldable pub read_row : ℕ → ℕ → Vector → Vector
read_row k first x = tabulate k (λ j. add binary64 (item x (j + first)) nought)

-- the same of each of n rows
unfoldable pub read_rows : ℕ → ℕ → ℕ → Matrix → Matrix
read_rows k first n p = tabulate n (λ i. read_row k first (row p i))

-- row i of the identity of n, its k items from `first` on less those of x
unfoldable pub rest_row : ℕ → ℕ → ℕ → Vector → ℕ → Vector
rest_row n k first x i = tabulate n (λ j. cond (ltb j first) (unit_at j i) (cond (ltb j (k + first)) (sub binary64 (unit_at j i) (item x (j - first))) (unit_at j i)))

-- row i of the identity of n less x
unfoldable pub less_from : ℕ → ℕ → Vector → Vector
less_from n i x = minus_vector n (tabulate n (λ j. unit_at j i)) x

-- the diagonal is above 0
abbrev pub is_above : ℕ → Matrix → Bool
is_above n p = all_of n (λ k. lt nought (entry p k k))

-- and the total is finite, so that each entry is
unfoldable pub is_plain : ℕ → Matrix → Bool
is_plain n p = finite (total n n p) && is_above n p
