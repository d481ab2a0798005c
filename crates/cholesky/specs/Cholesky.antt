-- The Cholesky factor of a symmetric matrix, for any size, each operation rounded once.
-- 01, Matrix: "Cholesky reads the lower triangle, column by column, subtracting earlier columns in order. A pivot not greater than 0 (NaN included) fails.
-- Entries below are divided by the pivot's root."
use Rattle.std.specs.Prelude.{ℕ, zero, suc, ◌+◌, Bool, true, false, cond, [], ◌∷◌, ◌++◌, ltb, eqb, Float}
use Rattle.std.specs.Float.{binary64}
use Rattle.std.specs.Float.Ieee.{sub, mul, div, lt}
use Rattle.number.specs.Reply.{Reply, refused, given, and_then}
use Rattle.square_root.specs.Root.{root_reply}
use Rattle.matrix.specs.Matrix.{Vector, Matrix, entry, tabulate, nought}

-- x less f 0, less f 1, .. of n terms, one after the other
abbrev pub less_each : ℕ → (ℕ → Float) → Float → Float
less_each zero f x = x
less_each (suc n) f x = sub binary64 (less_each n f x) (f n)

-- ---- the factor, as the list of its columns

-- entry i, j of a less what the j columns before it take away
abbrev pub remainder : Matrix → Matrix → ℕ → ℕ → Float
remainder a columns i j = less_each j (λ k. mul binary64 (entry columns k i) (entry columns k j)) (entry a i j)

-- column j of n items: +0 above the pivot's root, quotients below it
abbrev pub column_entry : Matrix → Matrix → ℕ → Float → ℕ → Float
column_entry a columns j root i = cond (ltb i j) nought (cond (eqb i j) root (div binary64 (remainder a columns i j) root))

unfoldable pub column_by : ℕ → Matrix → Matrix → ℕ → Float → Vector
column_by n a columns j root = tabulate n (λ i. column_entry a columns j root i)

-- the root of a pivot that is greater than 0
abbrev pub or_fails : Bool → Reply Float → Reply Float
or_fails true (given d) = given d
or_fails true (refused n) = refused 7
or_fails false r = refused 7

unfoldable pub pivot_root : Float → Reply Float
pivot_root p = or_fails (lt nought p) (root_reply p)

-- the root alone, +0 where there is none
abbrev pub root_in : Reply Float → Float
root_in (given d) = d
root_in (refused n) = nought

-- the `left` columns from column j on, behind those before it
unfoldable pub columns_from : ℕ → ℕ → Matrix → ℕ → Matrix → Reply Matrix
columns_from zero n a j columns = given columns
columns_from (suc left) n a j columns = and_then (pivot_root (remainder a columns j j)) (λ d. columns_from left n a (j + 1) (columns ++ (column_by n a columns j d ∷ [])))

-- the factor of an n by n matrix
unfoldable pub cholesky : ℕ → Matrix → Reply Matrix
cholesky n a = columns_from n n a 0 []
