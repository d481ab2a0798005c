-- The products with the transition F, read off: each position goes on by dt times its velocity, the velocities stay. The +0 added at the end makes a -0 a +0, as the zeros of the full sums do.
use Rattle.std.specs.Prelude.{ℕ, ◌+◌, Bool, ◌&&◌, cond, ltb, Float}
use Rattle.std.specs.Float.{binary64}
use Rattle.std.specs.Float.Ieee.{add, mul, lt}
use Rattle.matrix.specs.Matrix.{Vector, Matrix, item, row, entry, tabulate, nought}
use Rattle.selected.specs.Units.{is_above, is_plain}

-- item i of F g, for a state of as many positions as axes and then their velocities
abbrev pub glided_item : ℕ → Float → (ℕ → Float) → ℕ → Float
glided_item axes dt g i = cond (ltb i axes) (add binary64 (add binary64 (g i) (mul binary64 dt (g (i + axes)))) nought) (add binary64 (g i) nought)

-- F p, for n items
unfoldable pub glided_rows : ℕ → ℕ → Float → Matrix → Matrix
glided_rows n axes dt p = tabulate n (λ i. tabulate n (λ j. glided_item axes dt (λ k. entry p k j) i))

-- a row x times the transpose of F, and the same of each of n rows
unfoldable pub glided_row : ℕ → ℕ → Float → Vector → Vector
glided_row n axes dt x = tabulate n (λ j. glided_item axes dt (λ k. item x k) j)

unfoldable pub glided_columns : ℕ → ℕ → Float → Matrix → Matrix
glided_columns n axes dt m = tabulate n (λ i. glided_row n axes dt (row m i))

-- where the products can be read off: time goes on, the diagonal of p is above 0, and F p, read off as m, is plain
abbrev pub can_glide : ℕ → Float → Matrix → Matrix → Bool
can_glide n dt p m = lt nought dt && is_above n p && is_plain n m
