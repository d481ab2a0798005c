-- A group of one row and one column, whose run is told by one comparison: where that is so, and what the run gives.
use Rattle.std.specs.Prelude.{Bool, cond, ◌&&◌, List, ◌∷◌, ℕ, eqb, replicate, Float}
use Rattle.std.specs.Float.{binary64}
use Rattle.std.specs.Float.Ieee.{add, eq, of_bits}
use Rattle.std.specs.Float.Ieee.Scale.{finite}

-- the pair's cost and the row's own are finite, and the column's own is a zero
abbrev pub is_single : Float → ℕ → ℕ → Float → Float → Bool
is_single cost rows cols row col = eqb rows 1 && eqb cols 1 && eq col (of_bits binary64 0) && finite (add binary64 cost row)

-- the row of each column of the square of two, place 0 first: the pair is made, unless the row's own cost is less
abbrev pub single_rows : Bool → List ℕ
single_rows less = 2 ∷ cond less 2 1 ∷ cond less 1 2 ∷ replicate 126 0
