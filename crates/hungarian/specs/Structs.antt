-- The code's structs as the definition's records.
use Rattle.std.specs.Prelude.{Float, List}
use Rattle.kuhn_munkres.specs.Square.{Square}
use Rattle.hungarian.specs.Passes.{Least}
use Rattle.hungarian.specs.declared.Best.{Best}
use Rattle.hungarian.specs.declared.Shape.{Shape}

abbrev pub least_of : Best → Least Float
least_of b = record { delta = b.delta; j1 = b.j1 }

-- the square of a group's own table
abbrev pub square_from : List Float → Shape → Square Float
square_from costs q = record { costs = costs; rows = q.rows; cols = q.cols; far = q.far; row = q.row; col = q.col }
