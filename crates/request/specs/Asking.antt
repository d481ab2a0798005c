-- What the reader of a request answers: what is asked, or 01's 13, and the costs in one array.
use Rattle.std.specs.Prelude.{◌≡◌, Bool, List, [], ◌∷◌, replicate, Float, Option, Some, None, IfSome}
use Rattle.std.specs.Float.{binary64}
use Rattle.std.specs.Float.Ieee.{of_bits}
use Rattle.number.specs.Reply.{Reply, refused, given}
use Rattle.kuhn_munkres.specs.Assignment.{in_one}
use Rattle.request.specs.Request.{Sizes, Request, shaped}
use Rattle.request.specs.declared.Reading.{Reading}

-- what is asked, but for the costs
pub record Stated : Type 0 where
  pub sizes : Sizes
  pub shaped_table : Bool

-- 01, Line of the program `assign`: "13 for another shape, a number out of range"
abbrev pub asked_reply : Option Request → Reply Stated
asked_reply None = refused 13
asked_reply (Some q) = given (record { sizes = q.sizes; shaped_table = shaped q })

abbrev pub reply_of_reading : Option Reading → Reply Stated
reply_of_reading (Some r) = given (record { sizes = record { rows = r.rows; columns = r.columns; cost = r.cost }; shaped_table = r.shaped })
reply_of_reading None = refused 13

-- l over the front of o; what has no place in o is left out
unfoldable pub over : List Float → List Float → List Float
over [] o = o
over (x ∷ l) [] = []
over (x ∷ l) (y ∷ o) = x ∷ over l o

abbrev pub no_costs : List Float
no_costs = replicate 4096 (of_bits binary64 0)

-- the table's costs stand in front, row after row, zeros after them
abbrev pub costs_of : Option Request → List Float
costs_of None = no_costs
costs_of (Some q) = over (in_one q.table) no_costs

pub record ReadingAnswer (read : Option Request) (r : Option Reading) : Type 0 where
  pub is : reply_of_reading r ≡ asked_reply read
  pub costs_are : IfSome r (λ q. q.costs ≡ costs_of read)
