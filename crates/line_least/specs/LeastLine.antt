-- What the answer to a line of the program `assign` means: of all pairings of the line's table, one of least total. 01, Line of the program `assign`: "rows and
-- columns (0 or more), row cost, table"; "Column cost is 0."
use Rattle.std.specs.Prelude.{ℕ, suc, List, ℤ, pos, negsuc, Float, None, Option, Some}
use Rattle.number.specs.Reply.{Reply, refused, given}
use Rattle.whole.specs.Integer.{Integer, 0_z, natural, neg_z, ◌≤Z◌}
use Rattle.whole.specs.Whole.{whole_of}
use Rattle.kuhn_munkres.specs.Assignment.{Pair, Pairs, in_one}
use Rattle.least.specs.Least.{Pairing, total, cost_at, allowed_in}
use Rattle.request.specs.Request.{Request, request_of}
use Rattle.line.specs.Line.{reply_to}

-- a decimal as an integer
abbrev pub integer_of : ℤ → Integer
integer_of (pos n) = natural n
integer_of (negsuc n) = neg_z (natural (suc n))

-- the table's costs, row after row, and the integer that stands at a place
abbrev pub costs_in : Request → List Float
costs_in q = in_one q.table

abbrev pub number_at : Request → ℕ → ℕ → Integer
number_at q i j = whole_of (cost_at (costs_in q) q.sizes.columns i j)

-- a pairing of the line's rows and columns, at places where no `-` stands
abbrev pub PairingOf : Request → List Pair → Type 0
PairingOf q l = Pairing (allowed_in (costs_in q) q.sizes.columns) q.sizes.rows q.sizes.columns l

abbrev pub total_in : Request → List Pair → Integer
total_in q l = total (number_at q) (whole_of q.sizes.cost) 0_z q.sizes.rows q.sizes.columns l

pub record LeastLine (q : Request) (a : Pairs) : Type 0 where
  pub pairing : PairingOf q a.pairs
  pub least : (other : List Pair) → PairingOf q other → total_in q a.pairs ≤Z total_in q other

-- the total of the pairing that a line is answered with, and none where it is refused
unfoldable pub total_for : Option Request → Reply Pairs → Option Integer
total_for None r = None
total_for (Some q) (refused n) = None
total_for (Some q) (given a) = Some (total_in q a.pairs)

unfoldable pub line_total : List ℕ → Option Integer
line_total l = total_for (request_of l) (reply_to l)
