-- What a search for a free column and the whole run end with, from the code's arrays and status.
use Rattle.std.specs.Prelude.{◌≡◌, Bool, false, ◌&&◌, List, ℕ, ◌+◌, ◌*◌, eqb, leb, length, replicate, Float, Result, Ok, Err}
use Rattle.number.specs.Reply.{Reply, refused, given, refuse_unless, left_in}
use Rattle.kuhn_munkres.specs.Binary64.{float}
use Rattle.kuhn_munkres.specs.Square.{entry}
use Rattle.kuhn_munkres.specs.Steps.{State, Search, found, stopped, spent, rows}
use Rattle.hungarian.specs.Passes.{Least}
use Rattle.hungarian.specs.Structs.{square_from}
use Rattle.hungarian.specs.declared.RunError.{RunError}
use Rattle.hungarian.specs.declared.RunError.TheVariants.{TooMany, Failed}
use Rattle.hungarian.specs.declared.SearchError.{SearchError}
use Rattle.hungarian.specs.declared.SearchError.TheVariants.{NotFinite, Spent}
use Rattle.hungarian.specs.declared.Shape.{Shape}

-- the definition's state of the code's arrays, with the definition's own minv
abbrev pub st : {N : Type 0} → List N → List N → List N → List ℕ → List ℕ → List Bool → ℕ → Least N → State N
st u v m p way used j0 b = record { u = u; v = v; minv = m; p = p; way = way; used = used; j0 = j0; delta = b.delta; j1 = b.j1 }

-- a search: the free column reached; a step that is not finite; turns spent, which does not happen
pub data Out : Type 0 where
  went : List Float → List Float → List ℕ → List ℕ → ℕ → Out
  halted : Out
  lost : Out

abbrev pub met : Search Float → Out
met (found s) = went s.u s.v s.way s.p s.j0
met stopped = halted
met spent = lost

abbrev pub met_of : Result ℕ SearchError → List Float → List Float → List ℕ → List ℕ → Out
met_of (Ok j) u v w p = went u v w p j
met_of (Err NotFinite) u v w p = halted
met_of (Err Spent) u v w p = lost

abbrev pub none : Least Float
none = record { delta = float.zer; j1 = 0 }

abbrev pub begun : List Float → List Float → List ℕ → List ℕ → State Float
begun u v p way = st u v (replicate 129 float.top) p way (replicate 129 false) 0 none

-- the run: the row of each column, from 1; or as a search ends
pub data End : Type 0 where
  matched : List ℕ → End
  halts : End
  loses : End

abbrev pub end_of : Search Float → End
end_of (found s) = matched s.p
end_of stopped = halts
end_of spent = loses

abbrev pub pick_end : Result (Unit {0}) SearchError → List ℕ → End
pick_end (Ok u) p = matched p
pick_end (Err NotFinite) p = halts
pick_end (Err Spent) p = loses

-- ---- the call
-- the row of each column, or 01's number: "10 .. a step not finite"
unfoldable pub end_reply : Search Float → Reply (List ℕ)
end_reply (found s) = given s.p
end_reply stopped = refused 10
end_reply spent = refused 10

-- 01, Assignment (refusals): "11 over 64 rows or columns; .. 10 table length isn't rows × columns, or a step not finite"
unfoldable pub run_reply : List Float → Shape → Reply (List ℕ)
run_reply costs q =
    refuse_unless (leb q.rows 64 && leb q.cols 64) 11
    (refuse_unless (eqb (length costs) (q.rows * q.cols)) 10
    (end_reply (rows float (entry float (square_from costs q)) (q.rows + q.cols) (q.rows + q.cols))))

abbrev pub number_of : RunError → ℕ
number_of TooMany = 11
number_of Failed = 10

abbrev pub reply_of_run : {A : Type 0} → Result (Unit {0}) RunError → A → Reply A
reply_of_run (Ok u) a = given a
reply_of_run (Err why) a = refused (number_of why)

pub record RunAnswer (costs : List Float) (q : Shape) (r : Result (Unit {0}) RunError) (before after : List ℕ) : Type 0 where
  pub is : reply_of_run r after ≡ run_reply costs q
  pub left : after ≡ left_in (run_reply costs q) before
