use Prim.Native.Nat.{◌+◌, ◌≤◌}
use Rattle.kuhn_munkres.specs.Binary64.{float}
use Rattle.kuhn_munkres.specs.Square.{entry}
use Rattle.hungarian.specs.Structs.{square_from}
use Rattle.hungarian.proofs.Rows.{Row}
use Rattle.hungarian.proofs.hungarian_square.Given as goal

abbrev pub invariant-loop-k : goal.invariant-loop-k
invariant-loop-k l = (l.k ≤ l.q.rows + l.q.cols) × Row (entry float (square_from l.costs l.q)) (l.q.rows + l.q.cols) l.k l.u l.v l.p l.way
