use mathlib.Core.Path.{◌≡◌}
use Prim.Native.Nat.{◌+◌, ◌≤◌}
use Rattle.kuhn_munkres.specs.Binary64.{float}
use Rattle.kuhn_munkres.specs.Square.{entry}
use Rattle.hungarian.specs.Structs.{square_from}
use Rattle.hungarian.specs.Ends.{begun}
use Rattle.hungarian.proofs.Path.{In}
use Rattle.hungarian.proofs.find_path.Given as goal

abbrev pub invariant-loop-t : goal.invariant-loop-t
invariant-loop-t l = (l.t ≤ l.t-end) × (l.t-end ≡ l.q.rows + l.q.cols + 1) × In (entry float (square_from l.costs l.q)) (l.q.rows + l.q.cols) (begun l.initial.u l.initial.v l.p l.initial.way) l.t l.u l.v l.minv l.p l.way l.used l.j0
