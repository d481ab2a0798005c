use Prim.Native.Nat.{◌≤◌}
use Rattle.assignment.proofs.Items.{Stage}
use Rattle.assignment.proofs.joining.join_all.Given as goal

abbrev pub invariant-loop-i : goal.invariant-loop-i
invariant-loop-i l = (l.i ≤ l.rows) × Stage l.costs l.rows l.columns l.i l.forest.parent l.forest.rank
