use Prim.Native.Nat.{◌≤◌}
use Rattle.assignment.specs.Labelling.{RowJoined}
use Rattle.assignment.proofs.joining.join_row.Given as goal

abbrev pub invariant-loop-j : goal.invariant-loop-j
invariant-loop-j l = (l.j ≤ l.columns) × RowJoined l.costs l.at l.base l.i l.j l.initial.forest.parent l.initial.forest.rank l.forest.parent l.forest.rank
