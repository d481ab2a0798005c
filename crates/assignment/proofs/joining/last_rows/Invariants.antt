use mathlib.Core.Path.{◌≡◌}
use Prim.Native.Nat.{◌≤◌}
use Rattle.assignment.specs.Labelling.{Passed}
use Rattle.assignment.proofs.joining.last_rows.Given as goal

abbrev pub invariant-loop-i : goal.invariant-loop-i
invariant-loop-i l = (l.i ≤ l.rows) × Passed l.i l.initial.forest.parent l.initial.forest.rank l.forest.parent l.last × (l.forest.rank ≡ l.initial.forest.rank)
