use mathlib.Core.Path.{◌≡◌}
use Prim.Native.Nat.{◌≤◌}
use Rattle.assignment.specs.Labelling.{ReadOff}
use Rattle.assignment.proofs.joining.read_off.Given as goal

abbrev pub invariant-loop-i : goal.invariant-loop-i
invariant-loop-i l = (l.i ≤ l.count) × ReadOff l.base l.i l.initial.forest.parent l.initial.forest.rank l.last l.forest.parent l.names × (l.forest.rank ≡ l.initial.forest.rank)
