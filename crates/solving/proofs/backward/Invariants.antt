use Rattle.std.proofs.Common.{◌≡◌, ◌-◌, ◌≤◌, length, drop}
use Rattle.solving.specs.Solving.{backward_from}
use Rattle.solving.proofs.backward.Given as goal

abbrev pub invariant-loop-i : goal.invariant-loop-i
invariant-loop-i g l = (l.i ≤ g.row.N) × (length l.x ≡ g.row.N) × (drop l.i l.x ≡ backward_from (g.row.N - l.i) g.row.N l.columns l.y)
