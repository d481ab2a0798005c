use Prim.Native.Nat.{◌+◌, ◌≤◌}
use lib.ListN.{get_or, length}
use lib.Ieee.{nan}
use Rattle.groups.specs.Picks.{picked}
use Rattle.assignment.specs.Picks.{bears, Laid}
use Rattle.assignment.proofs.table.gather_row.Given as goal

abbrev pub invariant-loop-j : goal.invariant-loop-j
invariant-loop-j l = (l.j ≤ l.columns) × (l.k ≤ l.from + l.j) × Laid (length l.initial.own) l.initial.own l.own l.from l.k (picked (bears l.names l.g) (λ x. get_or l.costs (l.at + x) nan) l.j)
