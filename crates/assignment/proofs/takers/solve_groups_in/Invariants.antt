use mathlib.Core.Path.{◌≡◌}
use Prim.Native.Nat.{◌≤◌}
use lib.ListN.{length}
use Rattle.assignment.proofs.Solving.{Going}
use Rattle.assignment.proofs.takers.solve_groups_in.Given as goal

abbrev pub invariant-loop-g : goal.invariant-loop-g
invariant-loop-g l = (l.g ≤ l.rows) × (length l.own ≡ length l.initial.own) × Going l.costs l.rows l.columns l.prices.far l.prices.row l.prices.column l.g l.initial.takers l.takers
