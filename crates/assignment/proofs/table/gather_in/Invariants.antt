use Prim.Native.Nat.{◌≤◌}
use lib.ListN.{length}
use Rattle.assignment.proofs.Picking.{Gathering}
use Rattle.assignment.proofs.table.gather_in.Given as goal

abbrev pub invariant-loop-i : goal.invariant-loop-i
invariant-loop-i l = (l.i ≤ l.rows) × Gathering (length l.initial.own) l.costs l.rows l.columns l.row_names l.column_names l.g l.i l.initial.own l.own l.initial.members l.members l.k l.r
