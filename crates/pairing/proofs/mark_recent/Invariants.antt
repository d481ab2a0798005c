use Prim.Native.Nat.{◌≤◌}
use lib.ListN.{length}
use Rattle.pairing.specs.Rows.{recent_row}
use Rattle.pairing.proofs.Laying.{Laying}
use Rattle.pairing.proofs.mark_recent.Given as goal

abbrev pub invariant-loop-i : goal.invariant-loop-i
invariant-loop-i l = (l.i ≤ length l.rows) × Laying (recent_row l.window l.time) l.rows 0 l.i l.initial.flags l.flags
