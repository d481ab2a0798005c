use mathlib.Core.List.{[]}
use Prim.Native.Nat.{◌≤◌}
use lib.ListN.{length, take}
use Rattle.association.specs.Told.{mate_of, unmatched_of, Listed}
use Rattle.association.proofs.unmatched_of.Given as goal

abbrev pub invariant-loop-i : goal.invariant-loop-i
invariant-loop-i l = (l.i ≤ length l.ids) × Listed (unmatched_of (mate_of l.mates []) 0 (take l.i l.ids)) l.left l.count
