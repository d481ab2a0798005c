use mathlib.Core.Path.{◌≡◌}
use Prim.Native.Nat.{◌≤◌}
use lib.ListN.{length}
use Rattle.tracker.proofs.Showing.{Shown}
use Rattle.tracker.proofs.snapshots.Given as goal

abbrev pub invariant-loop-i : goal.invariant-loop-i
invariant-loop-i l = (l.n ≤ 64) × (length l.fn.t.tracks ≡ 64) × (length l.items ≡ 64) × Shown l.fn.t.tracks l.items l.i
