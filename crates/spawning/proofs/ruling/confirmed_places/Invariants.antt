use Prim.Native.Nat.{◌≤◌}
use lib.ListN.{length}
use Rattle.spawning.proofs.Placing.{Gathered}
use Rattle.spawning.proofs.ruling.confirmed_places.Given as goal

abbrev pub invariant-loop-x : goal.invariant-loop-x
invariant-loop-x l = (length l.x-items ≤ 64) × (l.count ≤ l.x-index) × Gathered l.x-items l.items l.x-index l.count
