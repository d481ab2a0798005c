use lib.ListN.{length}
use Prim.Native.Nat.{◌≤◌}
use Rattle.pairing.proofs.Mating.{Mating}
use Rattle.pairing.proofs.mates_of.Given as goal

abbrev pub invariant-loop-j : goal.invariant-loop-j
invariant-loop-j l = (l.j ≤ length l.takers) × Mating l.takers (length l.takers) l.j l.mates
