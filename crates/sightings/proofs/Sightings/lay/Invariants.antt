use Prim.Native.Nat.{◌≤◌}
use lib.ListN.{length}
use Rattle.sightings.proofs.Sights.{Sighted}
use Rattle.sightings.proofs.Sightings.lay.Given as goal

abbrev pub invariant-loop-j : goal.invariant-loop-j
invariant-loop-j l = (l.j ≤ length l.observations) × Sighted l.observations l.j l.self.positions l.self.noises l.self.labels
