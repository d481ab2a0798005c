use mathlib.Core.Path.{◌≡◌}
use Prim.Native.Nat.{◌≤◌}
use Rattle.sightings.specs.Sights.{Kin}
use Rattle.sightings.specs.Laid.{sights_of}
use Rattle.sightings.proofs.Sightings.find_kin.Given as goal

abbrev pub invariant-loop-j : goal.invariant-loop-j
invariant-loop-j l =
    (l.j ≤ l.j-end) × (l.j-end ≡ l.initial.self.count) × (l.self.count ≡ l.initial.self.count) × (l.first ≤ l.j) × Kin l.self.noises l.j l.self.kin × (sights_of l.self ≡ sights_of l.initial.self)
