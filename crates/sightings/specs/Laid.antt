-- What a `Sightings` says of detections.
use Rattle.std.specs.Prelude.{◌≤◌, List, None, replicate}
use Rattle.matrix.specs.Matrix.{nought}
use Rattle.detections.specs.declared.Detection.{Detection}
use Rattle.sightings.specs.declared.Sightings.{Sightings}
use Rattle.sightings.specs.Sights.{sights_in, Kin}

-- the first `count`
abbrev pub sights_of : Sightings → List Detection
sights_of s = sights_in s.positions s.noises s.labels s.count

-- room for 64, and none in it
abbrev pub empty : Sightings
empty = record { positions = replicate 64 (replicate 3 nought); noises = replicate 64 (replicate 9 nought); labels = replicate 64 None; kin = replicate 64 0; count = 0 }

-- there are places for as many, and each has one at or before it whose covariance is its own
pub record Sound (s : Sightings) : Type 0 where
  pub few : s.count ≤ 64
  pub kin : Kin s.noises s.count s.kin
