-- What a new track is made of.
use Rattle.std.specs.Prelude.{ℕ, [], ◌∷◌, Float, get_or, None, Option, Some}
use Rattle.std.specs.Float.{nan, binary64}
use Rattle.std.specs.Float.Ieee.{mul}
use Rattle.number.specs.Reply.{Reply, given, and_then}
use Rattle.matrix.specs.Matrix.{Vector}
use Rattle.filter.specs.declared.KalmanFilter.{KalmanFilter}
use Rattle.detections.specs.declared.Detection.{Detection}
use Rattle.types.specs.declared.track.Track3D.{Track3D}
use Rattle.matrix.specs.Matrix.{nought}
use Rattle.calls.specs.Update.{Moving, moving_of}
use Rattle.calls.specs.Births.{born_filter, born_track}
use Rattle.spawning.specs.declared.spawn.Start.{Start}
use Rattle.spawning.specs.declared.spawn.Begin.{Begin}

abbrev pub start_of : Float → Option Moving → Start
start_of initial None = record { x = nought; y = nought; variance = initial }
start_of initial (Some v) = record { x = v.x; y = v.y; variance = mul binary64 v.deviation v.deviation }

abbrev pub state_from : Vector → Start → Vector
state_from p v = get_or p 0 nan ∷ get_or p 1 nan ∷ get_or p 2 nan ∷ v.x ∷ v.y ∷ nought ∷ []

abbrev pub moving_in : Detection → Begin → Option Moving
moving_in d b = moving_of (b.deviation) d.velocity

abbrev pub track_from : Detection → ℕ → ℕ → Begin → KalmanFilter → Track3D
track_from d id sightings b f = born_track b.lifecycle b.limit b.sensor b.time id sightings d.class_label f

-- the track of the number `id`, with those sightings, that the detection begins: "then 5, 7"
abbrev pub made_of : Detection → ℕ → ℕ → Begin → Reply Track3D
made_of d id sightings b = and_then (born_filter b.variance (moving_in d b) d) (λ f. given (track_from d id sightings b f))
