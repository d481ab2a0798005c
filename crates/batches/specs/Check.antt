-- When a tracker refuses a batch before it looks at any track. 01, Batch: "11 over 64 detections; 2 frame differs; 3 time before the last; 4 sequence not above
-- the sensor's last; then per detection 5 not finite (position, velocity, covariance), 6 not symmetric, 7 Cholesky fails; 11 a 33rd sensor."
use Rattle.std.specs.Prelude.{Bool, false, not, List, [], ◌∷◌, ℕ, leb, ℤ, take, None, Option, Some}
use Rattle.std.specs.Int.Signed.{lt_z}
use Rattle.number.specs.Reply.{Reply, given, refuse_unless, and_then}
use Rattle.settings.specs.Frame.{same_frame}
use Rattle.settings.specs.declared.frame.FrameName.{FrameName}
use Rattle.detections.specs.declared.Detection.{Detection}
use Rattle.detections.specs.Detection.{detection_reply}
use Rattle.types.specs.declared.tracker.SensorSequence.{SensorSequence}
use Rattle.types.specs.declared.batch.ObservationBatch3D.{ObservationBatch3D}
use Rattle.tables.specs.Sequences.{last_of, room_for}

-- the first detection that is refused decides
unfoldable pub detections_reply : List Detection → Reply (Unit {0})
detections_reply [] = given tt
detections_reply (d ∷ l) = and_then (detection_reply d) (λ u. detections_reply l)

-- "time before the last"; where no time was seen yet, none is before it
abbrev pub is_before : Option ℤ → ℤ → Bool
is_before None t = false
is_before (Some last) t = lt_z t last

-- "sequence not above the sensor's last"; a sensor that is new has none
abbrev pub is_repeated : Option ℕ → ℕ → Bool
is_repeated None q = false
is_repeated (Some last) q = leb q last

-- against the tracker's frame, its last time and its sensors with their sequence numbers
unfoldable pub batch_reply : FrameName → Option ℤ → List SensorSequence → ObservationBatch3D → Reply (Unit {0})
batch_reply frame last sequences b =
    refuse_unless (leb b.count 64) 11
    (refuse_unless (same_frame frame b.frame_id) 2
    (refuse_unless (not (is_before last b.timestamp)) 3
    (refuse_unless (not (is_repeated (last_of b.sensor_id sequences) b.sequence)) 4
    (and_then (detections_reply (take b.count b.observations)) (λ u. refuse_unless (room_for 32 b.sensor_id sequences) 11 (given tt))))))
