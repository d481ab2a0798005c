-- One track and the detection that it is paired with, for a detection that has passed its checks: `updatedWith` of calls without them (`updated-checked` of proofs/Checked.antt says so).
use Rattle.std.specs.Prelude.{ℕ, ℤ, None, Option, Some}
use Rattle.number.specs.Reply.{Reply, given, and_then}
use Rattle.settings.specs.declared.Cartesian3DTrackerConfig.{Cartesian3DTrackerConfig}
use Rattle.filter.specs.declared.KalmanFilter.{KalmanFilter}
use Rattle.filter.specs.Filter.{expected_of, updated_from}
use Rattle.detections.specs.declared.Detection.{Detection}
use Rattle.types.specs.declared.track.Track3D.{Track3D}
use Rattle.types.specs.declared.tracker.Cartesian3DTracker.{Cartesian3DTracker}
use Rattle.types.specs.Track.{with_filter}
use Rattle.types.specs.States.{tracks_of, over_tracks}
use Rattle.lists.specs.Each.{each_at}
use Rattle.calls.specs.Update.{Moving, moving_of, velocity_updated, observation_applied}
use Rattle.updating.specs.declared.Update.{Update}

-- what an update needs of the settings and the batch
abbrev pub update_of : Cartesian3DTrackerConfig → ℕ → ℤ → Update
update_of c sensor now = record { time = now; sensor = sensor; limit = c.max_contributing_sensors; deviation = c.velocity_measurement_std; lifecycle = c.lifecycle }

-- "the position's 7, 9, then the velocity's 5, 7, 9"
unfoldable pub corrected : Option Moving → Detection → KalmanFilter → Reply KalmanFilter
corrected v d f = and_then (updated_from (expected_of f) d.position d.covariance f) (velocity_updated v)

abbrev pub observed_as : Update → Option ℕ → Track3D → Track3D
observed_as u seen t = observation_applied u.lifecycle u.limit u.sensor u.time seen t

unfoldable pub updated_as : Update → Track3D → Detection → Reply Track3D
updated_as u t d = and_then (corrected (moving_of (u.deviation) d.velocity) d t.filter) (λ f. given (observed_as u d.class_label (with_filter f t)))

-- ---- all tracks

-- a track that took no detection is as it was
abbrev pub updated_or_not : Update → Track3D → Option Detection → Reply Track3D
updated_or_not u t None = given t
updated_or_not u t (Some d) = updated_as u t d

-- the tracker with its tracks updated in order; what stands behind their count is as it was
unfoldable pub updated_tracks : Cartesian3DTracker → (ℕ → Option Detection) → Update → Reply Cartesian3DTracker
updated_tracks s took u = and_then (each_at (λ i t. updated_or_not u t (took i)) 0 (tracks_of s)) (λ ts. given (over_tracks s ts))
