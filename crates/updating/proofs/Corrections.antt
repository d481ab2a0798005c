-- What the tests on the way of a correction say of its definition, and what the setters of an observation come to. Assumes nothing.
use Rattle.std.specs.Prelude.{None, Some, ℕ, Option}
use Rattle.detections.specs.declared.PlanarVelocity.{PlanarVelocity}
use mathlib.Core.Path.{◌≡◌, refl, ap, ◌∙◌}
use mathlib.Core.Bool.{true}
use Rattle.std.specs.Option.{option_or}
use mathlib.Core.List.{[], ◌∷◌}
use lib.Ieee.{Float}
use Rattle.number.specs.Reply.{Reply, given, and_then}
use Rattle.lifecycle.specs.Lifecycle.{registered_of}
use Rattle.lifecycle.specs.declared.sensors.Sensors.{Sensors}
use Rattle.filter.specs.declared.KalmanFilter.{KalmanFilter}
use Rattle.filter.specs.declared.Expected.{Expected}
use Rattle.filter.specs.Filter.{expected_of, updated_from, updated_by_velocity}
use Rattle.detections.specs.declared.Detection.{Detection}
use Rattle.types.specs.declared.track.Track3D.{Track3D}
use Rattle.types.specs.Track.{with_filter, with_lifecycle, with_timestamp, with_sensors, with_label, with_mark}
use Rattle.calls.specs.Update.{Moving, moving_of, velocity_updated, labelled_by, contributed_by, observation_applied}
use Rattle.updating.specs.declared.Update.{Update}
use Rattle.updating.specs.Updates.{corrected, observed_as, updated_as}

-- ---- the velocity

module _ (f : KalmanFilter) (deviation : Option Float) (v : Option PlanarVelocity) where
  pub no_setting : deviation ≡ None → given f ≡ velocity_updated (moving_of deviation v) f
  unfolding velocity_updated
  no_setting e = rw e

  pub no_velocity : (std : Float) → deviation ≡ Some std → v ≡ None → given f ≡ velocity_updated (moving_of deviation v) f
  unfolding velocity_updated
  no_velocity std e h = rw (e, h)

  pub velocity : (std : Float) (w : PlanarVelocity) → deviation ≡ Some std → v ≡ Some w → updated_by_velocity (w.x ∷ w.y ∷ []) std f ≡ velocity_updated (moving_of deviation v) f
  unfolding velocity_updated
  velocity std w e h = rw (e, h)

-- ---- the position, and then the velocity: by what the first of the two answers

pub by_position : (v : Option Moving) (d : Detection) (f : KalmanFilter) (m : Expected) (r : Reply KalmanFilter) → m ≡ expected_of f → r ≡ updated_from m d.position d.covariance f → and_then r (velocity_updated v) ≡ corrected v d f
unfolding corrected
by_position v d f m r e is = ap (λ (p : Reply KalmanFilter). and_then p (velocity_updated v)) (is ∙ ap (λ (n : Expected). updated_from n d.position d.covariance f) e)

-- ---- the track, by what its filter's correction answers

pub by_correction : (u : Update) (t : Track3D) (d : Detection) (r : Reply KalmanFilter) → r ≡ corrected (moving_of u.deviation d.velocity) d t.filter → and_then r (λ f. given (observed_as u d.class_label (with_filter f t))) ≡ updated_as u t d
unfolding updated_as
by_correction u t d r e = ap (λ (p : Reply KalmanFilter). and_then p (λ f. given (observed_as u d.class_label (with_filter f t)))) e

-- ---- all but the filter, one part after another

-- the library's `or`
labels : (class seen : Option ℕ) → option_or class seen ≡ labelled_by class seen
labels None seen = refl
labels (Some x) seen = refl

pub observed_by : (u : Update) (seen : Option ℕ) (x registered timed contributed labelled marked : Track3D) (sensors : Sensors) (label : Option ℕ)
    → registered ≡ with_lifecycle (registered_of x.lifecycle u.time u.lifecycle) x → timed ≡ with_timestamp u.time registered
    → sensors ≡ contributed_by u.limit u.sensor x.contributing_sensors → contributed ≡ with_sensors (Some u.sensor) sensors timed
    → label ≡ option_or x.class_label seen → labelled ≡ with_label label contributed → marked ≡ with_mark true labelled → marked ≡ observed_as u seen x
unfolding observation_applied
observed_by u seen x registered timed contributed labelled marked sensors label e1 e2 e3 e4 e5 e6 e7 = rw (e7, e6, e5, labels x.class_label seen, e4, e3, e2, e1)
