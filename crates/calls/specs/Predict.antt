-- Prediction. 01, Predict: "3; then, for each track that the lifecycle keeps and whose time isn't already the new one, in track order, 8 time difference
-- overflows, 5 noise not finite, 9 result not finite." The Rust's predict_to_inner.
use Rattle.lifecycle.specs.declared.TrackLifecycle.{TrackLifecycle}
use Rattle.std.specs.Prelude.{not, cond, List, ℤ, Float, None, Option, Some}
use Rattle.number.specs.Reply.{Reply, given, and_then, refuse_unless}
use Rattle.number.specs.Time.{seconds_of, duration_reply, same_time}
use Rattle.lists.specs.Sift.{sift}
use Rattle.lifecycle.specs.Lifecycle.{advanced_of}
use Rattle.lifecycle.specs.declared.LifecycleConfig.{LifecycleConfig}
use Rattle.settings.specs.declared.Cartesian3DTrackerConfig.{Cartesian3DTrackerConfig}
use Rattle.filter.specs.Filter.{predicted}
use Rattle.types.specs.declared.track.Track3D.{Track3D}
use Rattle.types.specs.Track.{with_filter, with_lifecycle, with_timestamp}
use Rattle.types.specs.States.{State}
use Rattle.batches.specs.Check.{is_before}
use Rattle.lists.specs.Each.{each}

abbrev pub continued_as : Track3D → Option TrackLifecycle → Option Track3D
continued_as t (Some l) = Some (with_lifecycle l t)
continued_as t None = None

-- "each track that the lifecycle keeps", with its life as the step leaves it
unfoldable pub continued : LifecycleConfig → ℤ → Track3D → Option Track3D
continued life now t = continued_as t (advanced_of t.lifecycle now life)

module _ (q : Float) (now : ℤ) where
  -- over the time dt, with the density q: the Rust's `predict(&cv_f6(dt), &cv_q6(dt, q))`
  unfoldable pub moved_by : Track3D → ℤ → Reply Track3D
  moved_by t dt = and_then (predicted (seconds_of dt) q t.filter) (λ f. given (with_timestamp now (with_filter f t)))

  -- to the time now, where the track isn't there already
  unfoldable pub moved : Track3D → Reply Track3D
  moved t = cond (same_time t.state_timestamp now) (given t) (and_then (duration_reply now t.state_timestamp) (moved_by t))

unfoldable pub predicted_tracks : Cartesian3DTrackerConfig → ℤ → List Track3D → Reply (List Track3D)
predicted_tracks c now ts = each (moved c.accel_spectral_density now) (sift (continued c.lifecycle now) ts)

abbrev pub at_time : ℤ → List Track3D → State → State
at_time now ts s = record { tracks = ts; next = s.next; last = Some now; sequences = s.sequences; candidates = s.candidates }

-- `predict_to`: marks and candidates stay, and the time is set even where no track is left
unfoldable pub predict_reply : Cartesian3DTrackerConfig → State → ℤ → Reply State
predict_reply c s now = refuse_unless (not (is_before s.last now)) 3 (and_then (predicted_tracks c now s.tracks) (λ ts. given (at_time now ts s)))
