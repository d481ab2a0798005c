-- A detection that has passed its checks is corrected by what the calls' definition gives with the checks. Assumes nothing.
use Rattle.std.specs.Prelude.{None, Option, Some}
use mathlib.Core.Path.{◌≡◌, refl, sym, ap}
use mathlib.Core.Bool.{true, ◌&&◌}
use mathlib.Core.List.{List, [], ◌∷◌}
use Prim.Native.Nat.{ℕ, suc}
use lib.IntN.{ℤ}
use Rattle.number.specs.Reply.{Reply, given, and_then}
use Rattle.number.proofs.Zeros.{both}
use Rattle.settings.specs.declared.Cartesian3DTrackerConfig.{Cartesian3DTrackerConfig}
use Rattle.matrix.specs.Flat.{rows_of}
use Rattle.finite.specs.Finite.{finite_vector}
use Rattle.math.specs.Linalg.{validated}
use Rattle.filter.specs.declared.KalmanFilter.{KalmanFilter}
use Rattle.filter.proofs.Split.{checked_position}
use Rattle.detections.specs.declared.Detection.{Detection}
use Rattle.detections.specs.Detection.{finite_velocity, detection_reply}
use Rattle.types.specs.declared.track.Track3D.{Track3D}
use Rattle.types.specs.Track.{with_filter}
use Rattle.calls.specs.Update.{Moving, moving, velocity_updated, filter_updated, updated_with, updated_by, updates}
use Rattle.lists.specs.Each.{each_at}
use Rattle.number.proofs.Replies.{past_test}
use Rattle.updating.specs.Updates.{update_of, corrected, observed_as, updated_as, updated_or_not}

module _ (d : Detection) (ok : detection_reply d ≡ given tt) where
  passed : ((finite_vector 3 d.position && finite_velocity d.velocity) ≡ true) × (validated 3 (rows_of 3 3 d.covariance) ≡ given tt)
  unfolding detection_reply
  passed = past_test (finite_vector 3 d.position && finite_velocity d.velocity) 5 (validated 3 (rows_of 3 3 d.covariance)) tt ok

  pub corrected_checked : (v : Option Moving) (f : KalmanFilter) → corrected v d f ≡ filter_updated v d f
  unfolding corrected filter_updated
  corrected_checked v f =
      ap (λ (r : Reply KalmanFilter). and_then r (velocity_updated v))
      (checked_position f d.position d.covariance (both (finite_vector 3 d.position) (finite_velocity d.velocity) passed.0).0 (sym passed.1))

  -- what `update_track` answers, under the settings c, for a batch of this sensor and time
  pub updated_checked : (c : Cartesian3DTrackerConfig) (sensor : ℕ) (now : ℤ) (t : Track3D) → updated_as (update_of c sensor now) t d ≡ updated_with c sensor now t d
  unfolding updated_as updated_with
  updated_checked c sensor now t =
      ap (λ (r : Reply KalmanFilter). and_then r (λ f. given (observed_as (update_of c sensor now) d.class_label (with_filter f t))))
      (corrected_checked (moving c d) t.filter)

-- ---- the same for all tracks of a batch, whose detections are checked before any track is looked at

module _ (c : Cartesian3DTrackerConfig) (sensor : ℕ) (now : ℤ) (took : ℕ → Option Detection) (ok : (i : ℕ) (d : Detection) → took i ≡ Some d → detection_reply d ≡ given tt) where
  one : (t : Track3D) (o : Option Detection) → ((d : Detection) → o ≡ Some d → detection_reply d ≡ given tt) → updated_or_not (update_of c sensor now) t o ≡ updated_by c sensor now t o
  unfolding updated_by
  one t None h = refl
  one t (Some d) h = updated_checked d (h d refl) c sensor now t

  pub each_checked : (i : ℕ) (ts : List Track3D) → each_at (λ k t. updated_or_not (update_of c sensor now) t (took k)) i ts ≡ each_at (λ k t. updated_by c sensor now t (took k)) i ts
  unfolding each_at
  each_checked i [] = refl
  each_checked i (t ∷ ts) = rw (one t (took i) (ok i), each_checked (suc i) ts)

  -- a loop of `update_track` over the tracks is `updates` of calls
  pub updates_checked : (ts : List Track3D) → each_at (λ k t. updated_or_not (update_of c sensor now) t (took k)) 0 ts ≡ updates c sensor now took ts
  unfolding updates
  updates_checked ts = each_checked 0 ts
