-- What a batch makes of the tracks that are there: prediction, marks cleared, pairing, updates (stages 2 to 6 of a batch, see Process). 01, Batch: "updates in track order, in each the position's 7, 9, then
-- the velocity's 5, 7, 9". The Rust's process_batch_inner and apply_observation.
use Rattle.detections.specs.declared.PlanarVelocity.{PlanarVelocity}
use Rattle.std.specs.Prelude.{ℕ, suc, true, false, List, [], ◌∷◌, map, ℤ, Float, length, None, Option, Some, slice_get}
use Rattle.std.specs.Float.{inf}
use Rattle.number.specs.Reply.{Reply, refused, given, and_then}
use Rattle.lifecycle.specs.Lifecycle.{registered_of}
use Rattle.lifecycle.specs.Sensors.{sensors_of, over, recorded_of}
use Rattle.lifecycle.specs.declared.LifecycleConfig.{LifecycleConfig}
use Rattle.lifecycle.specs.declared.sensors.Sensors.{Sensors}
use Rattle.settings.specs.declared.Cartesian3DTrackerConfig.{Cartesian3DTrackerConfig}
use Rattle.lists.specs.Masks.{zipped}
use Rattle.lists.specs.Each.{each_at}
use Rattle.kuhn_munkres.specs.Takers.{free, taken_by}
use Rattle.filter.specs.declared.KalmanFilter.{KalmanFilter}
use Rattle.filter.specs.Filter.{updated_by_position, updated_by_velocity}
use Rattle.detections.specs.declared.Detection.{Detection}
use Rattle.detections.specs.declared.pairs.PairConfig.{PairConfig}
use Rattle.types.specs.declared.track.Track3D.{Track3D}
use Rattle.types.specs.Track.{with_filter, with_lifecycle, with_label, with_timestamp, with_sensors, with_mark}
use Rattle.calls.specs.Predict.{predicted_tracks}
use Rattle.calls.specs.Pairing.{pair_config, cost_reply, cost_table, paired}

-- ---- one track and the detection that it is paired with

-- a measured velocity that counts: the settings give a deviation, and the detection carries one
pub record Moving : Type 0 where
  pub x : Float
  pub y : Float
  pub deviation : Float

abbrev pub moving_of : Option Float → Option PlanarVelocity → Option Moving
moving_of None v = None
moving_of (Some std) None = None
moving_of (Some std) (Some v) = Some (record { x = v.x; y = v.y; deviation = std })

abbrev pub moving : Cartesian3DTrackerConfig → Detection → Option Moving
moving c d = moving_of c.velocity_measurement_std d.velocity

unfoldable pub velocity_updated : Option Moving → KalmanFilter → Reply KalmanFilter
velocity_updated None f = given f
velocity_updated (Some v) f = updated_by_velocity (v.x ∷ v.y ∷ []) v.deviation f

-- "the position's 7, 9, then the velocity's 5, 7, 9"
unfoldable pub filter_updated : Option Moving → Detection → KalmanFilter → Reply KalmanFilter
filter_updated v d f = and_then (updated_by_position d.position d.covariance f) (velocity_updated v)

-- a class is set once, by the first detection that has one
abbrev pub labelled_by : Option ℕ → Option ℕ → Option ℕ
labelled_by None seen = seen
labelled_by (Some x) seen = Some x

-- the Rust's record_sensor, with the limit on how many a track remembers
abbrev pub contributed_by : ℕ → ℕ → Sensors → Sensors
contributed_by limit sensor s = over s (recorded_of (sensors_of s) sensor limit)

-- the Rust's apply_observation, and the mark of this batch
unfoldable pub observation_applied : LifecycleConfig → ℕ → ℕ → ℤ → Option ℕ → Track3D → Track3D
observation_applied life limit sensor now seen t =
    with_mark true
    (with_label (labelled_by t.class_label seen)
    (with_sensors (Some sensor) (contributed_by limit sensor t.contributing_sensors)
    (with_timestamp now (with_lifecycle (registered_of t.lifecycle now life) t))))

module _ (c : Cartesian3DTrackerConfig) (sensor : ℕ) (now : ℤ) where
  unfoldable pub updated_with : Track3D → Detection → Reply Track3D
  updated_with t d =
      and_then (filter_updated (moving c d) d t.filter)
      (λ f. given (observation_applied c.lifecycle c.max_contributing_sensors sensor now d.class_label (with_filter f t)))

  unfoldable pub updated_by : Track3D → Option Detection → Reply Track3D
  updated_by t None = given t
  updated_by t (Some d) = updated_with t d

  -- "updates in track order"; `took` says which detection a row took
  unfoldable pub updates : (ℕ → Option Detection) → List Track3D → Reply (List Track3D)
  updates took ts = each_at (λ i t. updated_by t (took i)) 0 ts

-- ---- what the births and the report are told of the pairing

-- "The cost is that pair's cost with prior penalty."
pub record Match : Type 0 where
  pub track : ℕ
  pub cost : Float

-- a column of the cost table: a detection, and the pair that it stands in, where a track took it
pub record Column : Type 0 where
  pub pair : Option Match
  pub detection : Detection

-- The table's entry (the law `cost-entry` in proofs/Columns says so; the Rust's `cost: Some(costs[i][j])`). A batch with a pair that is refused is refused, so that none comes here.
abbrev pub entry_of : Reply Float → Float
entry_of (given cost) = cost
entry_of (refused n) = inf false

module _ (c : PairConfig) where
  unfoldable pub match_of : Option Track3D → Detection → Option Match
  match_of None d = None
  match_of (Some t) d = Some (record { track = t.id; cost = entry_of (cost_reply c t d) })

  unfoldable pub column_for : List Track3D → Option ℕ → Detection → Column
  column_for ts None d = record { pair = None; detection = d }
  column_for ts (Some i) d = record { pair = match_of (slice_get ts i) d; detection = d }

-- the numbers of the tracks that took no detection, in track order
unfoldable pub unmatched_from : (ℕ → Option Detection) → ℕ → List Track3D → List ℕ
unmatched_from took i [] = []
unmatched_from took i (t ∷ ts) = let rest = unmatched_from took (suc i) ts in elim (free (took i)) [ true ↦ t.id ∷ rest | false ↦ rest ]

-- ---- all tracks

pub record Matched : Type 0 where
  pub tracks : List Track3D
  pub columns : List Column
  pub unmatched : List ℕ

module _ (c : Cartesian3DTrackerConfig) (sensor : ℕ) (now : ℤ) where
  -- stages 4, 5 and 6: the cost table, the pairing, the updates
  unfoldable pub matched_with : List Detection → List Track3D → Reply Matched
  matched_with ds ts =
      and_then (cost_table (pair_config c) ts ds)
      (λ rows. and_then (paired c now ts rows (length ds))
      (λ takers. and_then (updates c sensor now (taken_by takers ds) ts)
      (λ us. given (record { tracks = us; columns = zipped (column_for (pair_config c) ts) takers ds; unmatched = unmatched_from (taken_by takers ds) 0 ts }))))

  -- stages 2 and 3: prediction, then marks are cleared
  unfoldable pub matched : List Track3D → List Detection → Reply Matched
  matched ts ds = and_then (predicted_tracks c now ts) (λ ms. matched_with ds (map (with_mark false) ms))
