-- The pairing of a batch's detections with the tracks at its time. 01, Batch: "distances of class-compatible pairs in track order, and in detection order within
-- a track, 7, 9 not finite; 8 a window age overflows; 10 the assignment's smallest step isn't finite". The Rust's process_batch_inner and cascade_assignment.
use Rattle.std.specs.Prelude.{ℕ, Bool, false, not, List, map, ℤ, Float, length, None, Option, Some}
use Rattle.std.specs.Float.{inf}
use Rattle.std.specs.Int.Signed.{le_z}
use Rattle.number.specs.Reply.{Reply, given, and_then}
use Rattle.number.specs.Time.{duration_reply}
use Rattle.settings.specs.declared.Cartesian3DTrackerConfig.{Cartesian3DTrackerConfig}
use Rattle.matrix.specs.Matrix.{nought}
use Rattle.lists.specs.Masks.{left_by, count, up_from}
use Rattle.lists.specs.Each.{each}
use Rattle.kuhn_munkres.specs.Takers.{Takers, free, both_takers}
use Rattle.kuhn_munkres.specs.Assignment.{in_one, named, takers_reply}
use Rattle.detections.specs.declared.Detection.{Detection}
use Rattle.detections.specs.declared.pairs.PairConfig.{PairConfig}
use Rattle.detections.specs.declared.pairs.Target.{Target}
use Rattle.detections.specs.declared.pairs.Ruling.{Ruling}
use Rattle.detections.specs.declared.pairs.Ruling.TheVariants.{Allowed, Forbidden}
use Rattle.detections.specs.Pairs.{target_of, verdict_of}
use Rattle.types.specs.declared.track.Track3D.{Track3D}

-- ---- the rule for a pair, and the cost table

-- what of the settings a pair depends on
abbrev pub pair_config : Cartesian3DTrackerConfig → PairConfig
pair_config c = record { gate_squared_mahalanobis = c.gate_squared_mahalanobis; class_prior_penalty = c.class_prior_penalty }

-- what of a track a pair depends on
abbrev pub target_for : Track3D → Target
target_for t = target_of t.filter t.class_label t.class_prior

-- 01, Detection: "A pair may be made if ..."; `verdictOf` of detections is that rule
abbrev pub verdict : PairConfig → Track3D → Detection → Reply Ruling
verdict c t d = verdict_of c (target_for t) d

-- 01, Assignment: "a cost not finite forbids the pair": +infinity, as in the Rust
abbrev pub cost_of : Ruling → Float
cost_of (Allowed cost) = cost
cost_of (Forbidden rule) = inf false

module _ (c : PairConfig) where
  unfoldable pub cost_reply : Track3D → Detection → Reply Float
  cost_reply t d = and_then (verdict c t d) (λ r. given (cost_of r))

  -- a row for each track, with a cost for each detection
  unfoldable pub cost_table : List Track3D → List Detection → Reply (List (List Float))
  cost_table ts ds = each (λ t. each (cost_reply t) ds) ts

-- ---- who takes which column: the row that takes each, or none

module _ (gate : Float) where
  -- one call of `linear_assignment`. 01, Left out: "the unmatched cost is the gate"; the column cost is 0, as in the Rust.
  unfoldable pub assigned : List (List Float) → ℕ → Reply Takers
  assigned rows n = takers_reply (in_one rows) (length rows) n gate nought

  -- 01, Detection: "The cascade pairs tracks with age at most the window first": the recent rows with all columns, then the other rows with the columns that are still
  -- free. Each stage names its rows and columns from 0 on; `named` gives a row its name in the whole table, and `bothTakers` a column its place. The Rust's cascade_assignment.
  unfoldable pub cascaded : List Bool → List (List Float) → ℕ → Reply Takers
  cascaded recent rows n =
      let names = up_from 0 rows in
      let others = map not recent in
      and_then (assigned (left_by recent rows) n)
      (λ first. let free_columns = map free first in
      and_then (assigned (map (left_by free_columns) (left_by others rows)) (count free_columns))
      (λ second. given (both_takers (map (named (left_by recent names)) first) (map (named (left_by others names)) second))))

-- 01, Batch: "8 a window age overflows". An age equal to the window is recent; a track that was never seen isn't (the Rust's `is_some_and`).
abbrev pub recent_since : ℤ → ℤ → Option ℤ → Reply Bool
recent_since window now None = given false
recent_since window now (Some last) = and_then (duration_reply now last) (λ age. given (le_z age window))

unfoldable pub recent : ℤ → ℤ → Track3D → Reply Bool
recent window now t = recent_since window now t.lifecycle.last_observation

-- one assignment, or the cascade where a window is set
unfoldable pub paired_in : Float → Option ℤ → ℤ → List Track3D → List (List Float) → ℕ → Reply Takers
paired_in gate None now ts rows n = assigned gate rows n
paired_in gate (Some window) now ts rows n = and_then (each (recent window now) ts) (λ flags. cascaded gate flags rows n)

unfoldable pub paired : Cartesian3DTrackerConfig → ℤ → List Track3D → List (List Float) → ℕ → Reply Takers
paired c now ts rows n = paired_in c.gate_squared_mahalanobis (c.recent_track_window_ns) now ts rows n
