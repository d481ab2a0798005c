-- Births: what becomes of the detections that no track took. 01, Batch: "8 a candidate age overflows; births in detection order, 11 for a 65th candidate, a 65th track
-- or a next number of 2⁶⁴−1, then 5, 7." The Rust's process_batch_inner (tracker3d.rs 754 to 803), persistent_birth (825 to 856) and spawn_track (880 to 934).
use Rattle.std.specs.Prelude.{ℕ, suc, ◌^◌, ◌-◌, Bool, true, false, cond, not, ◌&&◌, List, [], ◌∷◌, ◌++◌, leb, ltb, ℤ, Float, length, set, None, Option, Some}
use Rattle.std.specs.Float.{binary64}
use Rattle.std.specs.Float.Ieee.{lt, mul}
use Rattle.std.specs.Int.Signed.{le_z}
use Rattle.number.specs.Reply.{Reply, given, and_then, refuse_unless}
use Rattle.number.specs.Time.{duration_reply, same_time}
use Rattle.lists.specs.First.{any}
use Rattle.lists.specs.Table.{swap_remove}
use Rattle.lifecycle.specs.Lifecycle.{new_of, more, registered_of, credited_of}
use Rattle.lifecycle.specs.declared.TrackLifecycleState.{TrackLifecycleState}
use Rattle.lifecycle.specs.declared.TrackLifecycleState.TheVariants.{Tentative, Confirmed, Lost, Deleted}
use Rattle.lifecycle.specs.declared.TrackLifecycle.{TrackLifecycle}
use Rattle.lifecycle.specs.declared.LifecycleConfig.{LifecycleConfig}
use Rattle.settings.specs.Optional.{set_and}
use Rattle.settings.specs.declared.Cartesian3DTrackerConfig.{Cartesian3DTrackerConfig}
use Rattle.matrix.specs.Matrix.{Vector, item, nought}
use Rattle.lists.specs.Masks.{left_by}
use Rattle.lists.specs.Each.{each}
use Rattle.filter.specs.declared.KalmanFilter.{KalmanFilter}
use Rattle.filter.specs.Filter.{created}
use Rattle.detections.specs.declared.Detection.{Detection}
use Rattle.detections.specs.Births.{score_below, distance_of, nearer}
use Rattle.types.specs.declared.track.Track3D.{Track3D}
use Rattle.types.specs.declared.tracker.BirthCandidate.{BirthCandidate}
use Rattle.types.specs.Track.{snapshot_of}
use Rattle.types.specs.States.{State, state_with}
use Rattle.types.specs.Fresh.{blank_track}
use Rattle.calls.specs.Update.{Moving, moving, contributed_by, Match, Column}

-- ---- what became of a detection

-- It updated a track, or it began one, of that number, or neither. 01 (a term of its own): "A detection begins a track where the birth step puts a new one in the table for
-- it; leaving a candidate begins none."
pub data Fate : Type 0 where
  updated : Match → Fate
  spawned : ℕ → Fate
  unmatched : Fate

-- one detection: the state that it leaves, and its fate
pub record Born : Type 0 where
  pub state : State
  pub fate : Fate

-- several, one after another: the state that they leave, and each one's fate
pub record Births : Type 0 where
  pub state : State
  pub fates : List Fate

-- ---- candidates

-- 01, Batch: "8 a candidate age overflows"; one whose age is at most the timeout stays (the Rust's `retain`)
unfoldable pub stays : ℤ → ℤ → BirthCandidate → Reply Bool
stays timeout now k = and_then (duration_reply now k.last_seen) (λ age. given (le_z age timeout))

unfoldable pub remaining : ℤ → ℤ → List BirthCandidate → Reply (List BirthCandidate)
remaining timeout now l = and_then (each (stays timeout now) l) (λ keep. given (left_by keep l))

pub record Nearest : Type 0 where
  pub place : ℕ
  pub candidate : BirthCandidate
  pub distance : Float

-- 01, Detection: "the nearest wins, the earlier on a tie"
unfoldable pub better : Nearest → Option Nearest → Nearest
better n None = n
better n (Some best) = cond (lt n.distance best.distance) n best

-- what a sighting leaves: the candidates, and how often this one was seen, once that is often enough
pub record Sighting : Type 0 where
  pub candidates : List BirthCandidate
  pub enough : Option ℕ

-- the candidate at i is k now: seen often enough it leaves, and the last one takes its place (the Rust's swap_remove)
unfoldable pub continued_at : ℕ → List BirthCandidate → ℕ → BirthCandidate → Sighting
continued_at required l i k =
    cond (leb required k.sightings)
    (record { candidates = swap_remove i l; enough = Some k.sightings })
    (record { candidates = set l i k; enough = None })

module _ (radius : Float) (now : ℤ) (d : Detection) where
  -- 01, Detection: "a candidate must be strictly nearer than the radius and not seen at this batch's time"
  unfoldable pub within : BirthCandidate → Bool
  within k = not (same_time k.last_seen now) && nearer k.position d.position radius

  unfoldable pub considered : ℕ → BirthCandidate → Option Nearest → Option Nearest
  considered i k best = cond (within k) (Some (better (record { place = i; candidate = k; distance = distance_of k.position d.position }) best)) best

  -- of the candidates from place i on, and the best before them
  unfoldable pub nearest_from : ℕ → Option Nearest → List BirthCandidate → Option Nearest
  nearest_from i best [] = best
  nearest_from i best (k ∷ l) = nearest_from (suc i) (considered i k best) l

  -- it takes the detection's place and time; a count at its largest stays there, as a track's does
  abbrev pub seen_again : BirthCandidate → BirthCandidate
  seen_again k = record { position = d.position; last_seen = now; sightings = more k.sightings }

  abbrev pub first_sighting : BirthCandidate
  first_sighting = record { position = d.position; last_seen = now; sightings = 1 }

  -- "11 for a 65th candidate"
  unfoldable pub sighted_by : ℕ → List BirthCandidate → Option Nearest → Reply Sighting
  sighted_by required l None = refuse_unless (ltb (length l) 64) 11 (given (record { candidates = l ++ (first_sighting ∷ []); enough = None }))
  sighted_by required l (Some n) = given (continued_at required l n.place (seen_again n.candidate))

  -- without persistence there are no candidates
  unfoldable pub sighted_for : Option ℕ → List BirthCandidate → Reply Sighting
  sighted_for None l = given (record { candidates = l; enough = None })
  sighted_for (Some required) l = sighted_by required l (nearest_from 0 None l)

unfoldable pub sighted : Cartesian3DTrackerConfig → ℤ → Detection → List BirthCandidate → Reply Sighting
sighted c now d l = sighted_for c.birth_candidate_radius_m now d c.birth_persistence l

-- ---- a new track

-- at the detection's place, and with its velocity where one counts
abbrev pub born_state : Vector → Option Moving → Vector
born_state p None = item p 0 ∷ item p 1 ∷ item p 2 ∷ nought ∷ nought ∷ nought ∷ []
born_state p (Some v) = item p 0 ∷ item p 1 ∷ item p 2 ∷ v.x ∷ v.y ∷ nought ∷ []

-- the variance of its velocity along x and y
abbrev pub born_variance : Float → Option Moving → Float
born_variance initial None = initial
born_variance initial (Some v) = mul binary64 v.deviation v.deviation

-- the detection's covariance r as it is, and the variances w along x and y and z along z
abbrev pub born_covariance : Vector → Float → Float → Vector
born_covariance r w z =
    item r 0 ∷ item r 1 ∷ item r 2 ∷ nought ∷ nought ∷ nought
    ∷ item r 3 ∷ item r 4 ∷ item r 5 ∷ nought ∷ nought ∷ nought
    ∷ item r 6 ∷ item r 7 ∷ item r 8 ∷ nought ∷ nought ∷ nought
    ∷ nought ∷ nought ∷ nought ∷ w ∷ nought ∷ nought
    ∷ nought ∷ nought ∷ nought ∷ nought ∷ w ∷ nought
    ∷ nought ∷ nought ∷ nought ∷ nought ∷ nought ∷ z
    ∷ []

-- "then 5, 7"
unfoldable pub born_filter : Float → Option Moving → Detection → Reply KalmanFilter
born_filter initial v d = created (born_state d.position v) (born_covariance d.covariance (born_variance initial v) initial)

-- observed once, at this time; the sightings of its candidate count where there were more
unfoldable pub born_life : LifecycleConfig → ℤ → ℕ → TrackLifecycle
born_life life now sightings =
    let l = registered_of (new_of now) now life in
    cond (ltb 1 sightings) (credited_of l sightings life) l

-- the new track is the last of the table, and its number was the next one
abbrev pub with_track : Track3D → State → State
with_track t s = record { tracks = s.tracks ++ (t ∷ []); next = suc s.next; last = s.last; sequences = s.sequences; candidates = s.candidates }

abbrev pub with_candidates : List BirthCandidate → State → State
with_candidates l s = state_with s.tracks s.sequences l s

-- the Rust's spawn_track: what a detection of this class begins, with the number n
unfoldable pub born_track : LifecycleConfig → ℕ → ℕ → ℤ → ℕ → ℕ → Option ℕ → KalmanFilter → Track3D
born_track life limit sensor now n sightings class f =
    record {
      id = n;
      filter = f;
      lifecycle = born_life life now sightings;
      class_label = class;
      class_prior = None;
      state_timestamp = now;
      last_update_sensor = Some sensor;
      contributing_sensors = contributed_by limit sensor blank_track.contributing_sensors;
      updated_this_batch = true;
    }

module _ (c : Cartesian3DTrackerConfig) (sensor : ℕ) (now : ℤ) where
  -- the same with what the settings give, and the state's next number
  abbrev pub born_under : State → ℕ → Detection → KalmanFilter → Track3D
  born_under s sightings d f = born_track c.lifecycle c.max_contributing_sensors sensor now s.next sightings d.class_label f

  -- "11 for .. a 65th track or a next number of 2⁶⁴−1, then 5, 7"
  unfoldable pub spawned_by : ℕ → Detection → State → Reply Born
  spawned_by sightings d s =
      refuse_unless (ltb (length s.tracks) 64 && ltb s.next (2 ^ 64 - 1)) 11
      (and_then (born_filter c.initial_velocity_variance (moving c d) d) (λ f. given (record { state = with_track (born_under s sightings d f) s; fate = spawned s.next })))

  -- ---- one detection that no track took. Each function decides one of the Rust's tests, from the last to the first.

  -- whether the sightings of its candidate are enough: so many, or not yet (tracker3d.rs 783 to 786: `Some(count) => sightings = count, None => continue`)
  unfoldable pub born_if_enough : Detection → State → Option ℕ → Reply Born
  born_if_enough d s None = given (record { state = s; fate = unmatched })
  born_if_enough d s (Some sightings) = spawned_by sightings d s

  -- whether it is near a confirmed track: then it is a sighting of a candidate only (778 to 783: `any(|p| .. < min_distance)`, persistent_birth)
  unfoldable pub born_or_sighted : Bool → Detection → State → Reply Born
  born_or_sighted false d s = spawned_by 1 d s
  born_or_sighted true d s = and_then (sighted c now d s.candidates) (λ x. born_if_enough d (with_candidates x.candidates s) x.enough)

  -- whether its score is low: then it is passed over, and leaves no candidate (769 to 776: `if score < threshold { continue; }`)
  unfoldable pub born_unless_low : Bool → Bool → Detection → State → Reply Born
  born_unless_low true near d s = given (record { state = s; fate = unmatched })
  born_unless_low false near d s = born_or_sighted near d s

-- ---- all detections

-- only these suppress a birth; Tentative and Lost tracks don't
abbrev pub is_confirmed : TrackLifecycleState → Bool
is_confirmed Tentative = false
is_confirmed Confirmed = true
is_confirmed Lost = false
is_confirmed Deleted = false

-- the places of the confirmed tracks, after this batch's updates and before its births
unfoldable pub confirmed_places : List Track3D → List Vector
confirmed_places [] = []
confirmed_places (t ∷ ts) = let rest = confirmed_places ts in cond (is_confirmed t.lifecycle.state) ((snapshot_of t).position ∷ rest) rest

abbrev pub low_score : Cartesian3DTrackerConfig → Detection → Bool
low_score c d = set_and (score_below d.score) c.new_track_score_threshold

-- where a birth distance is set, a place nearer than that
abbrev pub near_confirmed : Cartesian3DTrackerConfig → List Vector → Detection → Bool
near_confirmed c places d = set_and (λ least. any (λ p. nearer p d.position least) places) c.min_birth_distance_m

module _ (c : Cartesian3DTrackerConfig) (sensor : ℕ) (now : ℤ) (places : List Vector) where
  -- whether a track took it: then it is told as an update, and begins nothing (767: `for &j in &assignment.unmatched_columns`)
  unfoldable pub born_unless_taken : Option Match → Detection → State → Reply Born
  born_unless_taken (Some m) d s = given (record { state = s; fate = updated m })
  born_unless_taken None d s = born_unless_low c sensor now (low_score c d) (near_confirmed c places d) d s

  -- "births in detection order"
  unfoldable pub births_of : List Column → State → Reply Births
  births_of [] s = given (record { state = s; fates = [] })
  births_of (k ∷ l) s =
      and_then (born_unless_taken k.pair k.detection s)
      (λ b. and_then (births_of l b.state) (λ r. given (record { state = r.state; fates = b.fate ∷ r.fates })))
