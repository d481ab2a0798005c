-- Worked edges of a batch, each as a statement that computing decides: the first birth, what suppresses a birth, what is recent, and each 11.
use Rattle.std.specs.Prelude.{◌≡◌, List, [], ◌∷◌, false, ℕ, zero, suc, ◌^◌, ◌-◌, ℤ, pos, Float, replicate, None, Option, Some}
use Rattle.std.specs.Float.{binary64}
use Rattle.std.specs.Float.Ieee.{of_int}
use Rattle.number.specs.Reply.{Reply, refused, given, left_in}
use Rattle.lifecycle.specs.declared.TrackLifecycleState.{TrackLifecycleState}
use Rattle.lifecycle.specs.declared.TrackLifecycleState.TheVariants.{Confirmed, Lost}
use Rattle.settings.specs.declared.Cartesian3DTrackerConfig.{Cartesian3DTrackerConfig}
use Rattle.settings.specs.Settings.{default_settings, default_lifecycle}
use Rattle.settings.specs.Frame.{world_frame}
use Rattle.detections.specs.declared.Detection.{Detection}
use Rattle.types.specs.declared.track.Track3D.{Track3D}
use Rattle.types.specs.declared.tracker.SensorSequence.{SensorSequence}
use Rattle.types.specs.declared.batch.ObservationBatch3D.{ObservationBatch3D}
use Rattle.types.specs.declared.batch.ObservationAssociation.{ObservationAssociation}
use Rattle.types.specs.declared.batch.ObservationOutcome.TheVariants.{Updated, Spawned, Unmatched}
use Rattle.types.specs.States.{State}
use Rattle.types.specs.Fresh.{fresh_state}
use Rattle.matrix.specs.Matrix.{nought}
use Rattle.calls.specs.Process.{Done, process_reply}
use Rattle.calls.specs.Run.{state_given}

-- ---- detections, batches and reports

abbrev pub metres : ℕ → Float
metres n = of_int binary64 (pos n)

-- x metres along the first axis, with a variance of 1 along each
abbrev pub seen : ℕ → Option ℕ → Detection
seen x class =
    record {
      position = metres x ∷ nought ∷ nought ∷ [];
      covariance = metres 1 ∷ nought ∷ nought ∷ nought ∷ metres 1 ∷ nought ∷ nought ∷ nought ∷ metres 1 ∷ [];
      velocity = None;
      class_label = class;
      score = None;
    }

-- n detections, of one sensor
abbrev pub batch : ℕ → ℤ → List Detection → ℕ → ObservationBatch3D
batch sequence time l n = record { sensor_id = 99; sequence = sequence; timestamp = time; frame_id = world_frame; observations = l; count = n }

abbrev pub state_in : Reply Done → State
state_in r = left_in (state_given r) fresh_state

abbrev pub told : Reply Done → List ObservationAssociation
told (refused n) = []
told (given d) = d.report.associations

abbrev pub began : ℕ → ℕ → ObservationAssociation
began i n = record { observation_index = i; track_id = Some n; outcome = Spawned; cost = None }

abbrev pub met : ℕ → ℕ → Float → ObservationAssociation
met i n cost = record { observation_index = i; track_id = Some n; outcome = Updated; cost = Some cost }

abbrev pub passed : ℕ → ObservationAssociation
passed i = record { observation_index = i; track_id = None; outcome = Unmatched; cost = None }

-- ---- the first birth

-- a detection before a fresh tracker begins track 1
abbrev pub FirstBirth : Type 0
FirstBirth = told (process_reply default_settings fresh_state (batch 1 (pos 5) (seen 0 None ∷ []) 1)) ≡ began 0 1 ∷ []

-- ---- tables at the time 200

-- x metres along the first axis, of class 1, last seen at that time
abbrev pub standing : TrackLifecycleState → ℤ → ℕ → ℕ → Track3D
standing state last x n =
    record {
      id = n;
      filter = record { state = metres x ∷ replicate 5 nought; covariance = replicate 36 nought };
      lifecycle = record { state = state; created_at = last; last_observation = Some last; last_counted = Some last; observation_times = 2 };
      class_label = Some 1;
      class_prior = None;
      state_timestamp = pos 200;
      last_update_sensor = Some 7;
      contributing_sensors = record { ids = replicate 16 0; count = 0 };
      updated_this_batch = false;
    }

-- n confirmed tracks at the origin, numbered from k on
abbrev tracks : ℕ → ℕ → List Track3D
tracks zero k = []
tracks (suc n) k = standing Confirmed (pos 200) 0 k ∷ tracks n (suc k)

abbrev sensors : ℕ → ℕ → List SensorSequence
sensors zero k = []
sensors (suc n) k = record { sensor = k; sequence = 1 } ∷ sensors n (suc k)

-- with n candidates at the origin
abbrev holding : List Track3D → ℕ → List SensorSequence → ℕ → State
holding ts next l n =
    record { tracks = ts; next = next; last = Some (pos 200); sequences = l; candidates = replicate n (record { position = nought ∷ nought ∷ nought ∷ []; last_seen = pos 200; sightings = 1 }) }

-- persistence 2 for detections nearer than 1 m to a confirmed track
abbrev careful : Option ℤ → Cartesian3DTrackerConfig
careful window =
    record {
      lifecycle = default_lifecycle;
      new_track_score_threshold = None;
      max_contributing_sensors = 16;
      frame_id = world_frame;
      accel_spectral_density = metres 1;
      initial_velocity_variance = metres 4;
      gate_squared_mahalanobis = metres 16;
      class_prior_penalty = metres 8;
      recent_track_window_ns = window;
      min_birth_distance_m = Some (metres 1);
      birth_persistence = Some 2;
      birth_candidate_radius_m = metres 1;
      birth_candidate_timeout_ns = pos 300000000;
      velocity_measurement_std = None;
    }

-- ---- what suppresses a birth, and what is recent

abbrev beside_one : TrackLifecycleState → List ObservationAssociation
beside_one state = told (process_reply (careful None) (holding (standing state (pos 200) 0 1 ∷ []) 2 [] 0) (batch 1 (pos 200) (seen 0 (Some 2) ∷ []) 1))

-- a detection of another class in the place of a track begins one beside a lost track, and only leaves a candidate beside a confirmed one
abbrev pub OnlyConfirmedSuppress : Type 0
OnlyConfirmedSuppress = (beside_one Lost ≡ began 0 2 ∷ []) × (beside_one Confirmed ≡ passed 0 ∷ [])

-- Track 1 was last seen 100 before, at 1 m from the detection; track 2 was last seen 101 before, in its place.
abbrev aged_two : Option ℤ → List ObservationAssociation
aged_two window =
    told (process_reply (careful window) (holding (standing Confirmed (pos 100) 0 1 ∷ standing Confirmed (pos 99) 1 2 ∷ []) 3 [] 0) (batch 1 (pos 200) (seen 1 (Some 1) ∷ []) 1))

-- 01, Detection: "The cascade pairs tracks with age at most the window first". With a window of 100 only track 1 is recent and takes it; with 99 neither is, and with 101 both are, so
-- that the nearer one takes it, as without a window.
abbrev pub AgeAtMostTheWindow : Type 0
AgeAtMostTheWindow =
    (aged_two (Some (pos 100)) ≡ met 0 1 (metres 1) ∷ []) × (aged_two (Some (pos 99)) ≡ met 0 2 nought ∷ []) × (aged_two (Some (pos 101)) ≡ met 0 2 nought ∷ []) × (aged_two None ≡ met 0 2 nought ∷ [])

-- ---- each 11 of a batch, and the last that is taken

-- 01, Batch: "11 over 64 detections"
abbrev pub TooManyDetections : Type 0
TooManyDetections = process_reply default_settings fresh_state (batch 1 (pos 5) (replicate 64 (seen 0 None)) 65) ≡ refused 11

-- "11 a 33rd sensor"
abbrev pub TooManySensors : Type 0
TooManySensors = (process_reply default_settings (holding [] 1 (sensors 32 1) 0) (batch 1 (pos 200) [] 0) ≡ refused 11) × (told (process_reply default_settings (holding [] 1 (sensors 31 1) 0) (batch 1 (pos 200) (seen 0 None ∷ []) 1)) ≡ began 0 1 ∷ [])

-- "11 for .. a 65th track"
abbrev pub TooManyTracks : Type 0
TooManyTracks = (process_reply default_settings (holding (tracks 64 1) 65 [] 0) (batch 1 (pos 200) (seen 90 (Some 2) ∷ []) 1) ≡ refused 11) × (told (process_reply default_settings (holding (tracks 63 1) 64 [] 0) (batch 1 (pos 200) (seen 90 (Some 2) ∷ []) 1)) ≡ began 0 64 ∷ [])

-- "or a next number of 2⁶⁴−1"
abbrev pub NoNumberLeft : Type 0
NoNumberLeft = (process_reply default_settings (holding [] (2 ^ 64 - 1) [] 0) (batch 1 (pos 200) (seen 0 None ∷ []) 1) ≡ refused 11) × (told (process_reply default_settings (holding [] (2 ^ 64 - 2) [] 0) (batch 1 (pos 200) (seen 0 None ∷ []) 1)) ≡ began 0 (2 ^ 64 - 2) ∷ [])

-- "11 for a 65th candidate"
abbrev pub TooManyCandidates : Type 0
TooManyCandidates = (process_reply (careful None) (holding (tracks 1 1) 2 [] 64) (batch 1 (pos 200) (seen 0 (Some 2) ∷ []) 1) ≡ refused 11) × (told (process_reply (careful None) (holding (tracks 1 1) 2 [] 63) (batch 1 (pos 200) (seen 0 (Some 2) ∷ []) 1)) ≡ passed 0 ∷ [])
