-- What a changed table makes of the tracker, and what code reads past the end of an array. Assumes nothing.
use Rattle.std.specs.Prelude.{None}
use mathlib.Core.Path.{◌≡◌, ap}
use mathlib.Core.Bool.{false}
use mathlib.Core.List.{List, []}
use lib.IntN.{pos}
use lib.ListN.{take}
use Rattle.lists.specs.Table.{Table, over_table}
use Rattle.lifecycle.specs.declared.TrackLifecycleState.TheVariants.{Tentative}
use Rattle.types.specs.declared.track.Track3D.{Track3D}
use Rattle.types.specs.declared.tracker.BirthCandidate.{BirthCandidate}
use Rattle.types.specs.declared.tracker.SensorSequence.{SensorSequence}
use Rattle.types.specs.declared.tracker.Cartesian3DTracker.{Cartesian3DTracker}
use Rattle.types.specs.States.{tracks_of, sequences_of, candidates_of, with_tables, track_table, sequence_table, candidate_table, over_tracks, over_sequences, over_candidates}

-- ---- a table changed

pub tracks_are : (s : Cartesian3DTracker) (op : List Track3D → List Track3D) (t : Table Track3D) → t ≡ over_table (op (take s.track_count s.tracks)) s.tracks
    → with_tables t (sequence_table s) (candidate_table s) s ≡ over_tracks s (op (tracks_of s))
unfolding over_tracks tracks_of
tracks_are s op t e = ap (λ (u : Table Track3D). with_tables u (sequence_table s) (candidate_table s) s) e

pub sequences_are : (s : Cartesian3DTracker) (op : List SensorSequence → List SensorSequence) (t : Table SensorSequence) → t ≡ over_table (op (take s.sequence_count s.sequences)) s.sequences
    → with_tables (track_table s) t (candidate_table s) s ≡ over_sequences s (op (sequences_of s))
unfolding over_sequences sequences_of
sequences_are s op t e = ap (λ (u : Table SensorSequence). with_tables (track_table s) u (candidate_table s) s) e

pub candidates_are : (s : Cartesian3DTracker) (op : List BirthCandidate → List BirthCandidate) (t : Table BirthCandidate) → t ≡ over_table (op (take s.candidate_count s.candidates)) s.candidates
    → with_tables (track_table s) (sequence_table s) t s ≡ over_candidates s (op (candidates_of s))
unfolding over_candidates candidates_of
candidates_are s op t e = ap (λ (u : Table BirthCandidate). with_tables (track_table s) (sequence_table s) u s) e

-- ---- past the end

abbrev pub no_track : Track3D
no_track =
    record {
      id = 0;
      filter = record { state = []; covariance = [] };
      lifecycle = record { state = Tentative; created_at = pos 0; last_observation = None; last_counted = None; observation_times = 0 };
      class_label = None;
      class_prior = None;
      state_timestamp = pos 0;
      last_update_sensor = None;
      contributing_sensors = record { ids = []; count = 0 };
      updated_this_batch = false;
    }

abbrev pub no_candidate : BirthCandidate
no_candidate = record { position = []; last_seen = pos 0; sightings = 0 }

abbrev pub no_sequence : SensorSequence
no_sequence = record { sensor = 0; sequence = 0 }
