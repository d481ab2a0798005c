-- The state of a tracker with lists in the place of arrays with a count, and lists laid over the arrays.
use Rattle.std.specs.Prelude.{ℕ, List, ℤ, take, Option}
use Rattle.lists.specs.Table.{Table, table, over_table}
use Rattle.types.specs.declared.track.Track3D.{Track3D}
use Rattle.types.specs.declared.tracker.BirthCandidate.{BirthCandidate}
use Rattle.types.specs.declared.tracker.SensorSequence.{SensorSequence}
use Rattle.types.specs.declared.tracker.Cartesian3DTracker.{Cartesian3DTracker}

-- all that calls change
pub record State : Type 0 where
  pub tracks : List Track3D
  pub next : ℕ
  pub last : Option ℤ
  pub sequences : List SensorSequence
  pub candidates : List BirthCandidate

-- the first places of each table, whatever its count says
unfoldable pub tracks_of : Cartesian3DTracker → List Track3D
tracks_of s = take s.track_count s.tracks

unfoldable pub sequences_of : Cartesian3DTracker → List SensorSequence
sequences_of s = take s.sequence_count s.sequences

unfoldable pub candidates_of : Cartesian3DTracker → List BirthCandidate
candidates_of s = take s.candidate_count s.candidates

unfoldable pub state_of : Cartesian3DTracker → State
state_of s =
    record {
      tracks = tracks_of s;
      next = s.next_track_id;
      last = s.last_time;
      sequences = sequences_of s;
      candidates = candidates_of s;
    }

-- other tables in a state, the rest as s has it
abbrev pub state_with : List Track3D → List SensorSequence → List BirthCandidate → State → State
state_with tracks sequences candidates s = record { tracks = tracks; next = s.next; last = s.last; sequences = sequences; candidates = candidates }

-- ---- a list in the place of a table: the places behind it are as they were

-- the one place that builds a tracker anew: what calls change, and the settings as s has them
abbrev pub with_parts : ℕ → Option ℤ → Table Track3D → Table SensorSequence → Table BirthCandidate → Cartesian3DTracker → Cartesian3DTracker
with_parts next last tracks sequences candidates s =
    record {
      tracks = tracks.array;
      track_count = tracks.count;
      next_track_id = next;
      last_time = last;
      sequences = sequences.array;
      sequence_count = sequences.count;
      candidates = candidates.array;
      candidate_count = candidates.count;
      config = s.config;
    }

abbrev pub with_tables : Table Track3D → Table SensorSequence → Table BirthCandidate → Cartesian3DTracker → Cartesian3DTracker
with_tables tracks sequences candidates s = with_parts s.next_track_id s.last_time tracks sequences candidates s

abbrev pub track_table : Cartesian3DTracker → Table Track3D
track_table s = table s.tracks s.track_count

abbrev pub sequence_table : Cartesian3DTracker → Table SensorSequence
sequence_table s = table s.sequences s.sequence_count

abbrev pub candidate_table : Cartesian3DTracker → Table BirthCandidate
candidate_table s = table s.candidates s.candidate_count

unfoldable pub over_tracks : Cartesian3DTracker → List Track3D → Cartesian3DTracker
over_tracks s l = with_tables (over_table l s.tracks) (sequence_table s) (candidate_table s) s

unfoldable pub over_sequences : Cartesian3DTracker → List SensorSequence → Cartesian3DTracker
over_sequences s l = with_tables (track_table s) (over_table l s.sequences) (candidate_table s) s

unfoldable pub over_candidates : Cartesian3DTracker → List BirthCandidate → Cartesian3DTracker
over_candidates s l = with_tables (track_table s) (sequence_table s) (over_table l s.candidates) s

-- A whole state laid over a tracker: its lists in the first places of the tables, their lengths as counts; the places behind them and the settings are as s has them.
unfoldable pub over_state : Cartesian3DTracker → State → Cartesian3DTracker
over_state s x = with_parts x.next x.last (over_table x.tracks s.tracks) (over_table x.sequences s.sequences) (over_table x.candidates s.candidates) s
