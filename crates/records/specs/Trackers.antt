-- The whole tracker as a C program holds it: read as a tracker, and a state laid over it.
use Rattle.std.specs.Prelude.{ℕ, map, pos, replicate, Option, ℤ, unwrap_or}
use Rattle.number.specs.Reply.{Reply, refused, given}
use Rattle.lists.specs.Lay.{lay}
use Rattle.lists.specs.Table.{Table, table, over_table}
use Rattle.types.specs.declared.tracker.BirthCandidate.{BirthCandidate}
use Rattle.types.specs.declared.tracker.SensorSequence.{SensorSequence}
use Rattle.types.specs.declared.tracker.Cartesian3DTracker.{Cartesian3DTracker}
use Rattle.types.specs.States.{State, state_of, tracks_of}
use Rattle.types.specs.Fresh.{blank_track, blank_sequence, blank_candidate}
use Rattle.flags.specs.Flags.{flagged, flag}
use Rattle.records.specs.declared.config.PkSettings.{PkSettings}
use Rattle.records.specs.declared.tracks.PkTrack.{PkTrack}
use Rattle.records.specs.declared.tracker.PkTracker.{PkTracker}
use Rattle.records.specs.Tracks.{track_of, track_to}
use Rattle.records.specs.Configs.{settings_of}

-- the tracker that these numbers mean: there is one, whatever they are
unfoldable pub tracker_of : PkTracker → Cartesian3DTracker
tracker_of t =
    record {
      tracks = map track_of t.tracks;
      track_count = t.track_count;
      next_track_id = t.next_track_id;
      last_time = flagged t.has_last_time t.last_time;
      sequences = t.sequences;
      sequence_count = t.sequence_count;
      candidates = t.candidates;
      candidate_count = t.candidate_count;
      config = settings_of t.settings;
    }

-- the state that a C program holds
abbrev pub pk_state : PkTracker → State
pk_state t = state_of (tracker_of t)

-- other parts of all that calls change; the settings are as t has them
abbrev pub with_pk_parts : ℕ → Option ℤ → Table PkTrack → Table SensorSequence → Table BirthCandidate → PkTracker → PkTracker
with_pk_parts next last tracks sequences candidates t =
    record {
      tracks = tracks.array;
      track_count = tracks.count;
      next_track_id = next;
      last_time = unwrap_or last (pos 0);
      sequences = sequences.array;
      sequence_count = sequences.count;
      candidates = candidates.array;
      candidate_count = candidates.count;
      settings = t.settings;
      has_last_time = flag last;
      reserved = t.reserved;
    }

-- A whole state laid over what a C program holds: its lists in the first places of the tables, their lengths as counts, the last time with its flag; the places behind the lists and
-- the settings are as t has them, bit for bit.
unfoldable pub pk_over : PkTracker → State → PkTracker
pk_over t s =
    with_pk_parts s.next s.last (over_table (map track_to s.tracks) t.tracks) (over_table s.sequences t.sequences) (over_table s.candidates t.candidates) t

-- What a C program holds after a call. 01, What each call declines: "A refusal answers its number and changes nothing lent or held."
unfoldable pub pk_after : PkTracker → Reply State → PkTracker
pk_after t (refused n) = t
pk_after t (given s) = pk_over t s

-- a tracker that has seen nothing, under these settings, with blanks in all places: the Rust's `new`
unfoldable pub pk_fresh : PkSettings → PkTracker
pk_fresh settings =
    record {
      tracks = replicate 64 (track_to blank_track);
      track_count = 0;
      next_track_id = 1;
      last_time = pos 0;
      sequences = replicate 32 blank_sequence;
      sequence_count = 0;
      candidates = replicate 64 blank_candidate;
      candidate_count = 0;
      settings = settings;
      has_last_time = 0;
      reserved = 0;
    }

-- ---- the code's step between

-- the live tracks of u over the places of t, and all else that calls change as u has it
abbrev pub laid_over : PkTracker → Cartesian3DTracker → PkTracker
laid_over t u =
    with_pk_parts u.next_track_id u.last_time (table (lay (map track_to (tracks_of u)) t.tracks) u.track_count) (table u.sequences u.sequence_count)
    (table u.candidates u.candidate_count) t
