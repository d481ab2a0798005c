-- A tracker that has seen nothing. 01, What demand 3 speaks of: "from a fresh tracker under any accepted settings".
use Rattle.std.specs.Prelude.{false, [], pos, replicate, None}
use Rattle.lifecycle.specs.Lifecycle.{new_of}
use Rattle.settings.specs.declared.Cartesian3DTrackerConfig.{Cartesian3DTrackerConfig}
use Rattle.matrix.specs.Matrix.{nought}
use Rattle.types.specs.declared.track.Track3D.{Track3D}
use Rattle.types.specs.declared.tracker.BirthCandidate.{BirthCandidate}
use Rattle.types.specs.declared.tracker.SensorSequence.{SensorSequence}
use Rattle.types.specs.declared.tracker.Cartesian3DTracker.{Cartesian3DTracker}
use Rattle.types.specs.States.{State}

-- the Rust's `new`: no tracks, the first number is 1
abbrev pub fresh_state : State
fresh_state = record { tracks = []; next = 1; last = None; sequences = []; candidates = [] }

-- ---- the whole struct, with what stands in the places that nothing has taken

abbrev pub blank_track : Track3D
blank_track =
    record {
      id = 0;
      filter = record { state = replicate 6 nought; covariance = replicate 36 nought };
      lifecycle = new_of (pos 0);
      class_label = None;
      class_prior = None;
      state_timestamp = pos 0;
      last_update_sensor = None;
      contributing_sensors = record { ids = replicate 16 0; count = 0 };
      updated_this_batch = false;
    }

abbrev pub blank_sequence : SensorSequence
blank_sequence = record { sensor = 0; sequence = 0 }

abbrev pub blank_candidate : BirthCandidate
blank_candidate = record { position = replicate 3 nought; last_seen = pos 0; sightings = 0 }

unfoldable pub fresh_of : Cartesian3DTrackerConfig → Cartesian3DTracker
fresh_of c =
    record {
      tracks = replicate 64 blank_track;
      track_count = 0;
      next_track_id = 1;
      last_time = None;
      sequences = replicate 32 blank_sequence;
      sequence_count = 0;
      candidates = replicate 64 blank_candidate;
      candidate_count = 0;
      config = c;
    }
