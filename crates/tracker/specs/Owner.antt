-- A call that is refused, and the stages of a batch.
use Rattle.std.specs.Prelude.{List, Err}
use Rattle.number.specs.Reply.{Reply, and_then}
use Rattle.types.specs.declared.batch.ObservationBatch3D.{ObservationBatch3D}
use Rattle.types.specs.declared.track.Track3D.{Track3D}
use Rattle.types.specs.declared.tracker.Cartesian3DTracker.{Cartesian3DTracker}
use Rattle.types.specs.States.{state_of, tracks_of, sequences_of}
use Rattle.batches.specs.Check.{batch_reply}
use Rattle.calls.specs.Update.{matched, matched_with}
use Rattle.calls.specs.Process.{Done, finished}
use Rattle.stages.specs.Stages.{seen_in}
use Rattle.types.specs.declared.refusal.Refusal.{Refusal}
use Rattle.tracker.specs.declared.Answered.{Answered}

abbrev pub refused_with : Cartesian3DTracker → Refusal → Answered
refused_with t why = record { outcome = Err why; tracker = t }

-- ---- a batch by its stages: `process_reply` of calls, from the check on, from the move on, from the pairing on

-- stage 1
abbrev pub check_reply : Cartesian3DTracker → ObservationBatch3D → Reply (Unit {0})
check_reply t b = batch_reply t.config.frame_id (t.last_time) (sequences_of t) b

-- stages 4 to 9, on these tracks
abbrev pub rest_reply : Cartesian3DTracker → ObservationBatch3D → List Track3D → Reply Done
rest_reply t b l = and_then (matched_with t.config b.sensor_id b.timestamp (seen_in b) l) (finished t.config (state_of t) b)

-- stages 2 to 9
abbrev pub moved_reply : Cartesian3DTracker → ObservationBatch3D → Reply Done
moved_reply t b = and_then (matched t.config b.sensor_id b.timestamp (tracks_of t) (seen_in b)) (finished t.config (state_of t) b)
