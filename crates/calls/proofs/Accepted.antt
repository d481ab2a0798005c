-- What a batch that is accepted has passed, and what the tables then do. Assumes nothing.
use Rattle.std.specs.Prelude.{Option}
use mathlib.Core.Path.{◌≡◌}
use mathlib.Core.List.{List, []}
use mathlib.Core.Bool.{true, not}
use Prim.Native.Nat.{ℕ}
use lib.Dec.{leb}
use lib.IntN.{ℤ}
use lib.ListN.{take}
use Rattle.number.specs.Reply.{given}
use Rattle.settings.specs.Frame.{same_frame}
use Rattle.settings.specs.declared.frame.FrameName.{FrameName}
use Rattle.types.specs.declared.tracker.SensorSequence.{SensorSequence}
use Rattle.types.specs.declared.batch.ObservationBatch3D.{ObservationBatch3D}
use Rattle.tables.specs.Sequences.{last_of, noted, room_for, noted_in}
use Rattle.batches.specs.Check.{detections_reply, is_before, is_repeated, batch_reply}
use Rattle.number.proofs.Replies.{bound, past_test}

pub record Passed (frame : FrameName) (last : Option ℤ) (sequences : List SensorSequence) (b : ObservationBatch3D) : Type 0 where
  pub few : leb b.count 64 ≡ true
  pub same_frame_lem : same_frame frame b.frame_id ≡ true
  pub in_time : not (is_before last b.timestamp) ≡ true
  pub new_sequence : not (is_repeated (last_of b.sensor_id sequences) b.sequence) ≡ true
  pub detections : detections_reply (take b.count b.observations) ≡ given tt
  pub room : room_for 32 b.sensor_id sequences ≡ true

pub passed : (frame : FrameName) (last : Option ℤ) (sequences : List SensorSequence) (b : ObservationBatch3D) → batch_reply frame last sequences b ≡ given tt → Passed frame last sequences b
unfolding batch_reply
passed frame last sequences b e =
    let p = past_test (leb b.count 64) 11 _ tt e in
    let q = past_test (same_frame frame b.frame_id) 2 _ tt p.1 in
    let r = past_test (not (is_before last b.timestamp)) 3 _ tt q.1 in
    let s = past_test (not (is_repeated (last_of b.sensor_id sequences) b.sequence)) 4 _ tt r.1 in
    let t = bound (detections_reply (take b.count b.observations)) _ tt s.1 in
    record { few = p.0; same_frame_lem = q.0; in_time = r.0; new_sequence = s.0; detections = t.1; room = (past_test (room_for 32 b.sensor_id sequences) 11 _ tt t.2).0 }

-- with room for its sensor, the table notes the sequence
pub noted_room : (sensor q : ℕ) (l : List SensorSequence) → room_for 32 sensor l ≡ true → noted_in 32 sensor q l ≡ noted sensor q l
unfolding noted_in
noted_room sensor q l e = rw e
