-- Demand 3 over what a C program holds. guarantee/specs/Claim says it of trackers, sentence by sentence; here the tracker is the record that the C program holds, the calls are those of
-- include/pikowhanu.h, and what is compared are the bits of that record.
use Rattle.std.specs.Prelude.{ℕ, ◌≡◌, ℤ, Float}
use mathlib.Core.List.{List, [], ◌∷◌, map, Memᴰ}
use Rattle.types.specs.Fresh.{fresh_state}
use Rattle.calls.specs.Process.{Done}
use Rattle.calls.specs.Run.{Call, run}
use Rattle.calls.specs.Run as calls
use Rattle.guarantee.specs.Claim.{DifferByFar, Guaranteed}
use Rattle.records.specs.declared.config.PkSettings.{PkSettings}
use Rattle.records.specs.declared.tracks.PkTrack.{PkTrack}
use Rattle.records.specs.declared.tracker.PkTracker.{PkTracker}
use Rattle.records.specs.Trackers.{pk_state}
use Rattle.records.specs.Configs.{settings_of}
use Rattle.batch_records.specs.declared.PkBatch.{PkBatch}
use Rattle.batch_records.specs.Batches.{batch_of}
use Rattle.c_tracker.specs.Calls.{Heeded, new_answer, predict_answer, prior_answer, batch_on, batch_answer}
use Rattle.c_guarantee.specs.Reading.{track_in, pk_tracks, done_in}

-- ---- a list of C calls

-- a call of a C program on its tracker, with its arguments
pub data PkCall : Type 0 where
  predict_to : ℤ → PkCall
  process_batch : PkBatch → PkCall
  set_class_prior : ℕ → ℕ → Float → PkCall

-- the same call in the words of calls
abbrev pub call_of : PkCall → Call
call_of (predict_to at) = calls.predict_to at
call_of (process_batch b) = calls.process_batch (batch_of b)
call_of (set_class_prior id label confidence) = calls.set_class_prior id label confidence

-- *t after the call: what the contracts of pk_predict_to, pk_process_batch and pk_set_class_prior say of it, refused or not
abbrev pub record_after : PkTracker → PkCall → PkTracker
record_after t (predict_to at) = (predict_answer t at).tracker
record_after t (process_batch b) = (batch_answer t b).tracker
record_after t (set_class_prior id label confidence) = (prior_answer t id label confidence).tracker

-- 01: "Each call gets the state that the one before gave back (after a refusal, the old one), nobody else writes it meanwhile"
unfoldable pub pk_run : List PkCall → PkTracker → PkTracker
pk_run [] t = t
pk_run (call ∷ cs) t = pk_run cs (record_after t call)

-- a list of C calls is a list of calls, from any record whatever
abbrev pub CallsAreCalls : Type 0
CallsAreCalls = (cs : List PkCall) (t : PkTracker) → pk_state (pk_run cs t) ≡ run (settings_of t.settings) (map call_of cs) (pk_state t)

-- ---- demand 3

-- what the C program holds after it: the tracker's state, and what the report tells
abbrev pub held_after : PkTracker → PkBatch → Done
held_after u b = done_in (batch_answer u b).tracker (batch_answer u b).report

-- u is the record that these calls left of a fresh one; a and b are two batches, both answered with 0 on it, that differ only by far detections
pub record PkGuaranteed (settings : PkSettings) (cs : List PkCall) (u : PkTracker) (a b : PkBatch) (d : DifferByFar (settings_of settings) (pk_state u) (batch_of a) (batch_of b)) : Type 0 where
  -- every sentence of the guarantee, of what the C program holds after each
  pub guaranteed : Guaranteed (settings_of settings) fresh_state (map call_of cs) (pk_state u) (batch_of a) (batch_of b) d (held_after u a) (held_after u b)
  -- and of the bits in C's own records: "every track standing before is kept in both or dropped in both, and if kept ends with the same bits"
  pub standing : (x : PkTrack) → Memᴰ x (pk_tracks u) → track_in x.id (batch_answer u a).tracker ≡ track_in x.id (batch_answer u b).tracker

-- From what pk_tracker_new leaves where it answers 0, over whatever stood there before, and whatever calls came since, refused ones among them. That a refusal's number is above 0 (`Heeded`) is
-- part of the contract of pk_process_batch, which holds for both calls; so an answer of 0 says that the batch was accepted.
abbrev pub PkDemand3 : Type 0
PkDemand3 = (before : PkTracker) (settings : PkSettings) (cs : List PkCall) (a b : PkBatch) → (new_answer before settings).code ≡ 0
    → let u = pk_run cs (new_answer before settings).tracker in
    Heeded (batch_on u a) → (batch_answer u a).report.code ≡ 0 → Heeded (batch_on u b) → (batch_answer u b).report.code ≡ 0
    → (d : DifferByFar (settings_of settings) (pk_state u) (batch_of a) (batch_of b)) → PkGuaranteed settings cs u a b d
