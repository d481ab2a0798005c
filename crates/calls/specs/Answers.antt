-- What a call of the code answers, in the terms of these definitions: the words that the contracts of the five calls are written in. Each settles the whole reply.
use Rattle.types.specs.declared.refusal.Refusal.{Refusal}
use Rattle.std.specs.Prelude.{ℕ, ◌≡◌, List, [], ◌∷◌, ℤ, Float, Result}
use Rattle.number.specs.Reply.{Reply, given, and_then, left_in}
use Rattle.settings.specs.declared.Cartesian3DTrackerConfig.{Cartesian3DTrackerConfig}
use Rattle.types.specs.declared.batch.ObservationBatch3D.{ObservationBatch3D}
use Rattle.types.specs.declared.batch.BatchReport3D.{BatchReport3D}
use Rattle.types.specs.declared.track.Snapshots.{Snapshots}
use Rattle.types.specs.declared.tracker.Cartesian3DTracker.{Cartesian3DTracker}
use Rattle.types.specs.Refusals.{reply_of, settings_reply_of}
use Rattle.types.specs.Batches.{blank_report, whole_report, report_of}
use Rattle.types.specs.States.{State, state_of, over_state}
use Rattle.types.specs.Fresh.{fresh_of}
use Rattle.settings.specs.Settings.{settings_reply}
use Rattle.calls.specs.Predict.{predict_reply}
use Rattle.calls.specs.Process.{Done, process_reply}
use Rattle.calls.specs.Prior.{prior_reply}
use Rattle.calls.specs.Snapshots.{snapshots_of}
use Rattle.calls.specs.Run.{Call, predict_to, process_batch, set_class_prior, state_given}

-- whether a reply was given, or its refusal
abbrev pub verdict_on : {A : Type 0} → Reply A → Reply (Unit {0})
verdict_on r = and_then r (λ v. given tt)

-- The tracker after a call on t: the definition's lists laid over t's arrays, or t itself where the call is refused.
abbrev pub tracker_after : Cartesian3DTracker → Reply State → Cartesian3DTracker
tracker_after t reply = left_in (and_then reply (λ s. given (over_state t s))) t

-- The report of a batch: one fixed blank report where the batch is refused, and blanks behind the lists of one that is accepted.
abbrev pub report_after : Reply Done → BatchReport3D
report_after reply = left_in (and_then reply (λ d. given (whole_report d.report))) blank_report

-- A call on the tracker t that leaves u and answers o: the outcome is the definition's, with its number, and every field and place of u is settled. So settings stay, places
-- behind the counts are as they were, and 01's "A refusal answers its number and changes nothing lent or held" holds.
pub record Answers (t u : Cartesian3DTracker) (o : Result (Unit {0}) Refusal) (reply : Reply State) : Type 0 where
  pub is : reply_of o ≡ verdict_on reply
  pub whole : u ≡ tracker_after t reply

-- ---- the five calls

-- `new`: 01, Settings: "1 with the first bad field". The tracker is the fresh one of these settings, even where they are refused and nobody may use it.
pub record NewAnswers (c : Cartesian3DTrackerConfig) (o : Result (Unit {0}) Refusal) (u : Cartesian3DTracker) : Type 0 where
  pub is : settings_reply_of o ≡ settings_reply c
  pub whole : u ≡ fresh_of c

-- `predict_to`
abbrev pub PredictAnswers : Cartesian3DTracker → ℤ → Cartesian3DTracker → Result (Unit {0}) Refusal → Type 0
PredictAnswers t now u o = Answers t u o (predict_reply t.config (state_of t) now)

-- `set_class_prior`
abbrev pub PriorAnswers : Cartesian3DTracker → ℕ → ℕ → Float → Cartesian3DTracker → Result (Unit {0}) Refusal → Type 0
PriorAnswers t n label confidence u o = Answers t u o (prior_reply (state_of t) n label confidence)

-- `process_batch_reported`: the report beside the tracker
pub record BatchAnswers (t : Cartesian3DTracker) (b : ObservationBatch3D) (u : Cartesian3DTracker) (o : Result (Unit {0}) Refusal) (report : BatchReport3D) : Type 0 where
  pub tracker : Answers t u o (state_given (process_reply t.config (state_of t) b))
  pub reported : report ≡ report_after (process_reply t.config (state_of t) b)

-- what a tracker and a report hold, as lists
abbrev pub done_of : Cartesian3DTracker → BatchReport3D → Done
done_of u report = record { state = state_of u; report = report_of report }

-- `snapshots`
abbrev pub SnapshotsAnswer : Cartesian3DTracker → Snapshots → Type 0
SnapshotsAnswer t r = r ≡ snapshots_of t

-- ---- calls one after another

-- what a call may leave: the contract of that call, whatever else it answers
unfoldable pub Step : Cartesian3DTracker → Call → Cartesian3DTracker → Type 0
Step t (predict_to now) u = (o : Result (Unit {0}) Refusal) × PredictAnswers t now u o
Step t (process_batch b) u = (o : Result (Unit {0}) Refusal) × (report : BatchReport3D) × BatchAnswers t b u o report
Step t (set_class_prior n label confidence) u = (o : Result (Unit {0}) Refusal) × PriorAnswers t n label confidence u o

-- each on the tracker that the one before left
unfoldable pub Steps : Cartesian3DTracker → List Call → Cartesian3DTracker → Type 0
Steps t [] u = t ≡ u
Steps t (call ∷ calls) u = (v : Cartesian3DTracker) × Step t call v × Steps v calls u
