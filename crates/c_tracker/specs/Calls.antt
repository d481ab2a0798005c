-- What the calls answer to a C program, and what they leave in the record that it holds. Each is one of the replies of calls, on the tracker that the record means (`trackerOf`), laid over
-- the record (`pkAfter`). 01, What each call declines: "A refusal answers its number and changes nothing lent or held."
use Rattle.types.specs.declared.refusal.Refusal.{Refusal}
use Rattle.std.specs.Prelude.{ℕ, ◌<◌, ◌≡◌, ℤ, Float, Err, Ok, Result}
use Rattle.number.specs.Reply.{Reply, code_of}
use Rattle.number.specs.Reply as reply
use Rattle.settings.specs.Fields.{SettingsReply, accepted, refused}
use Rattle.settings.specs.Settings.{settings_reply}
use Rattle.types.specs.declared.tracker.Cartesian3DTracker.{Cartesian3DTracker}
use Rattle.types.specs.States.{State}
use Rattle.calls.specs.Predict.{predict_reply}
use Rattle.calls.specs.Prior.{prior_reply}
use Rattle.calls.specs.Process.{Done, process_reply}
use Rattle.calls.specs.Run.{state_given}
use Rattle.calls.specs.Answers.{report_after}
use Rattle.records.specs.declared.config.PkSettings.{PkSettings}
use Rattle.records.specs.declared.tracker.PkTracker.{PkTracker}
use Rattle.records.specs.Configs.{settings_of}
use Rattle.records.specs.Trackers.{pk_state, pk_after, pk_fresh, laid_over}
use Rattle.batch_records.specs.declared.PkBatch.{PkBatch}
use Rattle.batch_records.specs.Batches.{batch_of, report_to}
use Rattle.c_tracker.specs.declared.Answer.{Answer}
use Rattle.c_tracker.specs.declared.Processed.{Processed}

-- ---- settings

abbrev pub field_in : SettingsReply → ℕ
field_in accepted = 0
field_in (refused n field) = field

-- 01, Settings: "1 with the first bad field": its number, or 0
unfoldable pub check_answer : PkSettings → ℕ
check_answer s = field_in (settings_reply (settings_of s))

abbrev pub new_by : SettingsReply → PkTracker → PkSettings → Answer
new_by accepted t s = record { tracker = pk_fresh s; code = 0 }
new_by (refused n field) t s = record { tracker = t; code = n }

-- `new` over whatever stood there before
unfoldable pub new_answer : PkTracker → PkSettings → Answer
new_answer t s = new_by (settings_reply (settings_of s)) t s

-- ---- the calls on a tracker

-- A refusal's number is above 0, so that an answer of 0 says that the call was carried out. The contracts say it beside their equations, since a reply's definition is too long to see it by.
abbrev pub Heeded : {A : Type 0} → Reply A → Type 0
Heeded {A} r = (n : ℕ) → r ≡ reply.refused n → 0 < n

abbrev pub answer_of : PkTracker → Reply State → Answer
answer_of t r = record { tracker = pk_after t r; code = code_of r }

abbrev pub predict_on : PkTracker → ℤ → Reply State
predict_on t at = predict_reply (settings_of t.settings) (pk_state t) at

unfoldable pub predict_answer : PkTracker → ℤ → Answer
predict_answer t at = answer_of t (predict_on t at)

abbrev pub prior_on : PkTracker → ℕ → ℕ → Float → Reply State
prior_on t id label confidence = prior_reply (pk_state t) id label confidence

unfoldable pub prior_answer : PkTracker → ℕ → ℕ → Float → Answer
prior_answer t id label confidence = answer_of t (prior_on t id label confidence)

abbrev pub processed_by : PkTracker → Reply Done → Processed
processed_by t r = record { tracker = pk_after t (state_given r); report = report_to (code_of r) (report_after r) }

abbrev pub batch_on : PkTracker → PkBatch → Reply Done
batch_on t b = process_reply (settings_of t.settings) (pk_state t) (batch_of b)

-- a batch: the report has the number of the answer in it, and is blank beside a refusal
unfoldable pub batch_answer : PkTracker → PkBatch → Processed
batch_answer t b = processed_by t (batch_on t b)

-- ---- the code's step between

-- what is held after a call that left u with this outcome
abbrev pub settled : PkTracker → Result (Unit {0}) Refusal → Cartesian3DTracker → PkTracker
settled t (Ok _) u = laid_over t u
settled t (Err why) u = t
