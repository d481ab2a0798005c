-- How a branch of the code ends, refused or carried out, and what a contract says of the tracker that it leaves: its state, its settings, nothing changed by a refusal. Assumes nothing.
use Rattle.std.specs.Prelude.{Err, Ok, Result}
use mathlib.Core.Path.{◌≡◌, refl, sym, ap, ◌∙◌, subst}
use Prim.Native.Nat.{ℕ}
use native.Mathlib.Omega.{arith}
use Rattle.number.specs.Reply.{Reply, refused, given, left_in}
use Rattle.types.specs.declared.batch.ObservationBatch3D.{ObservationBatch3D}
use Rattle.types.specs.declared.batch.BatchReport3D.{BatchReport3D}
use Rattle.types.specs.declared.tracker.Cartesian3DTracker.{Cartesian3DTracker}
use Rattle.types.specs.declared.refusal.Refusal.{Refusal}
use Rattle.types.specs.Refusals.{number_of}
use Rattle.types.specs.Batches.{blank_report, report_of}
use Rattle.types.specs.States.{State, state_of, over_state}
use Rattle.types.proofs.Overs.{state_over, settings_over, report_back}
use Rattle.calls.specs.Process.{Done, process_reply}
use Rattle.calls.specs.Run.{state_given}
use Rattle.calls.specs.Answers.{tracker_after, report_after, Answers, BatchAnswers, done_of}

-- ---- the end of a branch

module _ (t : Cartesian3DTracker) where
  -- refused: the tracker is given back as it was
  pub refuses : (why : Refusal) (reply : Reply State) → refused (number_of why) ≡ reply → Answers t t (Err why) reply
  refuses why reply e = subst (Answers t t (Err why)) e (record { is = refl; whole = refl })

  -- carried out: the state that is given is laid over the arrays that came in
  pub carries_out : (u : Cartesian3DTracker) (s : State) (reply : Reply State) → u ≡ over_state t s → given s ≡ reply → Answers t u (Ok tt) reply
  carries_out u s reply h e = subst (Answers t u (Ok tt)) e (record { is = refl; whole = h })

module _ (t : Cartesian3DTracker) (b : ObservationBatch3D) where
  pub batch_refuses : (why : Refusal) → refused (number_of why) ≡ process_reply t.config (state_of t) b → BatchAnswers t b t (Err why) blank_report
  batch_refuses why e = record { tracker = refuses t why _ (ap state_given e); reported = ap report_after e }

-- ---- what the tracker holds after a call

module _ (t u : Cartesian3DTracker) (o : Result (Unit {0}) Refusal) where
  left_state : (reply : Reply State) → state_of (tracker_after t reply) ≡ left_in reply (state_of t)
  left_state (refused n) = refl
  left_state (given s) = state_over t s

  pub answers_state : (reply : Reply State) → Answers t u o reply → state_of u ≡ left_in reply (state_of t)
  answers_state reply h = ap state_of h.whole ∙ left_state reply

  left_settings : (reply : Reply State) → (tracker_after t reply).config ≡ t.config
  left_settings (refused n) = refl
  left_settings (given s) = settings_over t s

  -- no call changes the settings
  pub answers_settings : (reply : Reply State) → Answers t u o reply → u.config ≡ t.config
  answers_settings reply h = ap (λ (v : Cartesian3DTracker). v.config) h.whole ∙ left_settings reply

-- 01: "A refusal answers its number and changes nothing lent or held."
pub refused_same : (t u : Cartesian3DTracker) (why : Refusal) (reply : Reply State) → Answers t u (Err why) reply → (reply ≡ refused (number_of why)) × (u ≡ t)
refused_same t u why (refused n) h = (let e = h.is in cc, h.whole)
refused_same t u why (given s) h = absurd (let e = h.is in let z : ◌≡◌ {A = ℕ} 0 1 = cc in omega arith)

-- ---- what a batch that is carried out was given

batch_given : (t u : Cartesian3DTracker) (report : BatchReport3D) (reply : Reply Done) → Answers t u (Ok tt) (state_given reply) → report ≡ report_after reply → reply ≡ given (done_of u report)
batch_given t u report (refused n) h g = absurd (let e = h.is in let z : ◌≡◌ {A = ℕ} 0 1 = cc in omega arith)
batch_given t u report (given d) h g =
    ap {B = Reply Done} given
    (λ i. record { state = sym (ap state_of h.whole ∙ state_over t d.state) i; report = sym (ap report_of g ∙ report_back d.report) i })

pub done_given : (t u : Cartesian3DTracker) (b : ObservationBatch3D) (report : BatchReport3D) → BatchAnswers t b u (Ok tt) report
    → process_reply t.config (state_of t) b ≡ given (done_of u report)
done_given t u b report h = batch_given t u report (process_reply t.config (state_of t) b) h.tracker h.reported
