-- Demand 3 of whole trackers: calls that answer as their contracts say lead to the state that the definitions give, and so to the guarantee. Assumes nothing.
use Rattle.std.specs.Prelude.{Ok}
use mathlib.Core.Path.{◌≡◌, sym, ap, ◌∙◌, subst}
use mathlib.Core.List.{List, [], ◌∷◌}
use Rattle.number.specs.Reply.{given}
use Rattle.settings.specs.declared.Cartesian3DTrackerConfig.{Cartesian3DTrackerConfig}
use Rattle.types.specs.declared.batch.ObservationBatch3D.{ObservationBatch3D}
use Rattle.types.specs.declared.batch.BatchReport3D.{BatchReport3D}
use Rattle.types.specs.declared.tracker.Cartesian3DTracker.{Cartesian3DTracker}
use Rattle.types.specs.States.{State, state_of}
use Rattle.types.specs.Fresh.{fresh_of}
use Rattle.types.proofs.Overs.{fresh_state_lem}
use Rattle.calls.specs.Process.{Done, process_reply}
use Rattle.calls.specs.Run.{Call, predict_to, process_batch, set_class_prior, state_reply, state_after, run}
use Rattle.calls.specs.Numbers.{Numbered}
use Rattle.calls.specs.Answers.{done_of, BatchAnswers, Step, Steps}
use Rattle.guarantee.specs.Claim.{DifferByFar, Undisturbed, Demand3WholeFrom, Demand3Whole}
use Rattle.calls.proofs.Numbers.{process_numbered, run_numbered, fresh_numbered}
use Rattle.calls.proofs.Answering.{answers_state, answers_settings, done_given}
use Rattle.guarantee.proofs.Demand3.{demand3_from}

-- ---- one call

step_state : (t : Cartesian3DTracker) (call : Call) (u : Cartesian3DTracker) → Step t call u → state_of u ≡ state_after t.config (state_of t) call
unfolding Step state_after state_reply
step_state t (predict_to now) u h = answers_state t u h.0 _ h.1
step_state t (process_batch b) u h = answers_state t u h.0 _ h.2.tracker
step_state t (set_class_prior n label confidence) u h = answers_state t u h.0 _ h.1

step_settings : (t : Cartesian3DTracker) (call : Call) (u : Cartesian3DTracker) → Step t call u → u.config ≡ t.config
unfolding Step
step_settings t (predict_to now) u h = answers_settings t u h.0 _ h.1
step_settings t (process_batch b) u h = answers_settings t u h.0 _ h.2.tracker
step_settings t (set_class_prior n label confidence) u h = answers_settings t u h.0 _ h.1

-- ---- calls one after another

pub steps_settings : (t : Cartesian3DTracker) (calls : List Call) (u : Cartesian3DTracker) → Steps t calls u → u.config ≡ t.config
unfolding Steps
steps_settings t [] u h = ap (λ (x : Cartesian3DTracker). x.config) (sym h)
steps_settings t (call ∷ calls) u h = steps_settings h.0 calls u h.2 ∙ step_settings t call h.0 h.1

pub steps_state : (t : Cartesian3DTracker) (calls : List Call) (u : Cartesian3DTracker) → Steps t calls u → state_of u ≡ run t.config calls (state_of t)
unfolding Steps run
steps_state t [] u h = ap state_of (sym h)
steps_state t (call ∷ calls) u h =
    steps_state h.0 calls u h.2
    ∙ ap (λ (c : Cartesian3DTrackerConfig). run c calls (state_of h.0)) (step_settings t call h.0 h.1)
    ∙ ap (run t.config calls) (step_state t call h.0 h.1)

-- ---- the guarantee

module _ (t : Cartesian3DTracker) (calls : List Call) (u : Cartesian3DTracker) (st : Steps t calls u) (b : ObservationBatch3D) (z : Cartesian3DTracker) (r : BatchReport3D)
    (carried : BatchAnswers u b z (Ok tt) r) where
  -- a batch that is carried out gives what the definitions make of it
  given_here : process_reply t.config (state_of u) b ≡ given (done_of z r)
  given_here = subst (λ (c : Cartesian3DTrackerConfig). process_reply c (state_of u) b ≡ given (done_of z r)) (steps_settings t calls u st) (done_given u z b r carried)

  pub given_by_calls : process_reply t.config (run t.config calls (state_of t)) b ≡ given (done_of z r)
  given_by_calls = subst (λ (s : State). process_reply t.config s b ≡ given (done_of z r)) (steps_state t calls u st) given_here

-- from any state that the calls made, under whichever name
undisturbed_at : (c : Cartesian3DTrackerConfig) (s₀ : State) → Numbered s₀ → (calls : List Call) (a b : ObservationBatch3D) (x y : Done) (s : State) → run c calls s₀ ≡ s
    → (d : DifferByFar c s a b) → process_reply c s a ≡ given x → process_reply c s b ≡ given y → Undisturbed c s a b d x y
undisturbed_at c s₀ h calls a b x y s e =
    subst (λ (s : State). (d : DifferByFar c s a b) → process_reply c s a ≡ given x → process_reply c s b ≡ given y → Undisturbed c s a b d x y) e
    (demand3_from c s₀ h calls a b x y)

pub demand3_whole_from : (t : Cartesian3DTracker) → Demand3WholeFrom t
demand3_whole_from t h calls u v w a b p q st x y d =
    let c = t.config in
    let reached = steps_state t calls u st in
    let before : Numbered (state_of u) = subst Numbered (sym reached) (run_numbered c calls (state_of t) h) in
    let A = given_here t calls u st a v p x in
    let B = given_here t calls u st b w q y in
    record {
      reached = reached;
      numbered = before;
      numbered_a = process_numbered c (state_of u) a (done_of v p) before A;
      numbered_b = process_numbered c (state_of u) b (done_of w q) before B;
      given_a = given_by_calls t calls u st a v p x;
      given_b = given_by_calls t calls u st b w q y;
      undisturbed = undisturbed_at c (state_of t) h calls a b (done_of v p) (done_of w q) (state_of u) (sym reached) d A B;
    }

-- `new` gives a tracker without tracks
fresh_whole : (c : Cartesian3DTrackerConfig) → Numbered (state_of (fresh_of c))
fresh_whole c = rw (fresh_state_lem c) fresh_numbered

pub demand3_whole : Demand3Whole
demand3_whole c o t h = demand3_whole_from t (subst (λ (u : Cartesian3DTracker). Numbered (state_of u)) (sym h.whole) (fresh_whole c))
