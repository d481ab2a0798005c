-- A list of C calls is a list of calls. Assumes nothing.
use mathlib.Core.Path.{◌≡◌, refl, ap, ◌∙◌}
use mathlib.Core.List.{List, [], ◌∷◌, map}
use Rattle.number.specs.Reply.{Reply, refused, given, left_in}
use Rattle.types.specs.States.{State}
use Rattle.calls.specs.Run.{run, state_reply, state_after}
use Rattle.records.specs.declared.config.PkSettings.{PkSettings}
use Rattle.records.specs.declared.tracker.PkTracker.{PkTracker}
use Rattle.records.specs.Configs.{settings_of}
use Rattle.records.specs.Trackers.{pk_over, pk_after, pk_state}
use Rattle.records.proofs.Overs.{state_over_pk}
use Rattle.c_tracker.specs.Calls.{predict_answer, prior_answer, batch_answer}
use Rattle.c_guarantee.specs.Claim.{PkCall, predict_to, process_batch, set_class_prior, call_of, record_after, pk_run, CallsAreCalls}

after_state : (t : PkTracker) (reply : Reply State) → pk_state (pk_after t reply) ≡ left_in reply (pk_state t)
unfolding pk_after
after_state t (refused n) = refl
after_state t (given s) = state_over_pk t s

after_settings : (t : PkTracker) (reply : Reply State) → (pk_after t reply).settings ≡ t.settings
unfolding pk_after pk_over
after_settings t (refused n) = refl
after_settings t (given s) = refl

-- what a call leaves is the state that the same call gives, laid over the record
after_call : (t : PkTracker) (call : PkCall) → record_after t call ≡ pk_after t (state_reply (settings_of t.settings) (pk_state t) (call_of call))
unfolding state_reply predict_answer prior_answer batch_answer
after_call t (predict_to at) = refl
after_call t (process_batch b) = refl
after_call t (set_class_prior id label confidence) = refl

call_state : (t : PkTracker) (call : PkCall) → pk_state (record_after t call) ≡ state_after (settings_of t.settings) (pk_state t) (call_of call)
unfolding state_after
call_state t call = ap pk_state (after_call t call) ∙ after_state t _

call_settings : (t : PkTracker) (call : PkCall) → (record_after t call).settings ≡ t.settings
call_settings t call = ap (λ (u : PkTracker). u.settings) (after_call t call) ∙ after_settings t _

pub run_settings : (cs : List PkCall) (t : PkTracker) → (pk_run cs t).settings ≡ t.settings
unfolding pk_run
run_settings [] t = refl
run_settings (call ∷ cs) t = run_settings cs (record_after t call) ∙ call_settings t call

pub calls_are_calls : CallsAreCalls
unfolding pk_run run
calls_are_calls [] t = refl
calls_are_calls (call ∷ cs) t =
    calls_are_calls cs (record_after t call)
    ∙ ap (λ (c : PkSettings). run (settings_of c) (map call_of cs) (pk_state (record_after t call))) (call_settings t call)
    ∙ ap (run (settings_of t.settings) (map call_of cs)) (call_state t call)
