-- Lists of calls. 01, What demand 3 speaks of: "every list of the calls `predict_to`, `process_batch_reported` and `set_class_prior`, refused ones included, in any
-- order and with any arguments"; "Each call gets the state that the one before gave back (after a refusal, the old one)".
use Rattle.std.specs.Prelude.{ℕ, List, [], ◌∷◌, ℤ, Float}
use Rattle.number.specs.Reply.{Reply, given, and_then, left_in}
use Rattle.settings.specs.declared.Cartesian3DTrackerConfig.{Cartesian3DTrackerConfig}
use Rattle.types.specs.declared.batch.ObservationBatch3D.{ObservationBatch3D}
use Rattle.types.specs.States.{State}
use Rattle.calls.specs.Predict.{predict_reply}
use Rattle.calls.specs.Process.{Done, process_reply}
use Rattle.calls.specs.Prior.{prior_reply}

-- A call with its arguments. 01: "A call added later on the same state joins the list": here, and in `stateReply`.
pub data Call : Type 0 where
  predict_to : ℤ → Call
  process_batch : ObservationBatch3D → Call
  set_class_prior : ℕ → ℕ → Float → Call

-- of a batch's answer the state
abbrev pub state_given : Reply Done → Reply State
state_given r = and_then r (λ d. given d.state)

-- the state that a call gives, or its refusal
unfoldable pub state_reply : Cartesian3DTrackerConfig → State → Call → Reply State
state_reply c s (predict_to now) = predict_reply c s now
state_reply c s (process_batch b) = state_given (process_reply c s b)
state_reply c s (set_class_prior n label confidence) = prior_reply s n label confidence

unfoldable pub state_after : Cartesian3DTrackerConfig → State → Call → State
state_after c s call = left_in (state_reply c s call) s

unfoldable pub run : Cartesian3DTrackerConfig → List Call → State → State
run c [] s = s
run c (call ∷ calls) s = run c calls (state_after c s call)
