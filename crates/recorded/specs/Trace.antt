-- The answers to a list of calls, and the state after it.
use Rattle.std.specs.Prelude.{ℕ, List, [], ◌∷◌}
use Rattle.number.specs.Reply.{Reply, refused, given}
use Rattle.settings.specs.declared.Cartesian3DTrackerConfig.{Cartesian3DTrackerConfig}
use Rattle.types.specs.Batches.{Report}
use Rattle.types.specs.States.{State}
use Rattle.calls.specs.Predict.{predict_reply}
use Rattle.calls.specs.Process.{Done, process_reply}
use Rattle.calls.specs.Prior.{prior_reply}
use Rattle.calls.specs.Run.{Call, predict_to, process_batch, set_class_prior}

pub data Answer : Type 0 where
  done : Answer
  no : ℕ → Answer
  told : Report → Answer

pub record Trace : Type 0 where
  pub answers : List Answer
  pub state : State

pub record One : Type 0 where
  pub answer : Answer
  pub state : State

abbrev pub of_state : State → Reply State → One
of_state s (refused n) = record { answer = no n; state = s }
of_state s (given t) = record { answer = done; state = t }

abbrev pub of_done : State → Reply Done → One
of_done s (refused n) = record { answer = no n; state = s }
of_done s (given d) = record { answer = told d.report; state = d.state }

unfoldable pub answer_to : Cartesian3DTrackerConfig → State → Call → One
answer_to c s (predict_to now) = of_state s (predict_reply c s now)
answer_to c s (process_batch b) = of_done s (process_reply c s b)
answer_to c s (set_class_prior n label x) = of_state s (prior_reply s n label x)

unfoldable pub trace : Cartesian3DTrackerConfig → List Call → State → Trace
trace c [] s = record { answers = []; state = s }
trace c (call ∷ calls) s = let o = answer_to c s call in let r = trace c calls o.state in record { answers = o.answer ∷ r.answers; state = r.state }
