use mathlib.Core.Path.{subst}
use Rattle.types.specs.declared.tracker.Cartesian3DTracker.{Cartesian3DTracker}
use Rattle.calls.specs.Answers.{PriorAnswers}
use Rattle.c_tracker.specs.Calls.{prior_answer}
use Rattle.c_tracker.proofs.Settling.{heeded, answer_is}
use Rattle.c_tracker.proofs.set_class_prior.Goals as goal

pub returns : goal.returns
unfolding prior_answer
returns c =
    let s = c.args in
    let r = c.set_class_prior-answer.result in
    let h =
    subst (λ (x : Cartesian3DTracker). PriorAnswers x s.id s.label s.confidence r.tracker r.outcome) c.tracker_of.ensures c.set_class_prior-answer.ensures in
    (rw (c.code_of.ensures, c.settle.ensures) (answer_is s.t r.tracker r.outcome _ h), heeded s.t r.tracker r.outcome _ h)
