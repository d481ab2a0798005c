-- Three ends: the confidence isn't finite, no track has the number, or the prior is set; each is one law of Priors.
use mathlib.Core.Path.{sym, ◌∙◌}
use Rattle.calls.proofs.Answering.{refuses, carries_out}
use Rattle.tracker.proofs.Priors.{prior_not_finite, prior_nowhere, prior_somewhere, prior_laid}
use Rattle.tracker.proofs.set_class_prior.Goals as goal

pub returns-then-not-is_finite : goal.returns-then-not-is_finite
returns-then-not-is_finite c = let a = c.args in rw c.refused.ensures (refuses a.t _ _ (prior_not_finite a.t a.id a.label a.confidence (sym c.is_finite.ensures ∙ c.if-not-is_finite.true)))

pub returns-in-None : goal.returns-in-None
returns-in-None c =
    let a = c.args in
    rw c.refused-in-None.ensures (refuses a.t _ _ (prior_nowhere a.t a.id a.label a.confidence (sym c.is_finite.ensures ∙ c.if-not-is_finite.false) (sym c.find_track.ensures ∙ c.in-None.is)))

pub returns-in-Some : goal.returns-in-Some
returns-in-Some c =
    let a = c.args in
    carries_out a.t _ _ _
    (prior_laid a.t a.id a.label a.confidence c.with_counts.result c.set_prior.result c.clamp_to_unit.result c.with_counts.ensures c.clamp_to_unit.ensures c.set_prior.ensures)
    (prior_somewhere a.t a.id a.label a.confidence c.in-Some.field-0 (sym c.is_finite.ensures ∙ c.if-not-is_finite.false) (sym c.find_track.ensures ∙ c.in-Some.is))
