use mathlib.Core.Path.{sym, ◌∙◌}
use Rattle.detections.proofs.Rules.{cost_finite, cost_infinite}
use Rattle.detections.proofs.pairs.price.Goals as goal

pub returns-then-is_finite : goal.returns-then-is_finite
returns-then-is_finite c = cost_finite c.args.cost (sym c.is_finite.ensures ∙ c.if-is_finite.true)

pub returns-else-is_finite : goal.returns-else-is_finite
returns-else-is_finite c = cost_infinite c.args.cost (sym c.is_finite.ensures ∙ c.if-is_finite.false)
