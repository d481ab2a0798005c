use mathlib.Core.Path.{sym, ◌∙◌}
use Rattle.math.proofs.Answers.{distance_above, distance_nought, distance_infinite}
use Rattle.math.proofs.linalg.distance_of.Goals as goal

pub returns-then-d : goal.returns-then-d
returns-then-d c = distance_above _ (sym c.is_finite.ensures ∙ c.if-is_finite.true) c.if-d.true

pub returns-else-d : goal.returns-else-d
returns-else-d c = distance_nought _ (sym c.is_finite.ensures ∙ c.if-is_finite.true) c.if-d.false

pub returns-else-is_finite : goal.returns-else-is_finite
returns-else-is_finite c = distance_infinite _ (sym c.is_finite.ensures ∙ c.if-is_finite.false)
