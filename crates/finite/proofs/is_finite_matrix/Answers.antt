use Rattle.std.proofs.Common.{sym, ap, ◌∙◌}
use Rattle.std.specs.Float.Ieee.Scale.{finite}
use Rattle.finite.proofs.Totals.{total_finite}
use Rattle.finite.proofs.is_finite_matrix.Goals as goal

pub returns-then-is_finite : goal.returns-then-is_finite
returns-then-is_finite g c = c.if-is_finite.true ∙ total_finite _ _ _ (sym (c.is_finite.ensures ∙ ap finite c.total.ensures) ∙ c.if-is_finite.true)
