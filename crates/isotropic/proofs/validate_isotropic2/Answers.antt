use mathlib.Core.Path.{sym, ◌∙◌}
use denote.Floats.{passes}
use Rattle.isotropic.proofs.Isotropic.{infinite, low, valid}
use Rattle.isotropic.proofs.validate_isotropic2.Goals as goal

pub returns-then-variance : goal.returns-then-variance
returns-then-variance c =
    let test = c.before.before in
    let s = test.before in
    valid s.args.variance (passes _ s.well_formed.0.1) (sym test.is_finite.ensures ∙ c.if-is_finite.true) c.if-variance.true

pub returns-else-variance : goal.returns-else-variance
returns-else-variance c =
    let test = c.before.before in
    let s = test.before in
    low s.args.variance (passes _ s.well_formed.0.1) (sym test.is_finite.ensures ∙ c.if-is_finite.true) c.if-variance.false

pub returns-else-is_finite : goal.returns-else-is_finite
returns-else-is_finite c =
    let test = c.before in
    infinite test.args.variance (sym test.is_finite.ensures ∙ c.if-is_finite.false)
