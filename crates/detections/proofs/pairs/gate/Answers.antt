use mathlib.Core.Path.{ap, ◌∙◌}
use Rattle.detections.specs.Pairs.{priced}
use Rattle.detections.proofs.Rules.{within_gate, beyond_gate}
use Rattle.detections.proofs.pairs.gate.Goals as goal

pub returns-then-squared-config : goal.returns-then-squared-config
returns-then-squared-config c =
    let s = c.args in
    c.price.ensures ∙ ap priced c.penalize.ensures ∙ within_gate s.config s.prior s.seen s.squared c.if-squared-config.true

pub returns-else-squared-config : goal.returns-else-squared-config
returns-else-squared-config c =
    let s = c.args in
    beyond_gate s.config s.prior s.seen s.squared c.if-squared-config.false
