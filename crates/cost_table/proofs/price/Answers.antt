-- Three ends: the classes forbid the pair, its distance is refused, and it is priced.
use Rattle.std.proofs.lemmas.Result.{err_from_is_err_and}
use mathlib.Core.Path.{sym, ap, ◌∙◌}
use Rattle.number.specs.Reply.{refused, given}
use Rattle.detections.specs.Pairs.{measured}
use Rattle.types.proofs.Numbers.{number_of_matrix}
use Rattle.cost_table.proofs.Pricing.{priced_near, priced_apart}
use Rattle.cost_table.proofs.price.Goals as goal

pub returns-then-not-classes_compatible : goal.returns-then-not-classes_compatible
returns-then-not-classes_compatible c =
    let s = c.args in
    ap given c.cost_of.ensures ∙ priced_apart s.rule s.t s.z s.seen _ (sym c.if-not-classes_compatible.ensures)

pub returns-in_err-ruling : goal.returns-in_err-ruling
returns-in_err-ruling c =
    let s = c.args in
    let why = c.in_err-ruling.field-0.0 in
    let p = err_from_is_err_and c.from_residual.result c.from_residual.ensures.1 in
    rw (p.1, p.2)
    (ap refused (number_of_matrix why)
    ∙ priced_near s.rule s.t s.z s.seen _ (sym c.if-not-classes_compatible.ensures) _ (c.in_err-ruling.ensures ∙ ap (measured s.rule s.t.class_prior s.seen) c.distance_by-distance.ensures))

pub returns : goal.returns
returns c =
    let s = c.args in
    ap given c.cost_of-2.ensures
    ∙ priced_near s.rule s.t s.z s.seen _ (sym c.if-not-classes_compatible.ensures) (given c.in_ok-ruling.ruling) (c.in_ok-ruling.ensures ∙ ap (measured s.rule s.t.class_prior s.seen) c.distance_by-distance.ensures)
