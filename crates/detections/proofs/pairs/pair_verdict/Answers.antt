use mathlib.Core.Path.{sym, ap, ◌∙◌}
use Rattle.filter.specs.Filter.{distance_from}
use Rattle.detections.specs.Pairs.{measured, verdict_of}
use Rattle.detections.proofs.Rules.{classes_forbid, distance_decides}
use Rattle.detections.proofs.pairs.pair_verdict.Goals as goal

pub returns-then-not-classes_compatible : goal.returns-then-not-classes_compatible
unfolding verdict_of
returns-then-not-classes_compatible c =
    let s = c.args in
    let t = s.t in
    let d = s.d in
    classes_forbid s.config t.class_label t.class_prior d.class_label (distance_from t.expected d.position d.covariance) (sym c.if-not-classes_compatible.ensures)

pub returns : goal.returns
unfolding verdict_of
returns c =
    let s = c.args in
    let t = s.t in
    let d = s.d in
    distance_decides s.config t.class_label t.class_prior d.class_label (distance_from t.expected d.position d.covariance) (sym c.if-not-classes_compatible.ensures)
    (c.verdict_at.ensures ∙ ap (measured s.config t.class_prior d.class_label) c.distance_from-distance.ensures)
