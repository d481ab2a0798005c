use mathlib.Core.Path.{sym, ap, ◌∙◌}
use native.Mathlib.Omega.{arith}
use Rattle.std.proofs.lemmas.Result.{err_from_is_err_and}
use Rattle.types.proofs.Numbers.{number_of_matrix}
use Rattle.number.specs.Reply.{refused}
use Rattle.batches.proofs.Checks.{passed_none, passed_all, passed_more, passed_not}
use Rattle.batches.proofs.validate_detections.Goals as goal

pub loop-d-init : goal.loop-d-init
loop-d-init c = passed_none _

pub returns-in_err-validate_detection : goal.returns-in_err-validate_detection
returns-in_err-validate_detection c =
    let p = err_from_is_err_and c.from_residual.result c.from_residual.ensures.1 in
    rw (p.1, p.2) (ap refused (number_of_matrix _) ∙ sym (passed_not _ c.loop-d.d-index c.loop-d-test.true c.loop-d.invariant _ (sym c.in_err-validate_detection.ensures)))

pub loop-d-preserved : goal.loop-d-preserved
loop-d-preserved c = passed_more _ c.loop-d.d-index c.loop-d-test.true c.loop-d.invariant (sym c.in_ok-validate_detection.ensures)

pub returns : goal.returns
returns c = passed_all _ c.loop-d.d-index (omega (arith, c.loop-d-test.false, c.loop-d.auto.d-index-end)) c.loop-d.invariant
