use Rattle.std.proofs.lemmas.Result.{err_from_is_err_and}
use mathlib.Core.Path.{◌∙◌}
use Rattle.number.specs.Reply.{refused, given}
use Rattle.calls.specs.Update.{moving_of}
use Rattle.updating.proofs.Corrections.{by_position}
use Rattle.updating.proofs.correct.Goals as goal

pub returns-in_err-next : goal.returns-in_err-next
returns-in_err-next c =
    let a = c.args in
    let p = err_from_is_err_and c.from_residual.result c.from_residual.ensures.1 in
    rw (p.1, p.2) (by_position (moving_of a.deviation a.d.velocity) a.d a.f c.expected_position-expected.result (refused _) c.expected_position-expected.ensures c.in_err-next.ensures)

pub returns : goal.returns
returns c =
    let a = c.args in
    c.correct_velocity.ensures ∙ by_position (moving_of a.deviation a.d.velocity) a.d a.f c.expected_position-expected.result (given c.in_ok-next.next) c.expected_position-expected.ensures c.in_ok-next.ensures
