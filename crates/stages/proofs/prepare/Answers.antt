use Rattle.std.proofs.lemmas.Result.{err_from_is_err_and}
use mir.Facts.{to_z-of_z}
use Rattle.types.specs.Refusals.{number_of}
use Rattle.stages.proofs.Moving.{move_refused, move_given, prepare_refused, prepare_given, marks_cleared}
use Rattle.stages.proofs.prepare.Goals as goal

pub returns-in_err-moved : goal.returns-in_err-moved
returns-in_err-moved c =
    let a = c.args in
    let q = err_from_is_err_and c.from_residual.result c.from_residual.ensures.1 in
    let n = number_of c.in_err-moved.field-0.0 in
    rw (q.1, q.2) (prepare_refused a.t a.time n (move_refused a.t a.time c.with_counts.result c.with_counts.ensures n (rw (to_z-of_z c.ranges.time) at c.in_err-moved.ensures)))

pub returns : goal.returns
returns c =
    let a = c.args in
    let g = move_given a.t a.time c.with_counts.result c.with_counts.ensures c.in_ok-moved.moved (rw (to_z-of_z c.ranges.time) at c.in_ok-moved.ensures) in
    prepare_given a.t a.time c.clear_marks.result g.tracks g.given_they (marks_cleared a.t a.time c.in_ok-moved.moved c.clear_marks.result g.tracks g.whole c.clear_marks.ensures)
