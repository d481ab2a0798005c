use Rattle.std.proofs.lemmas.Result.{err_from_is_err_and}
use mathlib.Core.Path.{ap, ◌∙◌}
use Rattle.number.specs.Reply.{refused, given}
use Rattle.types.proofs.Numbers.{number_of_matrix}
use Rattle.updating.specs.Updates.{observed_as}
use Rattle.updating.proofs.Corrections.{by_correction}
use Rattle.updating.proofs.update_track.Goals as goal

pub returns-in_err-filter : goal.returns-in_err-filter
returns-in_err-filter c =
    let a = c.args in
    let p = err_from_is_err_and c.from_residual.result c.from_residual.ensures.1 in
    rw (p.1, p.2) (ap refused (number_of_matrix _) ∙ by_correction a.u a.x a.d (refused _) c.in_err-filter.ensures)

pub returns : goal.returns
returns c =
    let a = c.args in
    ap given (c.observe.ensures ∙ ap (observed_as a.u a.d.class_label) c.with_filter.ensures) ∙ by_correction a.u a.x a.d (given c.in_ok-filter.filter) c.in_ok-filter.ensures
