use Rattle.std.proofs.lemmas.Result.{err_from_is_err_and}
use mathlib.Core.Path.{ap, ◌∙◌}
use mir.Facts.{to_z-of_z}
use Rattle.number.specs.Reply.{refused, given}
use Rattle.types.specs.Track.{with_timestamp}
use Rattle.types.proofs.Numbers.{number_of_matrix}
use Rattle.moving.proofs.Moves.{by_prediction}
use Rattle.moving.proofs.move_by.Goals as goal

pub returns-in_err-filter : goal.returns-in_err-filter
returns-in_err-filter c =
    let a = c.args in
    let p = err_from_is_err_and c.from_residual.result c.from_residual.ensures.1 in
    rw (p.1, p.2) (ap refused (number_of_matrix _) ∙ by_prediction a.density a.time a.x a.dt c.seconds.result (refused _) (rw (to_z-of_z c.ranges.dt) at c.seconds.ensures) c.in_err-filter.ensures)

pub returns : goal.returns
returns c =
    let a = c.args in
    ap given ((rw (to_z-of_z c.ranges.time) at c.with_state_timestamp.ensures) ∙ ap (with_timestamp a.time) c.with_filter-moved.ensures)
    ∙ by_prediction a.density a.time a.x a.dt c.seconds.result (given c.in_ok-filter.filter) (rw (to_z-of_z c.ranges.dt) at c.seconds.ensures) c.in_ok-filter.ensures
