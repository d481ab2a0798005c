-- Two ends: the filter is refused, and the track is made with it.
use Rattle.std.proofs.lemmas.Result.{err_from_is_err_and}
use mathlib.Core.Path.{ap, ◌∙◌}
use Rattle.number.specs.Reply.{refused, given}
use Rattle.types.proofs.Numbers.{number_of_matrix}
use Rattle.spawning.proofs.Beginning.{made_by}
use Rattle.spawning.proofs.spawn.spawn.Goals as goal

pub returns-in_err-filter : goal.returns-in_err-filter
returns-in_err-filter c =
    let a = c.args in
    let why = c.in_err-filter.field-0.0 in
    let p = err_from_is_err_and c.from_residual.result c.from_residual.ensures.1 in
    rw (p.1, p.2)
    (ap refused (number_of_matrix why)
    ∙ made_by a.d a.id a.sightings a.b c.start_with-v.result c.state_from.result c.spread.result _ c.start_with-v.ensures c.state_from.ensures c.spread.ensures c.in_err-filter.ensures)

pub returns : goal.returns
returns c =
    let a = c.args in
    ap given c.track_with.ensures
    ∙ made_by a.d a.id a.sightings a.b c.start_with-v.result c.state_from.result c.spread.result (given c.in_ok-filter.filter) c.start_with-v.ensures c.state_from.ensures c.spread.ensures c.in_ok-filter.ensures
