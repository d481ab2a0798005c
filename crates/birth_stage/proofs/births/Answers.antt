-- The candidates' ages come first; where they are given, the walk's contract is the stage's by the laws of Staging.
use Rattle.std.proofs.lemmas.Result.{err_from_is_err_and}
use mir.Facts.{to_z-of_z}
use Rattle.number.specs.Reply.{reply_by}
use Rattle.types.specs.Refusals.{number_of}
use Rattle.association.specs.Told.{columns_from}
use Rattle.birth_stage.proofs.Staging.{births_stops, births_done}
use Rattle.birth_stage.proofs.births.Goals as goal

pub returns-in_err-candidates : goal.returns-in_err-candidates
returns-in_err-candidates c =
    let a = c.args in
    let p = err_from_is_err_and c.from_residual.result c.from_residual.ensures.1 in
    rw (p.1, p.2)
    (births_stops a.t a.sensor a.time (columns_from a.m a.pairs a.observations) (number_of c.in_err-candidates.field-0.0) (rw (c.candidates_of.ensures, to_z-of_z c.ranges.time) at c.in_err-candidates.ensures))

pub returns : goal.returns
returns c =
    let a = c.args in
    births_done a.t a.sensor a.time (columns_from a.m a.pairs a.observations) c.in_ok-candidates.candidates c.confirmed_places-places.result (reply_by number_of c.walk.result)
    (rw (c.candidates_of.ensures, to_z-of_z c.ranges.time) at c.in_ok-candidates.ensures) c.confirmed_places-places.ensures (rw (to_z-of_z c.ranges.time) at c.walk.ensures)
