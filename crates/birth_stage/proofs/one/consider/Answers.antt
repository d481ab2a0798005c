-- Four ends, each one law of Deciding: there is no place for a candidate, it waits, the track is refused, it begins a track.
use Rattle.std.proofs.lemmas.Result.{err_from_is_err_and}
use mir.Facts.{to_z-of_z}
use Rattle.number.specs.Reply.{refused, given}
use Rattle.types.specs.Refusals.{number_of}
use Rattle.calls.specs.Births.{low_score, near_confirmed}
use Rattle.spawning.specs.Ruling.{places_of}
use Rattle.birth_stage.proofs.Deciding.{consider_stops, consider_waits, consider_begins}
use Rattle.birth_stage.proofs.one.consider.Goals as goal

pub returns-in_err-seen : goal.returns-in_err-seen
returns-in_err-seen c =
    let a = c.args in
    let p = err_from_is_err_and c.from_residual.result c.from_residual.ensures.1 in
    rw (p.1, p.2)
    (consider_stops a.config a.sensor a.time (low_score a.config a.d) (near_confirmed a.config (places_of a.places.now) a.d) a.d a.k a.id a.c.now (number_of c.in_err-seen.field-0.0) (rw (to_z-of_z c.ranges.time) at c.in_err-seen.ensures))

pub returns-in_default : goal.returns-in_default
returns-in_default c =
    let a = c.args in
    consider_waits a.config a.sensor a.time (low_score a.config a.d) (near_confirmed a.config (places_of a.places.now) a.d) a.d a.k a.id a.c.now c.in_ok-seen.seen (rw (to_z-of_z c.ranges.time) at c.in_ok-seen.ensures) c.in_default.is

pub returns-in_err-track : goal.returns-in_err-track
returns-in_err-track c =
    let a = c.args in
    let t = to_z-of_z c.ranges.time in
    let why = c.in_err-track.field-0.0 in
    let p = err_from_is_err_and c.from_residual-in_err-track.result c.from_residual-in_err-track.ensures.1 in
    rw (p.1, p.2)
    (consider_begins a.config a.sensor a.time (low_score a.config a.d) (near_confirmed a.config (places_of a.places.now) a.d) a.d a.k a.id a.c.now c.in_ok-seen.seen c.in-Some.sightings c.begin_with.result (refused (number_of why))
    (rw t at c.in_ok-seen.ensures) c.in-Some.is (rw t at c.begin_with.ensures) c.in_err-track.ensures)

pub returns : goal.returns
returns c =
    let a = c.args in
    let t = to_z-of_z c.ranges.time in
    consider_begins a.config a.sensor a.time (low_score a.config a.d) (near_confirmed a.config (places_of a.places.now) a.d) a.d a.k a.id a.c.now c.in_ok-seen.seen c.in-Some.sightings c.begin_with.result (given c.in_ok-track.track)
    (rw t at c.in_ok-seen.ensures) c.in-Some.is (rw t at c.begin_with.ensures) c.in_ok-track.ensures
