-- Three ends: the track is there already, its time overflows, or the filter's prediction decides.
use Rattle.std.proofs.lemmas.Result.{err_from_is_err_and}
use Rattle.std.specs.Prelude.{Option, ok_or}
use mathlib.Core.Path.{◌≡◌, sym, ap, ◌∙◌}
use lib.IntN.{ℤ}
use mir.Syntax.{w64}
use mir.Val.{SFits}
use mir.Facts.{to_z-of_z}
use borrow.Author.Rules.{rules}
use Rattle.number.specs.Reply.{reply_or, reply_by}
use Rattle.number.proofs.Signed.{same_of, other_of}
use Rattle.types.specs.declared.refusal.Refusal.TheVariants.{TimestampOverflow}
use Rattle.types.specs.Refusals.{number_of}
use Rattle.moving.proofs.Moves.{there, too_far, away}
use Rattle.moving.proofs.move_track.Goals as goal

pub returns-then-x-time : goal.returns-then-x-time
returns-then-x-time c =
    let a = c.args in
    let fits : SFits w64 a.x.state_timestamp = search rules in
    there a.density a.time a.x (same_of a.x.state_timestamp a.time fits c.ranges.time c.if-x-time.true)

pub returns-in_err-dt : goal.returns-in_err-dt
returns-in_err-dt c =
    let a = c.args in
    let fits : SFits w64 a.x.state_timestamp = search rules in
    let e = c.in_err-dt.ensures in
    let z = ap (reply_by number_of) (e.value ∙ ap (λ (o : Option ℤ). ok_or o TimestampOverflow) e.ok_part) in
    let why : number_of c.in_err-dt.field-0.0 ≡ 8 = cc in
    let p = err_from_is_err_and c.from_residual.result c.from_residual.ensures.1 in
    rw (p.1, p.2, why)
    (too_far a.density a.time a.x (other_of a.x.state_timestamp a.time c.if-x-time.false)
    (sym (ap (reply_or 8) e.ok_part) ∙ (rw (to_z-of_z c.ranges.time, to_z-of_z fits) at c.checked_duration_since-since.ensures)))

pub returns : goal.returns
returns c =
    let a = c.args in
    let fits : SFits w64 a.x.state_timestamp = search rules in
    let dt = c.in_ok-dt.dt in
    let g : SFits w64 dt = search rules in
    (rw (to_z-of_z g, to_z-of_z c.ranges.time) at c.move_by.ensures)
    ∙ away a.density a.time a.x dt (other_of a.x.state_timestamp a.time c.if-x-time.false)
    (sym (ap (reply_or 8) c.in_ok-dt.ensures.ok_part) ∙ (rw (to_z-of_z c.ranges.time, to_z-of_z fits) at c.checked_duration_since-since.ensures))
