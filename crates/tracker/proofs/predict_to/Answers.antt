-- Three ends: the time lies before the last one, a track is refused, or all tracks are moved and the time is set; each is one law of Predicting.
use mathlib.Core.Path.{◌≡◌, sym, ap, ◌∙◌}
use mathlib.Core.Bool.{false}
use mir.Facts.{to_z-of_z}
use Rattle.types.specs.Refusals.{number_of}
use Rattle.batches.specs.Check.{is_before}
use Rattle.moving.specs.Steps.{with_time}
use Rattle.calls.proofs.Answering.{refuses, carries_out}
use Rattle.stages.proofs.Moving.{move_refused, move_given}
use Rattle.tracker.proofs.Predicting.{time_set, too_early, not_moved, all_there}
use Rattle.tracker.proofs.predict_to.Goals as goal

pub returns-then-is_before : goal.returns-then-is_before
returns-then-is_before c =
    let a = c.args in
    rw c.refused.ensures (refuses a.t _ _ (too_early a.t a.timestamp (sym (rw (to_z-of_z c.ranges.timestamp) at c.is_before.ensures) ∙ c.if-is_before.true)))

pub returns-in-Err : goal.returns-in-Err
returns-in-Err c =
    let a = c.args in
    let in_time : is_before (a.t.last_time) a.timestamp ≡ false = sym (rw (to_z-of_z c.ranges.timestamp) at c.is_before.ensures) ∙ c.if-is_before.false in
    let n = number_of c.in-Err.why in
    rw c.refused-in-Err.ensures
    (refuses a.t _ _ (not_moved a.t a.timestamp n in_time (move_refused a.t a.timestamp c.with_counts.result c.with_counts.ensures n (rw (to_z-of_z c.ranges.timestamp) at c.in-Err.ensures))))

pub returns-in-Ok : goal.returns-in-Ok
returns-in-Ok c =
    let a = c.args in
    let in_time : is_before (a.t.last_time) a.timestamp ≡ false = sym (rw (to_z-of_z c.ranges.timestamp) at c.is_before.ensures) ∙ c.if-is_before.false in
    let g = move_given a.t a.timestamp c.with_counts.result c.with_counts.ensures c.in-Ok.moved (rw (to_z-of_z c.ranges.timestamp) at c.in-Ok.ensures) in
    carries_out a.t _ _ _
    (rw (to_z-of_z c.ranges.timestamp) at c.with_time.ensures ∙ ap (with_time a.timestamp) g.whole ∙ time_set a.t a.timestamp g.tracks)
    (all_there a.t a.timestamp g.tracks in_time g.given_they)
