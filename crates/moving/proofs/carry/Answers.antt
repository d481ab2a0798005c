-- Three ends: the life ends here, the move is refused, or the track is moved.
use Rattle.std.proofs.lemmas.Result.{err_from_is_err_and}
use mathlib.Core.Path.{sym}
use mir.Facts.{to_z-of_z}
use Rattle.moving.proofs.Tracks.{life_goes_on, life_ends, carry_drops, carry_moves}
use Rattle.moving.proofs.carry.Goals as goal

pub returns-in-Dropped : goal.returns-in-Dropped
returns-in-Dropped c =
    carry_drops _ _ _ _ (rw (to_z-of_z c.ranges.time) at (life_ends _ _ _ _ c.advance_track-aged.ensures c.in-Dropped.is))

pub returns-in_err-move_track-in-Kept : goal.returns-in_err-move_track-in-Kept
returns-in_err-move_track-in-Kept c =
    let p = err_from_is_err_and c.from_residual.result c.from_residual.ensures.1 in
    rw (p.1, p.2)
    (carry_moves _ _ _ _ _ _ (rw (to_z-of_z c.ranges.time) at (life_goes_on _ _ _ _ c.advance_track-aged.ensures c.in-Kept.is))
    (sym (rw (to_z-of_z c.ranges.time) at c.in_err-move_track-in-Kept.ensures)))

pub returns-in_ok-move_track-in-Kept : goal.returns-in_ok-move_track-in-Kept
returns-in_ok-move_track-in-Kept c =
    carry_moves _ _ _ _ _ _ (rw (to_z-of_z c.ranges.time) at (life_goes_on _ _ _ _ c.advance_track-aged.ensures c.in-Kept.is))
    (sym (rw (to_z-of_z c.ranges.time) at c.in_ok-move_track-in-Kept.ensures))
