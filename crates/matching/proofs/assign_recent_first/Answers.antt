-- `matching::assign_recent_first` meets its contract: the flags are the front of the array that the cascade reads. Assumes nothing.
use Rattle.std.proofs.lemmas.Result.{err_from_is_err_and}
use mathlib.Core.Bool.{false}
use mathlib.Core.List.{List}
use mathlib.Core.Path.{◌≡◌, ap, ◌∙◌}
use Prim.Native.Nat.{ℕ}
use lib.ListN.{length, replicate, length-replicate}
use mir.Facts.{to_z-of_z}
use Rattle.matching.proofs.Taking.{recent_done, recent_stops}
use Rattle.matching.proofs.assign_recent_first.Goals as goal

-- the takers' array is whole
sized : (l : List ℕ) → l ≡ replicate 64 64 → length l ≡ 64
sized l e = ap length e ∙ length-replicate {A = ℕ} 64 64

pub returns : goal.returns
returns c =
    recent_done c.args.window c.args.time _ c.args.table.rows (replicate 64 false) _ c.requires.1 c.requires.0.0 c.mark_recent.result
    (rw (to_z-of_z c.ranges.time, to_z-of_z c.ranges.window) at c.mark_recent.ensures)
    c.args.gate _ c.args.table.columns c.in_ok-mark_recent.was _ _ _ c.pair_cascade.ensures

pub returns-in_err-mark_recent : goal.returns-in_err-mark_recent
returns-in_err-mark_recent c =
    let q = err_from_is_err_and c.from_residual.result c.from_residual.ensures.1 in
    rw (q.1, q.2)
    (recent_stops c.args.window c.args.time _ c.args.table.rows (replicate 64 false) _ c.requires.1 c.requires.0.0 c.mark_recent.result
    (rw (to_z-of_z c.ranges.time, to_z-of_z c.ranges.window) at c.mark_recent.ensures)
    c.args.gate _ c.args.table.columns _ c.in_err-mark_recent.was _ (sized _ c.requires.2))
