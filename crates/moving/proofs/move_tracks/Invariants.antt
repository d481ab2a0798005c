use mathlib.Core.Path.{◌≡◌}
use Prim.Native.Nat.{◌≤◌}
use lib.ListN.{length}
use Rattle.calls.specs.Predict.{continued, moved}
use Rattle.moving.proofs.Passing.{Passed}
use Rattle.moving.proofs.move_tracks.Given as goal

abbrev pub invariant-loop-x : goal.invariant-loop-x
invariant-loop-x l =
    (l.n ≤ 64)
    × (length l.initial.tracks ≡ 64)
    × (l.kept ≤ l.x-index)
    × Passed (continued l.life l.time) (moved l.density l.time) l.initial.tracks l.tracks l.x-index l.kept
