use mathlib.Core.Path.{◌≡◌}
use Prim.Native.Nat.{◌≤◌}
use lib.ListN.{length}
use Rattle.moving.proofs.Passing.{Passed}
use Rattle.records.specs.Tracks.{track_to}
use Rattle.owner.proofs.Carrying.{keeps_pk, moves_pk}
use Rattle.owner.proofs.Predicting.{with_pk_tracks, Begun}
use Rattle.owner.proofs.predict_to.Given as goal

abbrev pub invariant-loop-i : goal.invariant-loop-i
invariant-loop-i l =
    (l.i ≤ l.all)
    × (l.all ≤ 64)
    × (length l.t.tracks ≡ 64)
    × (l.n ≤ l.i)
    × (l.t ≡ with_pk_tracks l.initial.t l.t.tracks)
    × Passed (keeps_pk l.life l.time) (moves_pk track_to l.density l.time) l.initial.t.tracks l.t.tracks l.i l.n
    × Begun l.fn.t l.time l.life l.density
