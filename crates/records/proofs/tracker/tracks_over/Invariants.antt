use mathlib.Core.Path.{◌≡◌}
use Prim.Native.Nat.{min}
use lib.ListN.{length}
use Rattle.lists.proofs.Filling.{Filled}
use Rattle.records.specs.Tracks.{track_to}
use Rattle.records.proofs.tracker.tracks_over.Given as goal

abbrev pub invariant-loop-i : goal.invariant-loop-i
invariant-loop-i l = (l.n ≡ min l.fn.u.track_count 64) × (length l.fn.u.tracks ≡ 64) × (length l.initial.out ≡ 64) × Filled track_to l.x-items l.initial.out l.out l.i
