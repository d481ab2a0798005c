use mathlib.Core.Path.{◌≡◌}
use Prim.Native.Nat.{◌≤◌}
use lib.ListN.{length}
use Rattle.lists.proofs.Stepping.{Stepped}
use Rattle.association.specs.Told.{mate_of}
use Rattle.updating.proofs.All.{steps}
use Rattle.updating.proofs.update_tracks.Given as goal

abbrev pub invariant-loop-i : goal.invariant-loop-i
invariant-loop-i l = (l.n ≤ 64) × (length l.initial.tracks ≡ 64) × Stepped (steps l.u (mate_of l.mates l.observations)) l.initial.tracks l.tracks l.i
