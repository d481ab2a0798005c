use mathlib.Core.Path.{◌≡◌}
use Prim.Native.Nat.{◌≤◌}
use lib.ListN.{length}
use Rattle.tables.specs.Operations.{numbered}
use Rattle.tables.proofs.Positions.{Missed}
use Rattle.tables.proofs.Stores.{no_track}
use Rattle.tables.proofs.tracks.find_track.Given as goal

abbrev pub invariant-loop-i : goal.invariant-loop-i
invariant-loop-i l = (l.i ≤ l.n) × (l.n ≤ 64) × (length l.s.tracks ≡ 64) × Missed (numbered l.id) no_track l.s.tracks l.i
