use mathlib.Core.Path.{◌≡◌}
use Prim.Native.Nat.{◌≤◌}
use lib.ListN.{length, take, replicate}
use Rattle.lists.specs.Lay.{lay}
use Rattle.pairing.specs.Rows.{ids_of}
use Rattle.pairing.proofs.ids_of.Given as goal

abbrev pub invariant-loop-i : goal.invariant-loop-i
invariant-loop-i l = (l.i ≤ length l.rows) × (l.ids ≡ lay (take l.i (ids_of l.rows)) (replicate 64 0))
