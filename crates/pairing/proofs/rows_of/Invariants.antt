use mathlib.Core.Path.{◌≡◌}
use mathlib.Core.List.{map}
use Prim.Native.Nat.{◌≤◌}
use lib.ListN.{length, take, replicate}
use Rattle.lists.specs.Lay.{lay}
use Rattle.pairing.specs.Rows.{row_of, blank_row}
use Rattle.pairing.proofs.rows_of.Given as goal

abbrev pub invariant-loop-i : goal.invariant-loop-i
invariant-loop-i l = (l.count ≤ 64) × (length l.fn.tracks ≡ 64) × (l.rows ≡ lay (take l.i (map row_of l.fn.tracks)) (replicate 64 blank_row))
