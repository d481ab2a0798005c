use mathlib.Core.Path.{◌≡◌}
use Prim.Native.Nat.{◌≤◌, ◌+◌, ◌-◌}
use lib.ListN.{length, drop}
use Rattle.request.specs.Listed.{listed, told}
use Rattle.request.specs.Request.{entry_of, store_one, row_told}
use Rattle.request.proofs.table.entries.Given as goal

abbrev pub invariant-loop-cost : goal.invariant-loop-cost
invariant-loop-cost l =
    (l.i ≤ length l.s) × (l.from + l.n ≤ l.i) × (length l.costs ≡ 4096) ×
    (told (store_one l.k) (record { count = l.n; costs = l.costs }) l.s (listed entry_of (drop l.i l.s)) ≡ row_told l.k l.initial.costs l.s (listed entry_of (drop l.from l.s)))

abbrev pub decreases-loop-cost : goal.decreases-loop-cost
decreases-loop-cost l = length l.s - l.i
