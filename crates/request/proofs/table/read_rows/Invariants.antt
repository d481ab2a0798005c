use mathlib.Core.Path.{◌≡◌}
use Prim.Native.Nat.{◌≤◌, ◌-◌}
use lib.ListN.{length, drop}
use Rattle.request.specs.Listed.{listed, told}
use Rattle.request.specs.Request.{row_of, fill_row, table_told}
use Rattle.request.proofs.table.read_rows.Given as goal

abbrev pub invariant-loop-row : goal.invariant-loop-row
invariant-loop-row l =
    (l.i ≤ length l.s) × (l.k ≤ l.i) × (l.count ≤ l.i) × (length l.costs ≡ 4096) ×
    (told (fill_row l.columns) (record { rows = l.count; same = l.even; next = l.k; costs = l.costs }) l.s (listed row_of (drop l.i l.s)) ≡ table_told l.columns l.initial.costs l.s (listed row_of (drop l.from l.s)))

abbrev pub decreases-loop-row : goal.decreases-loop-row
decreases-loop-row l = length l.s - l.i
