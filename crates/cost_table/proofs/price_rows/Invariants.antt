use Prim.Native.Nat.{◌≤◌}
use lib.ListN.{length}
use Rattle.sightings.specs.Laid.{sights_of}
use Rattle.cost_table.proofs.Tabling.{Rows}
use Rattle.cost_table.proofs.price_rows.Given as goal

abbrev pub invariant-loop-i : goal.invariant-loop-i
invariant-loop-i l = (l.i ≤ length l.rows) × Rows l.rule l.rows (sights_of l.laid) l.initial.costs l.i l.costs
