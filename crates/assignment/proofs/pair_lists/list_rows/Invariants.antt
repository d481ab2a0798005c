use Prim.Native.Nat.{◌≤◌}
use Rattle.assignment.specs.Taking.{takers_of}
use Rattle.assignment.proofs.Listings.{Listing}
use Rattle.assignment.proofs.pair_lists.list_rows.Given as goal

abbrev pub invariant-loop-i : goal.invariant-loop-i
invariant-loop-i l = (l.i ≤ l.rows) × Listing (takers_of l.columns l.takers) l.rows l.i l.pair_rows l.pair_columns l.free l.n l.left
