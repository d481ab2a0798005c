use Prim.Native.Nat.{◌≤◌}
use lib.ListN.{length}
use Rattle.assignment.proofs.Listings.{Freeing}
use Rattle.assignment.proofs.pair_lists.list_columns.Given as goal

abbrev pub invariant-loop-j : goal.invariant-loop-j
invariant-loop-j l = (l.j ≤ l.columns) × ((h : l.columns ≤ 64) (g : l.columns ≤ length l.takers) → Freeing l.columns l.takers h g l.j l.free l.n)
