use Prim.Native.Nat.{◌≤◌}
use Rattle.kuhn_munkres.specs.Binary64.{float}
use Rattle.hungarian.specs.Passes.{two, Listed}
use Rattle.hungarian.proofs.relax_table.Given as goal

abbrev pub invariant-loop-k : goal.invariant-loop-k
invariant-loop-k l = (l.lo ≤ l.k) × (l.k ≤ l.hi) × Listed float l.costs l.at l.far l.ui l.v l.j0 l.lo l.k (two l.initial.minv l.initial.way) (two l.minv l.way)
