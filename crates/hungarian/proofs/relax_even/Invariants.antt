use Prim.Native.Nat.{◌≤◌}
use Rattle.kuhn_munkres.specs.Binary64.{float}
use Rattle.hungarian.specs.Passes.{two, Evenly}
use Rattle.hungarian.proofs.relax_even.Given as goal

abbrev pub invariant-loop-k : goal.invariant-loop-k
invariant-loop-k l = (l.lo ≤ l.k) × (l.k ≤ l.hi) × Evenly float l.e l.ui l.v l.j0 l.lo l.k (two l.initial.minv l.initial.way) (two l.minv l.way)
