use Prim.Native.Nat.{◌≤◌}
use Rattle.kuhn_munkres.specs.Binary64.{float}
use Rattle.hungarian.specs.Passes.{pots, Pays}
use Rattle.hungarian.proofs.pay_from.Given as goal

abbrev pub invariant-loop-k : goal.invariant-loop-k
invariant-loop-k l = (l.lo ≤ l.k) × (l.k ≤ l.hi) × Pays float l.used l.p l.delta l.lo l.k (pots l.initial.u l.initial.v) (pots l.u l.v)
