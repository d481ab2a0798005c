use mathlib.Core.Path.{◌≡◌}
use Prim.Native.Nat.{◌+◌, ◌-◌, ◌≤◌}
use Rattle.kuhn_munkres.specs.Binary64.{float}
use Rattle.kuhn_munkres.specs.Steps.{back}
use Rattle.hungarian.proofs.walk_back.Given as goal

abbrev pub invariant-loop-t : goal.invariant-loop-t
invariant-loop-t l = (l.t ≤ l.t-end) × (l.t-end ≡ l.n + 1) × (l.j0 ≤ l.n) × (back float (l.n + 1 - l.t) l.way l.p l.j0 ≡ back float (l.n + 1) l.way l.initial.p l.j)
