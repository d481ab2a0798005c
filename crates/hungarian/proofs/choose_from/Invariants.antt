use mathlib.Core.Path.{◌≡◌}
use Prim.Native.Nat.{◌≤◌}
use Rattle.kuhn_munkres.specs.Binary64.{float}
use Rattle.hungarian.specs.Passes.{chosen}
use Rattle.hungarian.specs.Structs.{least_of}
use Rattle.hungarian.proofs.choose_from.Given as goal

abbrev pub invariant-loop-k : goal.invariant-loop-k
invariant-loop-k l = (l.lo ≤ l.k) × (l.k ≤ l.hi) × (least_of l.b ≡ chosen float l.minv l.k)
