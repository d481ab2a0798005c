use mathlib.Core.Path.{◌≡◌}
use Prim.Native.Nat.{◌-◌}
use lib.ListN.{get_or}
use Rattle.assignment.proofs.Climbing.{Climbed}
use Rattle.assignment.proofs.union_find.Forest.find.Given as goal

abbrev pub invariant-loop-self : goal.invariant-loop-self
invariant-loop-self l = Climbed l.initial.self.parent l.initial.self.rank l.self.parent l.x l.y × (l.self.rank ≡ l.initial.self.rank)

abbrev pub decreases-loop-self : goal.decreases-loop-self
decreases-loop-self l = 5000 - get_or l.initial.self.rank l.y 0
