use Prim.Native.Nat.{◌≤◌}
use Rattle.calls.specs.Births.{stays}
use Rattle.lists.proofs.Weeding.{Weeded}
use Rattle.birth_candidates.proofs.Candidates.age.Given as goal

abbrev pub invariant-loop-x : goal.invariant-loop-x
invariant-loop-x l = (l.kept ≤ l.x-index) × Weeded (stays l.timeout l.now) l.initial.items l.items l.x-index l.kept
