use Rattle.std.proofs.Common.{◌≤◌, length}
use Rattle.cascade.proofs.Places.{Scattering}
use Rattle.cascade.proofs.scatter.Given as goal

abbrev pub invariant-loop-j : goal.invariant-loop-j
invariant-loop-j l = (l.k ≤ l.j) × Scattering l.names l.picked (length l.members) l.members l.initial.takers l.j l.k l.takers
