use Rattle.std.proofs.Common.{◌≤◌, length}
use Rattle.assignment.proofs.Takes.{Taking}
use Rattle.assignment.proofs.takers.take_columns.Given as goal

abbrev pub invariant-loop-j : goal.invariant-loop-j
invariant-loop-j l = (l.k ≤ l.j) × Taking l.names l.g l.p (length l.members) l.members l.initial.takers l.j l.k l.takers
