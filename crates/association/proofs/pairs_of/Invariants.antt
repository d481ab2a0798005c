use lib.ListN.{length}
use Prim.Native.Nat.{◌≤◌}
use Rattle.association.specs.Told.{PairsTold}
use Rattle.association.proofs.pairs_of.Given as goal

abbrev pub invariant-loop-j : goal.invariant-loop-j
invariant-loop-j l = (l.j ≤ length l.takers) × PairsTold l.ids (length l.ids) (length l.takers) l.costs l.takers l.j l.pairs
