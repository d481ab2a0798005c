use mathlib.Core.Path.{◌≡◌}
use lib.ListN.{drop}
use Rattle.kuhn_munkres.specs.Assignment.{largest}
use Rattle.assignment.proofs.table.largest_finite.Given as goal

abbrev pub invariant-loop-x : goal.invariant-loop-x
invariant-loop-x l = largest l.m (drop l.x-index l.costs) ≡ largest l.first l.costs
