use Rattle.std.proofs.Common.{◌≡◌, length, take}
use Rattle.solving.specs.Solving.{forward_to}
use Rattle.solving.proofs.forward.Given as goal

abbrev pub invariant-loop-i : goal.invariant-loop-i
invariant-loop-i g l = (length l.y ≡ g.row.N) × (take l.i l.y ≡ forward_to l.i l.columns l.b)
