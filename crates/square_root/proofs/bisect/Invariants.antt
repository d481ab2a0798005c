use Rattle.std.proofs.Common.{◌-◌, ◌*◌, ◌^◌}
use Rattle.square_root.proofs.Squares.{Bracket}
use Rattle.square_root.proofs.bisect.Given as goal

abbrev pub invariant-loop-end : goal.invariant-loop-end
invariant-loop-end l = Bracket (l.a * 2 ^ 52) l.least l.end

abbrev pub decreases-loop-end : goal.decreases-loop-end
decreases-loop-end l = l.end - l.least
