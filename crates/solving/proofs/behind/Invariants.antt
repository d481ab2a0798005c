use Rattle.std.proofs.Common.{◌≡◌, ◌-◌, ◌+◌, ◌≤◌}
use lib.Ieee.{binary64, mul}
use Rattle.matrix.specs.Matrix.{entry, item, sum_to}
use Rattle.solving.proofs.behind.Given as goal

abbrev pub invariant-loop-k : goal.invariant-loop-k
invariant-loop-k g l = (l.i + 2 ≤ l.k) × (l.sum ≡ sum_to (l.k - (l.i + 2)) (λ t. mul binary64 (entry l.columns l.i (l.i + 1 + t)) (item l.x (l.i + 1 + t))))
