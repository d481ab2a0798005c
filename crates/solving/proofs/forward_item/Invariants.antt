use Rattle.std.proofs.Common.{◌≡◌}
use lib.Ieee.{binary64, mul}
use Rattle.matrix.specs.Matrix.{entry, item}
use Rattle.cholesky.specs.Cholesky.{less_each}
use Rattle.solving.proofs.forward_item.Given as goal

abbrev pub invariant-loop-k : goal.invariant-loop-k
invariant-loop-k g l = l.x ≡ less_each l.k (λ k. mul binary64 (entry l.columns k l.i) (item l.y k)) l.initial.x
