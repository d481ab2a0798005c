use Rattle.std.proofs.Common.{◌≡◌}
use lib.Ieee.{binary64, mul}
use Rattle.matrix.specs.Matrix.{entry}
use Rattle.cholesky.specs.Cholesky.{less_each}
use Rattle.cholesky.proofs.remainder.Given as goal

abbrev pub invariant-loop-column : goal.invariant-loop-column
invariant-loop-column g l = l.x ≡ less_each l.column-index (λ k. mul binary64 (entry l.l k l.i) (entry l.l k l.j)) l.initial.x
