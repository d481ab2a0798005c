use Rattle.std.proofs.Common.{◌≡◌}
use Rattle.matrix.specs.Matrix.{item}
use Rattle.symmetry.specs.Symmetry.{largest_of}
use Rattle.symmetry.proofs.largest_in_row.Given as goal

abbrev pub invariant-loop-v : goal.invariant-loop-v
invariant-loop-v g l = l.largest ≡ largest_of l.v-index (λ k. item l.fn.x k) l.fn.m
