use Rattle.std.proofs.Common.{◌≡◌}
use Rattle.std.specs.Float.Ieee.{eq}
use Rattle.matrix.specs.Matrix.{entry, all_of}
use Rattle.symmetry.proofs.is_mirrored.Given as goal

abbrev pub invariant-loop-i : goal.invariant-loop-i
invariant-loop-i g l = l.same ≡ all_of l.i (λ i. all_of i (λ j. eq (entry l.a j i) (entry l.a i j)))
