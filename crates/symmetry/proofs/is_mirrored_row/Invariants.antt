use Rattle.std.proofs.Common.{◌≡◌}
use Rattle.std.specs.Float.Ieee.{eq}
use Rattle.matrix.specs.Matrix.{entry, all_of}
use Rattle.symmetry.proofs.is_mirrored_row.Given as goal

abbrev pub invariant-loop-j : goal.invariant-loop-j
invariant-loop-j g l = l.same ≡ all_of l.j (λ j. eq (entry l.a j l.i) (entry l.a l.i j))
