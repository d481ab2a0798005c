use Rattle.std.proofs.Common.{◌≡◌}
use Rattle.symmetry.specs.Symmetry.{largest_in_rows}
use Rattle.symmetry.proofs.largest.Given as goal

abbrev pub invariant-loop-row : goal.invariant-loop-row
invariant-loop-row g l = l.largest ≡ largest_in_rows l.row-index g.row.P l.fn.a
