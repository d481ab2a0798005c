use Rattle.std.specs.Prelude.{None}
use mathlib.Core.Path.{◌≡◌}
use lib.ListN.{take}
use Rattle.calls.specs.Births.{nearest_from}
use Rattle.birth_candidates.specs.Candidates.{near_of}
use Rattle.birth_candidates.proofs.Candidates.nearest.Given as goal

abbrev pub invariant-loop-i : goal.invariant-loop-i
invariant-loop-i l = l.best ≡ near_of (nearest_from l.radius l.time l.d 0 None (take l.i l.x-items))
