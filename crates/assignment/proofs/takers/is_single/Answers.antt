use mathlib.Core.Path.{ap}
use mathlib.Core.Bool.{Bool, ◌&&◌}
use denote.Floats.{passes}
use lib.Dec.{eqb}
use lib.Ieee.{binary64, eq, of_bits}
use Rattle.assignment.proofs.takers.is_single.Goals as goal

pub returns : goal.returns
returns c =
    let a = c.args in (
      ap (λ (b : Bool). eqb a.rows 1 && eqb a.cols 1 && eq a.col (of_bits binary64 0) && b) c.is_finite.ensures,
      passes _ c.well_formed.0.1,
      passes _ c.well_formed.1.1.1.0.1,
      passes _ c.well_formed.1.1.1.1.0.1,
    )
