-- 01, Checked on the floor: "One axis, covariances diagonal, the others with innovation 0: variance 3, measured variance 1, innovation 2: squared distance 1; update gives gain 0.75, variance 0.75.
-- Density 0, dt 1, P identity: position variance 2, cross 1."
use Rattle.std.specs.Prelude.{ℕ, ◌*◌, ◌/◌, ◌%◌, cond, List, [], ◌∷◌, eqb, Float}
use Rattle.std.specs.Float.{binary64}
use Rattle.std.specs.Float.Ieee.{of_bits, mul}
use Rattle.number.specs.Reply.{Reply, given, and_then}
use Rattle.matrix.specs.Matrix.{Vector, item, entry, tabulate, nought, one, product, transposed}
use Rattle.matrix.specs.Flat.{rows_of}
use Rattle.cholesky.specs.Cholesky.{cholesky}
use Rattle.solving.specs.Solving.{gain_by}
use Rattle.models.specs.Models.{selection}
use Rattle.filter.specs.declared.KalmanFilter.{KalmanFilter}
use Rattle.filter.specs.Kalman.{spread}
use Rattle.filter.specs.Filter.{filter_with, squared_mahalanobis, updated_by_position, predicted}
use Rattle.worked.specs.Case.{Case, case}

abbrev two : Float
two = of_bits binary64 0x4000_0000_0000_0000

abbrev three : Float
three = of_bits binary64 0x4008_0000_0000_0000

abbrev three_quarters : Float
three_quarters = of_bits binary64 0x3fe8_0000_0000_0000

-- n by n numbers, row after row, with v where row and column are equal
abbrev diagonal : ℕ → Float → Vector
diagonal n v = tabulate (n * n) (λ k. cond (eqb (k / n) (k % n)) v nought)

-- at rest at the origin, with one variance for every item
abbrev at_rest : Float → KalmanFilter
at_rest variance = filter_with (tabulate 6 (λ k. nought)) (diagonal 6 variance)

-- two metres off along x
abbrev measured_at : Vector
measured_at = two ∷ nought ∷ nought ∷ []

-- the gain of x by the measured x; the update moves x by it, times the innovation
abbrev gain_of_x : Reply Float
gain_of_x =
    let p = rows_of 6 6 (diagonal 6 three) in
    let h = selection 3 6 0 in
    and_then (cholesky 3 (spread 3 6 h (rows_of 3 3 (diagonal 3 one)) p)) (λ l. given (entry (gain_by 3 6 l (product 6 6 3 p (transposed 3 6 h))) 0 0))

-- x, its variance and its covariance with its velocity
abbrev of_x : Reply KalmanFilter → Reply Vector
of_x r = and_then r (λ f. given (item f.state 0 ∷ item f.covariance 0 ∷ item f.covariance 3 ∷ []))

abbrev pub filter_cases : List Case
filter_cases =
    case (squared_mahalanobis measured_at (diagonal 3 one) (at_rest three)) (given one)
    ∷ case gain_of_x (given three_quarters)
    ∷ case (of_x (updated_by_position measured_at (diagonal 3 one) (at_rest three))) (given (mul binary64 three_quarters two ∷ three_quarters ∷ nought ∷ []))
    ∷ case (of_x (predicted one nought (at_rest one))) (given (nought ∷ two ∷ one ∷ []))
    ∷ []
