-- The squared distance in two parts, one of the filter alone and one for each measurement, is the whole; and what is left out for a measurement that has passed its checks changes nothing. Assumes nothing.
use mathlib.Core.Path.{◌≡◌, refl, ap, ◌∙◌}
use mathlib.Core.Bool.{true}
use Prim.Native.Nat.{ℕ}
use lib.Ieee.{Float, binary64, mul}
use Rattle.number.specs.Reply.{Reply, given}
use Rattle.matrix.specs.Matrix.{Vector, Matrix, row_times, product, congruence, plus, symmetrized}
use Rattle.matrix.specs.Flat.{row_of, rows_of, flat_of}
use Rattle.finite.specs.Finite.{finite_vector}
use Rattle.math.specs.Linalg.{validated, squared_distance}
use Rattle.models.specs.Models.{selection, isotropic}
use Rattle.filter.specs.declared.KalmanFilter.{KalmanFilter}
use Rattle.filter.specs.declared.Expected.{Expected}
use Rattle.filter.specs.Kalman.{innovation, spread, measured_by, measured, checked, update_reply, distance_of}
use Rattle.filter.specs.Filter.{estimate_of, stored, updated_by_position, updated_by_velocity, updated_by_checked_velocity, squared_mahalanobis, expected_of, innovation_from, spread_from, factor_from, distance_with, distance_from, updated_from}

-- 9 numbers hold a matrix of three rows whole
rows_flat : (h p : Matrix) → rows_of 3 3 (flat_of 3 3 (congruence 3 6 h p)) ≡ congruence 3 6 h p
unfolding row_of rows_of flat_of congruence product row_times
rows_flat h p = refl

same_spread : (f : KalmanFilter) (r : Vector) → spread_from (expected_of f) r ≡ spread 3 6 (selection 3 6 0) (rows_of 3 3 r) (rows_of 6 6 f.covariance)
unfolding expected_of spread
same_spread f r = ap (λ (s : Matrix). symmetrized 3 (plus 3 3 s (rows_of 3 3 r))) (rows_flat (selection 3 6 0) (rows_of 6 6 f.covariance))

same_innovation : (f : KalmanFilter) (z : Vector) → innovation_from (expected_of f) z ≡ innovation 3 6 z (selection 3 6 0) f.state
unfolding expected_of innovation
same_innovation f z = refl

-- the factor of S first, then the distance by it
pub distance_factored : (m : Expected) (z r : Vector) → distance_with m z (factor_from m r) ≡ distance_from m z r
unfolding distance_from distance_with factor_from squared_distance
distance_factored m z r = refl

pub distance_parts : (f : KalmanFilter) (z r : Vector) → distance_from (expected_of f) z r ≡ distance_of 3 6 z (selection 3 6 0) (rows_of 3 3 r) (estimate_of f)
unfolding distance_from distance_of
distance_parts f z r = λ i. squared_distance 3 (same_innovation f z i) (same_spread f r i)

pub update_parts : (f : KalmanFilter) (z r : Vector) → updated_from (expected_of f) z r f ≡ stored (measured 3 6 z (selection 3 6 0) (rows_of 3 3 r) (estimate_of f))
unfolding updated_from measured
update_parts f z r = λ i. stored (measured_by 3 6 (same_innovation f z i) (same_spread f r i) (selection 3 6 0) (rows_of 3 3 r) (estimate_of f))

-- ---- for a measurement that passes its checks, the parts give what the whole calls give

check_passed : {A : Type 0} (k : ℕ) (z : Vector) (r : Matrix) (reply : Reply A) → finite_vector k z ≡ true → given tt ≡ validated k r → reply ≡ checked k z r reply
unfolding checked
check_passed k z r reply f v = rw (f, ← v)

module _ (f : KalmanFilter) (z r : Vector) (t : finite_vector 3 z ≡ true) (v : given tt ≡ validated 3 (rows_of 3 3 r)) where
  pub checked_distance : distance_from (expected_of f) z r ≡ squared_mahalanobis z r f
  unfolding squared_mahalanobis
  checked_distance = distance_parts f z r ∙ check_passed 3 z (rows_of 3 3 r) (distance_of 3 6 z (selection 3 6 0) (rows_of 3 3 r) (estimate_of f)) t v

  pub checked_position : updated_from (expected_of f) z r f ≡ updated_by_position z r f
  unfolding updated_by_position update_reply
  checked_position = update_parts f z r ∙ ap stored (check_passed 3 z (rows_of 3 3 r) (measured 3 6 z (selection 3 6 0) (rows_of 3 3 r) (estimate_of f)) t v)

pub checked_velocity : (f : KalmanFilter) (v : Vector) (std : Float) → finite_vector 2 v ≡ true → given tt ≡ validated 2 (isotropic 2 (mul binary64 std std)) → updated_by_checked_velocity v std f ≡ updated_by_velocity v std f
unfolding updated_by_checked_velocity updated_by_velocity update_reply
checked_velocity f v std t g = ap stored (check_passed 2 v (isotropic 2 (mul binary64 std std)) (measured 2 6 v (selection 2 6 3) (isotropic 2 (mul binary64 std std)) (estimate_of f)) t g)
