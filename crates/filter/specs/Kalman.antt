-- Kalman's equations with the Joseph form, for a state of n items and a measurement of k, in 01's order of operations.
-- 01, Filter: "Update takes K from (symmetrized S) X = (P Hᵀ)ᵀ and the covariance (I−KH)P(I−KH)ᵀ + K R Kᵀ, symmetrized."
use Rattle.std.specs.Prelude.{ℕ, Float}
use Rattle.number.specs.Reply.{Reply, given, refuse_unless, and_then}
use Rattle.matrix.specs.Matrix.{Vector, Matrix, times_vector, product, transposed, congruence, plus_vector, minus_vector, plus, minus, symmetrized, identity}
use Rattle.finite.specs.Finite.{finite_vector, finite_matrix}
use Rattle.cholesky.specs.Cholesky.{cholesky}
use Rattle.solving.specs.Solving.{gain_by}
use Rattle.math.specs.Linalg.{validated, squared_distance}

-- what is held to be true of a state: x, and P as rows
pub record Estimate : Type 0 where
  pub state : Vector
  pub covariance : Matrix

abbrev pub estimate : Vector → Matrix → Estimate
estimate x p = record { state = x; covariance = p }

-- 01, Predict and Batch: "9 result not finite"
unfoldable pub finished : ℕ → Estimate → Reply Estimate
finished n e = refuse_unless (finite_vector n e.state) 9 (refuse_unless (finite_matrix n n e.covariance) 9 (given e))

-- ---- prediction

-- F x and 0.5 × (M + Mᵀ) with M = (F P) Fᵀ + Q
unfoldable pub moved : ℕ → Matrix → Matrix → Estimate → Estimate
moved n f q e = estimate (times_vector n n f e.state) (symmetrized n (plus n n (congruence n n f e.covariance) q))

-- 01, Predict: "5 noise not finite, 9 result not finite"
unfoldable pub predict_reply : ℕ → Matrix → Matrix → Estimate → Reply Estimate
predict_reply n f q e = refuse_unless (finite_matrix n n q) 5 (finished n (moved n f q e))

-- ---- measurement

-- z − H x
unfoldable pub innovation : ℕ → ℕ → Vector → Matrix → Vector → Vector
innovation k n z h x = minus_vector k z (times_vector k n h x)

-- S, symmetrized, of (H P) Hᵀ + R
unfoldable pub spread : ℕ → ℕ → Matrix → Matrix → Matrix → Matrix
spread k n h r p = symmetrized k (plus k k (congruence k n h p) r)

-- x + K u for the innovation u, and the Joseph form
unfoldable pub corrected : ℕ → ℕ → Vector → Matrix → Matrix → Estimate → Matrix → Estimate
corrected k n u h r e gain =
    estimate
    (plus_vector n e.state (times_vector n k gain u))
    (symmetrized n (plus n n (congruence n n (minus n n (identity n) (product n k n gain h)) e.covariance) (congruence n k gain r)))

-- a gain, where it is finite
abbrev pub gain_reply : ℕ → ℕ → Matrix → Reply Matrix
gain_reply k n gain = refuse_unless (finite_matrix n k gain) 9 (given gain)

unfoldable pub gained : ℕ → ℕ → Vector → Matrix → Matrix → Estimate → Matrix → Reply Estimate
gained k n u h r e gain = refuse_unless (finite_matrix n k gain) 9 (finished n (corrected k n u h r e gain))

-- with the innovation u, the factor of whose covariance has the columns l
unfoldable pub measured_with : ℕ → ℕ → Vector → Matrix → Matrix → Estimate → Matrix → Reply Estimate
measured_with k n u h r e l = gained k n u h r e (gain_by k n l (product n n k e.covariance (transposed k n h)))

-- with the innovation u, whose covariance is s
unfoldable pub measured_by : ℕ → ℕ → Vector → Matrix → Matrix → Matrix → Estimate → Reply Estimate
measured_by k n u s h r e = and_then (cholesky k s) (λ l. measured_with k n u h r e l)

unfoldable pub measured : ℕ → ℕ → Vector → Matrix → Matrix → Estimate → Reply Estimate
measured k n z h r e = measured_by k n (innovation k n z h e.state) (spread k n h r e.covariance) h r e

-- the checks before a reply: 5 of the vector z, then 5, 6, 7 of its covariance r
unfoldable pub checked : {A : Type 0} → ℕ → Vector → Matrix → Reply A → Reply A
checked k z r reply = refuse_unless (finite_vector k z) 5 (and_then (validated k r) (λ u. reply))

unfoldable pub update_reply : ℕ → ℕ → Vector → Matrix → Matrix → Estimate → Reply Estimate
update_reply k n z h r e = checked k z r (measured k n z h r e)

-- the squared distance of a measurement from an estimate
unfoldable pub distance_of : ℕ → ℕ → Vector → Matrix → Matrix → Estimate → Reply Float
distance_of k n z h r e = squared_distance k (innovation k n z h e.state) (spread k n h r e.covariance)
