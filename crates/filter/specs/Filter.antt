-- The filter of a track: a state of 6 and a covariance of 36 numbers, row after row, under Kalman's equations.
use Rattle.math.specs.declared.linalg.Refusal.{Refusal}
use Rattle.std.specs.Prelude.{Float, Result}
use Rattle.std.specs.Float.{binary64}
use Rattle.std.specs.Float.Ieee.{mul}
use Rattle.number.specs.Reply.{Reply, given, and_then, reply_by}
use Rattle.matrix.specs.Matrix.{Vector, Matrix, times_vector, congruence, plus, minus_vector, symmetrized}
use Rattle.matrix.specs.Flat.{rows_of, flat_of}
use Rattle.math.specs.Refusing.{number_of}
use Rattle.cholesky.specs.Cholesky.{cholesky}
use Rattle.math.specs.Linalg.{distance_by, squared_distance}
use Rattle.models.specs.Models.{transition, noise, selection, isotropic}
use Rattle.filter.specs.declared.KalmanFilter.{KalmanFilter}
use Rattle.filter.specs.declared.Expected.{Expected}
use Rattle.filter.specs.Kalman.{Estimate, estimate, predict_reply, measured_by, measured, checked, update_reply, distance_of}

-- ---- what a filter holds

abbrev pub filter_with : Vector → Vector → KalmanFilter
filter_with x p = record { state = x; covariance = p }

abbrev pub estimate_of : KalmanFilter → Estimate
estimate_of f = estimate f.state (rows_of 6 6 f.covariance)

abbrev pub filter_of : Estimate → KalmanFilter
filter_of e = filter_with e.state (flat_of 6 6 e.covariance)

unfoldable pub stored : Reply Estimate → Reply KalmanFilter
stored reply = and_then reply (λ e. given (filter_of e))

-- ---- the calls

-- 01, Batch, births: "then 5, 7"; a state, then its covariance, are checked
unfoldable pub created : Vector → Vector → Reply KalmanFilter
created x p = checked 6 x (rows_of 6 6 p) (given (filter_with x p))

-- over dt seconds with the acceleration density q
unfoldable pub predicted : Float → Float → KalmanFilter → Reply KalmanFilter
predicted dt q f = stored (predict_reply 6 (transition 3 dt) (noise 3 dt q) (estimate_of f))

-- with a position z, whose covariance r has 9 numbers
unfoldable pub updated_by_position : Vector → Vector → KalmanFilter → Reply KalmanFilter
updated_by_position z r f = stored (update_reply 3 6 z (selection 3 6 0) (rows_of 3 3 r) (estimate_of f))

-- with a velocity v along x and y, measured with the deviation std
unfoldable pub updated_by_velocity : Vector → Float → KalmanFilter → Reply KalmanFilter
updated_by_velocity v std f = stored (update_reply 2 6 v (selection 2 6 3) (isotropic 2 (mul binary64 std std)) (estimate_of f))

-- the same for a velocity that has passed its checks
unfoldable pub updated_by_checked_velocity : Vector → Float → KalmanFilter → Reply KalmanFilter
updated_by_checked_velocity v std f = stored (measured 2 6 v (selection 2 6 3) (isotropic 2 (mul binary64 std std)) (estimate_of f))

-- the squared distance of a position
unfoldable pub squared_mahalanobis : Vector → Vector → KalmanFilter → Reply Float
squared_mahalanobis z r f = checked 3 z (rows_of 3 3 r) (distance_of 3 6 z (selection 3 6 0) (rows_of 3 3 r) (estimate_of f))

-- ---- what a filter gives to every measurement of a position, and what a measurement that has passed its checks adds to it

-- H x, and (H P) Hᵀ as 9 numbers
unfoldable pub expected_of : KalmanFilter → Expected
expected_of f = record { position = times_vector 3 6 (selection 3 6 0) f.state; covariance = flat_of 3 3 (congruence 3 6 (selection 3 6 0) (rows_of 6 6 f.covariance)) }

abbrev pub innovation_from : Expected → Vector → Vector
innovation_from m z = minus_vector 3 z m.position

abbrev pub spread_from : Expected → Vector → Matrix
spread_from m r = symmetrized 3 (plus 3 3 (rows_of 3 3 m.covariance) (rows_of 3 3 r))

-- the factor of S, and the squared distance by it
unfoldable pub factor_from : Expected → Vector → Reply Matrix
factor_from m r = cholesky 3 (spread_from m r)

unfoldable pub distance_with : Expected → Vector → Reply Matrix → Reply Float
distance_with m z factor = and_then factor (λ l. distance_by 3 l (innovation_from m z))

unfoldable pub distance_from : Expected → Vector → Vector → Reply Float
distance_from m z r = squared_distance 3 (innovation_from m z) (spread_from m r)

unfoldable pub updated_from : Expected → Vector → Vector → KalmanFilter → Reply KalmanFilter
updated_from m z r f = stored (measured_by 3 6 (innovation_from m z) (spread_from m r) (selection 3 6 0) (rows_of 3 3 r) (estimate_of f))

-- ---- the answers

abbrev pub reply_of_filter : Result KalmanFilter Refusal → Reply KalmanFilter
reply_of_filter r = reply_by number_of r
