-- What a C caller sees of a filter's call: a code, and what stands in the arrays that it lent.
use Rattle.std.specs.Prelude.{ℕ, ◌≡◌, Float}
use Rattle.number.specs.Reply.{Reply, code_of, left_in}
use Rattle.matrix.specs.Matrix.{Vector}
use Rattle.filter.specs.declared.KalmanFilter.{KalmanFilter}
use Rattle.filter.specs.declared.Expected.{Expected}
use Rattle.filter.specs.Filter.{filter_with}

-- 01, What each call declines: "A refusal answers its number and changes nothing lent or held." The arrays held x and p before, and hold x' and p' after.
pub record StepCall (reply : Reply KalmanFilter) (r : ℕ) (x p x' p' : Vector) : Type 0 where
  pub code : r ≡ code_of reply
  pub state : x' ≡ (left_in reply (filter_with x p)).state
  pub covariance : p' ≡ (left_in reply (filter_with x p)).covariance

-- a distance behind a pointer
pub record DistanceCall (reply : Reply Float) (r : ℕ) (before after : Float) : Type 0 where
  pub code : r ≡ code_of reply
  pub out : after ≡ left_in reply before

-- what a filter expects, in two arrays
pub record ExpectedCall (m : Expected) (h s : Vector) : Type 0 where
  pub position : h ≡ m.position
  pub spread : s ≡ m.covariance

abbrev pub expected_with : Vector → Vector → Expected
expected_with h s = record { position = h; covariance = s }
