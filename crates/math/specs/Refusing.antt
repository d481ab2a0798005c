-- 01's numbers of the refusals.
use Rattle.std.specs.Prelude.{ℕ}
use Rattle.math.specs.declared.linalg.Refusal.{Refusal}
use Rattle.math.specs.declared.linalg.Refusal.TheVariants.{NonFiniteValue, NotSymmetric, NotPositiveDefinite, NonFiniteResult}

-- 01, Batch: "5 not finite (position, velocity, covariance), 6 not symmetric, 7 Cholesky fails"; "9 not finite", of a result.
abbrev pub number_of : Refusal → ℕ
number_of NonFiniteValue = 5
number_of NotSymmetric = 6
number_of NotPositiveDefinite = 7
number_of NonFiniteResult = 9
