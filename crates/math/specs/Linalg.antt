-- What the functions of `linalg` answer, in 01's numbers.
use Rattle.math.specs.declared.linalg.Refusal.{Refusal}
use Rattle.std.specs.Prelude.{ℕ, cond, Float, Result}
use Rattle.std.specs.Float.Ieee.{lt}
use Rattle.std.specs.Float.Ieee.Scale.{finite}
use Rattle.number.specs.Reply.{Reply, given, refuse_unless, and_then, reply_by}
use Rattle.matrix.specs.Matrix.{Vector, Matrix, nought, dot}
use Rattle.math.specs.Refusing.{number_of}
use Rattle.finite.specs.Finite.{finite_vector, finite_matrix}
use Rattle.symmetry.specs.Symmetry.{is_symmetric}
use Rattle.cholesky.specs.Cholesky.{cholesky}
use Rattle.cholesky.specs.Definite.{factorable}
use Rattle.solving.specs.Solving.{solved}

-- ---- definitions

-- a reply, where the entries may be a covariance's
unfoldable pub entries_checked : {A : Type 0} → ℕ → Matrix → Reply A → Reply A
entries_checked n a reply = refuse_unless (finite_matrix n n a) 5 (refuse_unless (is_symmetric n a) 6 reply)

abbrev pub entries_reply : ℕ → Matrix → Reply (Unit {0})
entries_reply n a = entries_checked n a (given tt)

-- 01, Filter: "Covariance checks run finite, symmetric, Cholesky."
unfoldable pub validated : ℕ → Matrix → Reply (Unit {0})
validated n a = entries_checked n a (factorable n a)

-- 01, Matrix: "Squared distance that isn't above 0 is given as +0." 01, Batch: "7, 9 not finite".
unfoldable pub distance_reply : Float → Reply Float
distance_reply d = refuse_unless (finite d) 9 (given (cond (lt nought d) d nought))

-- u times the solution x of L Lᵀ x = u, for the factor's columns l
unfoldable pub distance_by : ℕ → Matrix → Vector → Reply Float
distance_by n l u = refuse_unless (finite_vector n (solved n l u)) 9 (distance_reply (dot n u (solved n l u)))

unfoldable pub squared_distance : ℕ → Vector → Matrix → Reply Float
squared_distance n u s = and_then (cholesky n s) (λ l. distance_by n l u)

-- ---- the answers

abbrev pub reply_of_validity : Result (Unit {0}) Refusal → Reply (Unit {0})
reply_of_validity r = reply_by number_of r

abbrev pub reply_of_distance : Result Float Refusal → Reply Float
reply_of_distance r = reply_by number_of r
