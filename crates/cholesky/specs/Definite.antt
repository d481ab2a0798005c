-- Whether a matrix has a Cholesky factor, for any size.
use Rattle.std.specs.Prelude.{ℕ, Bool, true, false}
use Rattle.number.specs.Reply.{Reply, refused, given, and_then}
use Rattle.matrix.specs.Matrix.{Matrix}
use Rattle.cholesky.specs.Cholesky.{cholesky}

-- whether there is a value
abbrev pub whether_given : {A : Type 0} → Reply A → Reply (Unit {0})
whether_given r = and_then r (λ a. given tt)

-- whether a matrix has a factor
unfoldable pub factorable : ℕ → Matrix → Reply (Unit {0})
factorable n a = whether_given (cholesky n a)

-- whether a factor was found
abbrev pub reply_of_found : Bool → Reply (Unit {0})
reply_of_found true = given tt
reply_of_found false = refused 7
