-- What a factor, or a column that fails, says of the test. For any size. Assumes nothing.
use mathlib.Core.Path.{◌≡◌, refl, ap}
use mathlib.Core.Bool.{Bool, true, false}
use Prim.Native.Nat.{ℕ}
use lib.Ieee.{lt}
use Rattle.number.specs.Reply.{refused}
use Rattle.square_root.proofs.Cases.{above_given}
use Rattle.matrix.specs.Matrix.{Matrix, nought}
use Rattle.cholesky.specs.Cholesky.{remainder, columns_from, cholesky}
use Rattle.cholesky.proofs.Factors.{pivot_given, pivot_low, column_given, column_refused}
use Rattle.cholesky.specs.Definite.{whether_given, factorable, reply_of_found}

module _ (n : ℕ) (a : Matrix) where
  pub no_factor : {m : ℕ} → refused m ≡ cholesky n a → refused m ≡ factorable n a
  unfolding factorable
  no_factor e = rw (← e)

-- ---- the last column, whose root is asked for and not read

last_by : (n : ℕ) (a : Matrix) (j : ℕ) (columns : Matrix) (t : Bool) → lt nought (remainder a columns j j) ≡ t → reply_of_found t ≡ whether_given (columns_from 1 n a j columns)
unfolding columns_from
last_by n a j columns true e = let g = above_given (remainder a columns j j) e in ap whether_given (column_given 0 n a j columns (pivot_given (remainder a columns j j) e g.is) refl)
last_by n a j columns false e = ap whether_given (column_refused 0 n a j columns (pivot_low (remainder a columns j j) e))

pub last_column : (n : ℕ) (a : Matrix) (j : ℕ) (columns : Matrix) → reply_of_found (lt nought (remainder a columns j j)) ≡ whether_given (columns_from 1 n a j columns)
last_column n a j columns = last_by n a j columns (lt nought (remainder a columns j j)) refl
