-- What `factor_and_test` answers.
use Rattle.std.specs.Prelude.{◌≡◌}
use Rattle.matrix.specs.Matrix.{Matrix}
use Rattle.cholesky.specs.Cholesky.{cholesky}
use Rattle.cholesky.specs.Factor.{reply_of_factor}
use Rattle.cholesky.specs.Definite.{factorable, reply_of_found}
use Rattle.factors.specs.declared.FactorAndTest.{FactorAndTest}

-- the factor of s, and whether r has one
pub record Answers (s r : Matrix) (b : FactorAndTest) : Type 0 where
  pub is : reply_of_factor b.factor ≡ cholesky 3 s
  pub found : reply_of_found b.definite ≡ factorable 3 r
