use Rattle.std.proofs.Common.{◌≡◌, ◌-◌, length, take}
use Rattle.cholesky.specs.Cholesky.{columns_from}
use Rattle.cholesky.specs.Definite.{whether_given, factorable}
use Rattle.cholesky.proofs.has_factor.Given as goal

abbrev pub invariant-loop-j : goal.invariant-loop-j
invariant-loop-j g l = (length l.l ≡ g.row.N) × (factorable g.row.N l.a ≡ whether_given (columns_from (g.row.N - l.j) g.row.N l.a l.j (take l.j l.l)))
