use Rattle.std.proofs.Common.{◌≡◌, ◌-◌, length, take}
use Rattle.cholesky.specs.Cholesky.{columns_from, cholesky}
use Rattle.cholesky.proofs.cholesky.Given as goal

abbrev pub invariant-loop-j : goal.invariant-loop-j
invariant-loop-j g l = (length l.columns ≡ g.row.N) × (cholesky g.row.N l.a ≡ columns_from (g.row.N - l.j) g.row.N l.a l.j (take l.j l.columns))
