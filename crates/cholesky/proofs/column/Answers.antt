use Rattle.std.proofs.Common.{rules}
use Rattle.std.specs.Float.{nan}
use Rattle.matrix.proofs.Filled.{filled}
use Rattle.cholesky.specs.Cholesky.{column_by}
use Rattle.cholesky.proofs.column.Goals as goal

pub returns : goal.returns
unfolding column_by
returns g c = filled _ _ _ _ (λ k b y q r. (search rules, search rules)) _ nan c.from_fn.ensures.items
