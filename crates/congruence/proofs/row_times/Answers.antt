use Rattle.std.proofs.Common.{rules}
use Rattle.std.specs.Float.{nan}
use Rattle.matrix.specs.Matrix.{row_times}
use Rattle.matrix.proofs.Filled.{filled}
use Rattle.congruence.proofs.row_times.Goals as goal

pub returns : goal.returns
unfolding row_times
returns g c = filled _ _ _ _ (λ k b y q r. (search rules, search rules)) _ nan c.from_fn.ensures.items
