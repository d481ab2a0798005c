use Rattle.std.proofs.Common.{rules}
use Rattle.std.specs.Float.{nan}
use Rattle.matrix.proofs.Filled.{filled}
use Rattle.selected.specs.Units.{read_row}
use Rattle.observation.proofs.row_read.Goals as goal

pub returns : goal.returns
unfolding read_row
returns g c = filled _ _ _ _ (λ k b y q r. (search rules, search rules)) _ nan c.from_fn.ensures.items
