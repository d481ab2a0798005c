use Rattle.std.proofs.Common.{rules}
use mathlib.Core.List.{[]}
use Rattle.matrix.specs.Matrix.{row}
use Rattle.matrix.proofs.Filled.{filled}
use Rattle.selected.specs.Units.{read_row, read_rows}
use Rattle.observation.proofs.cross_read.Goals as goal

pub returns : goal.returns
unfolding read_rows
returns g c = filled _ _ (λ i. read_row g.row.N g.row.FROM (row c.args.p i)) 6 (λ k b y q r. (search rules, search rules)) _ [] c.from_fn.ensures.items
