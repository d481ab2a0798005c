use Rattle.std.proofs.Common.{rules, ◌∙◌}
use Rattle.std.specs.Float.{nan}
use lib.Ieee.{binary64, mul}
use Rattle.matrix.specs.Matrix.{entry, sum_of, row_times}
use Rattle.matrix.proofs.Filled.{filled}
use Rattle.selected.specs.Units.{unit_at, unit_vector}
use Rattle.selected.proofs.row_seen.Goals as goal

pub returns : goal.returns
unfolding row_times unit_vector
returns c = filled _ _ (λ j. sum_of 6 (λ i. mul binary64 (unit_at c.args.k i) (entry c.args.p i j))) 6 (λ k b y q r. (search rules, search rules)) _ nan c.from_fn.ensures.items
