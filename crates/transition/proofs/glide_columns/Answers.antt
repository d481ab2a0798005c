use Rattle.std.proofs.Common.{rules, []}
use Rattle.matrix.specs.Matrix.{row}
use Rattle.matrix.proofs.Filled.{filled}
use Rattle.transition.specs.Glide.{glided_row, glided_columns}
use Rattle.transition.proofs.glide_columns.Goals as goal

pub returns : goal.returns
unfolding glided_columns
returns c = filled _ _ (λ i. glided_row 6 3 c.args.dt (row c.args.m i)) 6 (λ k b y q r. (search rules, search rules)) _ [] c.from_fn.ensures.items
