use Rattle.std.proofs.Common.{rules}
use Rattle.std.specs.Float.{nan}
use Rattle.matrix.specs.Matrix.{item}
use Rattle.matrix.proofs.Filled.{filled}
use Rattle.transition.specs.Glide.{glided_item, glided_row}
use Rattle.transition.proofs.glide_row.Goals as goal

pub returns : goal.returns
unfolding glided_row
returns c = filled _ _ (glided_item 3 c.args.dt (λ k. item c.args.x k)) 6 (λ k b y q r. (search rules, search rules)) _ nan c.from_fn.ensures.items
