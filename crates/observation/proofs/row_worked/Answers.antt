use Rattle.std.proofs.Common.{rules, ◌∙◌}
use Rattle.std.specs.Float.{nan}
use Rattle.matrix.proofs.Filled.{filled}
use Rattle.observation.proofs.Seen.{row_seen_is}
use Rattle.observation.proofs.row_worked.Goals as goal

pub returns : goal.returns
returns g c = filled _ _ _ _ (λ k b y q r. (search rules, search rules)) _ nan c.from_fn.ensures.items ∙ row_seen_is g.row.N 6 g.row.FROM c.args.x
