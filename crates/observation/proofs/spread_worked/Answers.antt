use Rattle.std.proofs.Common.{rules, ◌∙◌}
use mathlib.Core.List.{[]}
use Rattle.matrix.proofs.Filled.{filled}
use Rattle.observation.proofs.Seen.{spread_is}
use Rattle.observation.proofs.spread_worked.Goals as goal

pub returns : goal.returns
returns g c = filled _ _ _ _ (λ k b y q r. (search rules, search rules)) _ [] c.from_fn.ensures.items ∙ spread_is g.row.N 6 g.row.FROM c.args.p
