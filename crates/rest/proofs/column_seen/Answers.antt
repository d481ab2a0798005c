use Rattle.std.proofs.Common.{rules, ◌∙◌}
use Rattle.std.specs.Float.{nan}
use Rattle.matrix.proofs.Tabulated.{sum_tabulated}
use Rattle.matrix.proofs.Filled.{filled}
use Rattle.rest.proofs.column_seen.Goals as goal

pub returns : goal.returns
returns g c = c.sum.ensures ∙ sum_tabulated _ _ _ (filled _ _ _ _ (λ k b y q r. (search rules, search rules)) _ nan c.from_fn.ensures.items)
