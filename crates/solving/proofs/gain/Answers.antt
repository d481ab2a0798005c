use Rattle.std.proofs.Common.{rules, ◌∙◌}
use mathlib.Core.List.{[]}
use Rattle.matrix.proofs.Filled.{filled}
use Rattle.solving.proofs.Items.{gain_rows}
use Rattle.solving.proofs.gain.Goals as goal

pub returns : goal.returns
returns g c = filled _ _ _ _ (λ k b y q r. (search rules, search rules)) _ [] c.from_fn.ensures.items ∙ gain_rows g.row.N g.row.M c.args.l.columns c.args.pht
