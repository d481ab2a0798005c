use Rattle.std.proofs.Common.{rules}
use mathlib.Core.List.{[]}
use Rattle.matrix.proofs.Filled.{filled}
use Rattle.matrix.specs.Flat.{rows_of}
use Rattle.flat.proofs.rows.Goals as goal

pub returns : goal.returns
unfolding rows_of
returns g c = filled _ _ _ _ (λ k b y q r. (search rules, search rules)) _ [] c.from_fn.ensures.items
