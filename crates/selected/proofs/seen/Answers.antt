use Rattle.std.proofs.Common.{rules, ◌∙◌}
use Rattle.std.specs.Float.{nan}
use Prim.Native.Nat.{ℕ}
use lib.Ieee.{Float, binary64, mul}
use Rattle.matrix.specs.Matrix.{item}
use Rattle.matrix.proofs.Tabulated.{sum_tabulated}
use Rattle.matrix.proofs.Filled.{filled}
use Rattle.selected.specs.Units.{unit_at}
use Rattle.selected.proofs.seen.Goals as goal

pub returns : goal.returns
returns c =
    let term : ℕ → Float = λ j. mul binary64 (item c.args.x j) (unit_at c.args.k j) in
    c.sum.ensures ∙ sum_tabulated 6 term _ (filled _ _ term 6 (λ k b y q r. (search rules, search rules)) _ nan c.from_fn.ensures.items)
