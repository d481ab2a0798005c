-- Every case of the table holds. Assumes nothing.
use mathlib.Core.List.{List, [], ◌∷◌, ◌++◌}
use Rattle.worked.specs.Case.{Case, All}
use Rattle.worked.specs.Lines.{line_cases}
use Rattle.worked.specs.Roots.{root_cases}
use Rattle.worked.specs.Filters.{filter_cases}
use Rattle.worked.specs.Lifecycles.{lifecycle_cases}
use Rattle.worked.specs.Sequences.{sequence_cases}
use Rattle.worked.specs.Table.{table}
use Rattle.worked.proofs.Lines.{lines_hold}
use Rattle.worked.proofs.Parts.{parts_hold}
use Rattle.worked.proofs.Sequences.{sequences_hold}

all_append : (a b : List Case) → All a → All b → All (a ++ b)
all_append [] b x y = y
all_append (c ∷ a) b (h, x) y = (h, all_append a b x y)

pub proved : All table
proved =
    all_append line_cases ((root_cases ++ filter_cases ++ lifecycle_cases) ++ sequence_cases) lines_hold
    (all_append (root_cases ++ filter_cases ++ lifecycle_cases) sequence_cases parts_hold sequences_hold)
