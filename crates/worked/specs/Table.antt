-- All the cases that 01 marks as proved, in its order; then a sequence of batches by hand.
use Rattle.std.specs.Prelude.{List, ◌++◌}
use Rattle.worked.specs.Case.{Case}
use Rattle.worked.specs.Lines.{line_cases}
use Rattle.worked.specs.Roots.{root_cases}
use Rattle.worked.specs.Filters.{filter_cases}
use Rattle.worked.specs.Lifecycles.{lifecycle_cases}
use Rattle.worked.specs.Sequences.{sequence_cases}

abbrev pub table : List Case
table = line_cases ++ (root_cases ++ filter_cases ++ lifecycle_cases) ++ sequence_cases
