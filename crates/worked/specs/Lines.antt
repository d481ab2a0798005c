-- 01, Checked on the floor: "That line; total 5." "0 rows, 3 columns: columns 0 1 2 unmatched. All forbidden, 2 by 2: all unmatched." "One cost 10, row cost 10: paired. Cost 11: both
-- unmatched." Each as the line that the program `assign` reads and the line that it writes. And the first one's total.
use Prim.Native.String.{String}
use Rattle.std.specs.Prelude.{List, [], ◌∷◌, Some}
use Rattle.forms.specs.Bytes.{bytes_of}
use Rattle.whole.specs.Integer.{natural}
use Rattle.line.specs.Line.{answer_of}
use Rattle.line_least.specs.LeastLine.{line_total}
use Rattle.worked.specs.Case.{Case, case}

abbrev line : String → String → Case
line read written = case (answer_of (bytes_of read)) (bytes_of written)

abbrev pub line_cases : List Case
line_cases =
    line "(assign 2 2 10 ((1 2) (- 4)))\n" "(answer (pairs (0 0) (1 1)) (rows) (columns))\n"
    ∷ case (line_total (bytes_of "(assign 2 2 10 ((1 2) (- 4)))\n")) (Some (natural 5))
    ∷ line "(assign 0 3 10 ())\n" "(answer (pairs) (rows) (columns 0 1 2))\n"
    ∷ line "(assign 2 2 10 ((- -) (- -)))\n" "(answer (pairs) (rows 0 1) (columns 0 1))\n"
    ∷ line "(assign 1 1 10 ((10)))\n" "(answer (pairs (0 0)) (rows) (columns))\n"
    ∷ line "(assign 1 1 10 ((11)))\n" "(answer (pairs) (rows 0) (columns 0))\n"
    ∷ []
