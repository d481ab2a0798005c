-- 01, Checked on the floor: "Root of 4 is 2. Root of 2 has bits 3FF6A09E667F3BCD (hexadecimal)."
use Rattle.std.specs.Prelude.{List, [], ◌∷◌}
use Rattle.std.specs.Float.{binary64}
use Rattle.std.specs.Float.Ieee.{of_bits}
use Rattle.number.specs.Reply.{given}
use Rattle.square_root.specs.Root.{root_reply}
use Rattle.worked.specs.Case.{Case, case}

abbrev pub root_cases : List Case
root_cases =
    case (root_reply (of_bits binary64 0x4010_0000_0000_0000)) (given (of_bits binary64 0x4000_0000_0000_0000))
    ∷ case (root_reply (of_bits binary64 0x4000_0000_0000_0000)) (given (of_bits binary64 0x3ff6_a09e_667f_3bcd))
    ∷ []
