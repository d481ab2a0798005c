-- Names as numbers.
use Rattle.std.specs.Prelude.{List, ℕ, take, drop}
use Rattle.std.specs.Int.{from_be_bytes}
use mir.Syntax.{w64}

-- the number of the eight bytes from `at` on, the first the highest
abbrev pub word_in : List ℕ → ℕ → ℕ
word_in bytes at = from_be_bytes w64 (take 8 (drop at bytes))
