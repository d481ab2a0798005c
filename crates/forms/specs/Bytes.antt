-- Texts as bytes, so that what is read and written stands in the definitions as it looks.
use Rattle.std.specs.Prelude.{ℕ, List, [], ◌∷◌}
use Prim.Native.Char.{code}
use Prim.Native.String.{String, [] as no_more, ◌∷◌ as ◌then◌}

-- each character of the text is one byte
unfoldable pub bytes_of : String → List ℕ
bytes_of no_more = []
bytes_of (c then s) = code c ∷ bytes_of s
