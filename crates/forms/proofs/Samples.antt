-- 01's line, and words of each kind, through the definitions.
use Rattle.std.specs.Prelude.{None, Some}
use mathlib.Core.Path.{◌≡◌, refl}
use mathlib.Core.List.{[], ◌∷◌}
use lib.IntN.{pos, negsuc}
use Rattle.forms.specs.Decimal.{decimal_of, minus, natural_of, limited, value_of, plus}
use Rattle.forms.specs.Shape.{form_of, bracketed, inside, forms_of, behind, word, past_word}

-- `(assign 2 2 10 ((1 2) (- 4)))` and a newline; five brackets deep; two blanks
lines : (form_of 4 (40 ∷ 97 ∷ 115 ∷ 115 ∷ 105 ∷ 103 ∷ 110 ∷ 32 ∷ 50 ∷ 32 ∷ 50 ∷ 32 ∷ 49 ∷ 48 ∷ 32 ∷ 40 ∷ 40 ∷ 49 ∷ 32 ∷ 50 ∷ 41 ∷ 32 ∷ 40 ∷ 45 ∷ 32 ∷ 52 ∷ 41 ∷ 41 ∷ 41 ∷ 10 ∷ []) ≡ Some (10 ∷ []))
    × (form_of 4 (40 ∷ 40 ∷ 40 ∷ 40 ∷ 40 ∷ 41 ∷ 41 ∷ 41 ∷ 41 ∷ 41 ∷ []) ≡ None) × (form_of 4 (40 ∷ 97 ∷ 32 ∷ 32 ∷ 97 ∷ 41 ∷ []) ≡ None)
unfolding form_of bracketed inside forms_of behind word past_word
lines = (refl, refl, refl)

-- `-12`, `0`, `1000000`; not `-0`, `007`, `1000001`, `` and `1a`
numbers : (decimal_of (45 ∷ 49 ∷ 50 ∷ []) ≡ Some (negsuc 11)) × (decimal_of (48 ∷ []) ≡ Some (pos 0)) × (decimal_of (49 ∷ 48 ∷ 48 ∷ 48 ∷ 48 ∷ 48 ∷ 48 ∷ []) ≡ Some (pos 1000000))
    × (decimal_of (45 ∷ 48 ∷ []) ≡ None) × (decimal_of (48 ∷ 48 ∷ 55 ∷ []) ≡ None) × (decimal_of (49 ∷ 48 ∷ 48 ∷ 48 ∷ 48 ∷ 48 ∷ 49 ∷ []) ≡ None) × (decimal_of [] ≡ None) × (decimal_of (49 ∷ 97 ∷ []) ≡ None)
unfolding decimal_of minus natural_of limited value_of plus
numbers = (refl, refl, refl, refl, refl, refl, refl, refl)
