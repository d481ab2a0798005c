-- Lines that are refused, through the whole definition: 13, then 11, then 10.
use mathlib.Core.Path.{◌≡◌, refl}
use Prim.Native.String.{String}
use Rattle.forms.specs.Bytes.{bytes_of}
use Rattle.forms.specs.Shape.{form_of, bracketed as formed-bracket, inside as formed-inside, forms_of, behind as formed-behind, word, past_word}
use Rattle.forms.specs.Decimal.{decimal_of, minus, plus, natural_of, limited, value_of}
use Rattle.request.specs.Listed.{also, behind, up_to, listed, inside, bracketed}
use Rattle.request.specs.Request.{opening, word_of, dash, leaving, cost_of, cost_in, entry_of, blank, argument_of, begins, costed, columned, rowed, head_of, closing, closed, row_of, table_of, tabled, request_of, even}
use Rattle.text.specs.Text.{digits_of, refused_text, text_of}
use Rattle.line.specs.Line.{whole, formed, decided, reply_to, answer_of}

abbrev Refused : String → String → Type 0
Refused line number = answer_of (bytes_of line) ≡ bytes_of number

refused_lines : Refused "" "(refused 13)\n"
    × Refused "(assign 1 2 1 ((1  2)))\n" "(refused 13)\n"
    × Refused "(assign 65 1 1 ((01)))\n" "(refused 13)\n"
    × Refused "(assign 65 1 1 ())\n" "(refused 11)\n"
    × Refused "(assign 1 1 1 ())\n" "(refused 10)\n"
unfolding bytes_of opening answer_of reply_to decided formed whole text_of refused_text digits_of request_of tabled table_of row_of closed closing head_of rowed columned costed begins argument_of blank entry_of cost_in cost_of leaving dash word_of even bracketed inside listed up_to behind also decimal_of minus plus natural_of limited value_of form_of formed-bracket formed-inside forms_of formed-behind word past_word
refused_lines = (refl, refl, refl, refl, refl)
