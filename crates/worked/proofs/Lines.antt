-- The cases of lines hold, by computation.
use mathlib.Core.Path.{refl}
use lib.Count.{count_trailing_zeros}
use lib.Ieee.{of_int, of_bits, of_fields, round, add, sub, mul, lt, size, units, odd, span, climb, sum, neg}
use Rattle.whole.specs.Integer.{sum as sum_of, times}
use Rattle.whole.specs.Whole.{whole_of}
use Rattle.kuhn_munkres.specs.Steps.{relax, scan, shift_at, shift, mark, look, go_on, step, search, back, start, settle, fresh, enter, leave, rows}
use Rattle.kuhn_munkres.specs.Square.{entry}
use Rattle.lists.specs.First.{any}
use Rattle.lists.specs.Masks.{left_by, spread, up_from, zipped}
use Rattle.kuhn_munkres.specs.Groups.{relabel, relabelled, hit, hits, joined_to, join, joins, labels, is_label}
use Rattle.kuhn_munkres.specs.Assignment.{rows_of, in_one, largest, largest_of, sentinel_of, taker_of, takers_in, solved, named, group_in, groups, pairing, takers_reply, column_of, pair_at, free_at, pairs_from, free_rows, free_columns, pairs_of, assignment_reply}
use Rattle.least.specs.Least.{costs_of, unmatched, total}
use Rattle.forms.specs.Bytes.{bytes_of}
use Rattle.forms.specs.Shape.{form_of, bracketed as formed-bracket, inside as formed-inside, forms_of, behind as formed-behind, word, past_word}
use Rattle.forms.specs.Decimal.{decimal_of, minus, plus, natural_of, limited, value_of}
use Rattle.request.specs.Listed.{also, behind, up_to, listed, inside, bracketed}
use Rattle.request.specs.Request.{opening, word_of, dash, leaving, cost_of, cost_in, entry_of, blank, argument_of, begins, costed, columned, rowed, head_of, closing, closed, row_of, table_of, tabled, request_of, even}
use Rattle.text.specs.Text.{digits_of, item_text, list_text, pair_text, pairs_text, unmatched_text, answer_text, refused_text, text_of}
use Rattle.line.specs.Line.{whole, formed, decided, reply_to, answer_of}
use Rattle.line_least.specs.LeastLine.{total_for, line_total}
use Rattle.worked.specs.Case.{All}
use Rattle.worked.specs.Lines.{line_cases}

pub lines_hold : All line_cases
unfolding line_total total_for total costs_of unmatched times sum_of whole_of bytes_of opening answer_of reply_to decided formed whole text_of refused_text answer_text unmatched_text pairs_text pair_text list_text item_text digits_of request_of tabled table_of row_of closed closing head_of rowed columned costed begins argument_of blank entry_of cost_in cost_of leaving dash word_of even bracketed inside listed up_to behind also decimal_of minus plus natural_of limited value_of form_of formed-bracket formed-inside forms_of formed-behind word past_word assignment_reply takers_reply pairing groups group_in solved takers_in taker_of named rows_of in_one largest largest_of sentinel_of column_of pair_at free_at pairs_from free_rows free_columns pairs_of relabel relabelled hit hits joined_to join joins labels is_label left_by spread any up_from zipped entry relax scan shift_at shift mark look go_on step search back start settle fresh enter leave rows of_int of_bits of_fields round add sub mul lt size units odd span climb count_trailing_zeros sum neg
lines_hold = (refl, (refl, (refl, (refl, (refl, (refl, tt))))))
