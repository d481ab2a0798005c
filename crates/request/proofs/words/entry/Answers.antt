-- The word ends where `past_word` says.
use Rattle.request.proofs.Numbers.{entry_none, entry_some}
use Rattle.request.proofs.words.entry.Goals as goal

pub returns-in_err-value : goal.returns-in_err-value
returns-in_err-value c = rw c.from_residual.ensures (entry_none c.args.s.now c.args.at c.past_word-end.result c.requires c.past_word-end.ensures c.in_err-value.ensures)

pub returns : goal.returns
returns c = entry_some c.args.s.now c.args.at c.past_word-end.result c.requires c.past_word-end.ensures c.in_ok-value.value c.in_ok-value.ensures
