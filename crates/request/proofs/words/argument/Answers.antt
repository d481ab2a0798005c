-- The word ends where `past_word` says; each branch is one equation of `argument_of`.
use Rattle.std.proofs.Common.{rules, SFits, w32}
use Rattle.std.proofs.lemmas.Int.{to_z-of_z}
use Rattle.forms.proofs.decimal.Decimals.{no_value, value_is}
use Rattle.request.proofs.Numbers.{argument_ends, argument_other, argument_none, argument_some}
use Rattle.request.proofs.words.argument.Goals as goal

pub returns-in_err-get : goal.returns-in_err-get
returns-in_err-get c = rw c.from_residual.ensures (argument_ends c.args.s.now c.args.at c.past_word-end.result c.requires c.past_word-end.ensures (search rules))

pub returns-then-branch-ne32 : goal.returns-then-branch-ne32
returns-then-branch-ne32 c = argument_other c.args.s.now c.args.at c.past_word-end.result c.requires c.past_word-end.ensures (search rules) (search rules)

pub returns-in_err-value : goal.returns-in_err-value
returns-in_err-value c =
    rw c.from_residual-in_err-value.ensures (argument_none c.args.s.now c.args.at c.past_word-end.result c.requires c.past_word-end.ensures (no_value _ c.in_err-value.ensures))

pub returns : goal.returns
returns c =
    let z = c.in_ok-value.value in
    let f : SFits w32 z = search rules in
    rw (to_z-of_z w32 z f) (argument_some c.args.s.now c.args.at c.past_word-end.result c.requires c.past_word-end.ensures (search rules) (search rules) z (value_is _ z c.in_ok-value.ensures))
