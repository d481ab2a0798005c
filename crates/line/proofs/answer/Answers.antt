-- A line that is no form is refused with 13; another one is what `decide` writes.
use borrow.Author.Rules.{rules}
use Rattle.text.proofs.Texts.{wrote_in}
use Rattle.line.proofs.Lines.{not_formed, by_request}
use Rattle.line.proofs.answer.Goals as goal

pub returns-else-is_formed : goal.returns-else-is_formed
returns-else-is_formed c =
    let input = c.args.input.now in
    wrote_in _ (not_formed input (search rules)) c.write_refusal.ensures

pub returns-then-is_formed : goal.returns-then-is_formed
returns-then-is_formed c =
    let input = c.args.input.now in
    wrote_in _ (by_request input (search rules)) c.decide.ensures
