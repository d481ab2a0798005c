-- The parts are put one after the other, and chained by `puts_then`.
use Rattle.std.proofs.Common.{arith, ap, ◌∙◌, List, ℕ, take}
use Rattle.lists.specs.Masks.{zipped}
use Rattle.assignment.specs.Listing.{pair_of, pairs_in}
use Rattle.text.specs.Text.{pairs_text, unmatched_text}
use Rattle.text.proofs.Texts.{puts_same, puts_then, puts_first, answer_is}
use Rattle.text.proofs.answer.Goals as goal

pub returns : goal.returns
returns c =
    let a = c.args.a in
    let p = c.put.ensures.place in
    let pairs =
    puts_same
    (ap (λ (l : List ℕ). pairs_text (zipped pair_of l c.first-2.result.now)) c.first.ensures.0
    ∙ ap (λ (l : List ℕ). pairs_text (zipped pair_of (take a.pair_count a.pair_rows) l)) c.first-2.ensures.0)
    c.put_pairs.ensures.0 in
    let rest =
    puts_same
    (ap (λ (l : List ℕ). unmatched_text l c.first-4.result.now) c.first-3.ensures.0
    ∙ ap (λ (l : List ℕ). unmatched_text (take a.unmatched_row_count a.unmatched_rows) l) c.first-4.ensures.0)
    c.put_unmatched.ensures.0 in
    puts_first c.new-text.ensures.0 c.new-text.ensures.1 (omega arith) (puts_same (answer_is (pairs_in a)) (puts_then (puts_then c.put.ensures pairs) rest))
