use Rattle.std.proofs.Common.{◌+◌, ◌-◌, ◌++◌, ap, sym, ◌∙◌, ℕ, List, length, slice_range, append-nil}
use Rattle.std.proofs.lemmas.List.Folds.{drop_split}
use lib.Seq.{drop-length}
use Rattle.forms.specs.Shape.{past_word}
use Rattle.forms.proofs.Shapes.{word_long}
use Rattle.forms.proofs.past_word.Goals as goal

pub returns-in-Some : goal.returns-in-Some
returns-in-Some c =
    let s = c.args.s.now in
    let from = c.args.from in
    let part = c.in-Some.ensures.lookup.0 in
    let whole = drop_split s from (length s) part.0 ∙ ap (λ (l : List ℕ). slice_range s from (length s) ++ l) (drop-length s) ∙ append-nil (slice_range s from (length s)) in
    ap (λ (n : ℕ). from + n) (c.word_length.ensures ∙ word_long c.in-Some.rest.now)
    ∙ ap (λ (l : List ℕ). from + (length l - length (past_word l))) (part.2 ∙ sym whole)
