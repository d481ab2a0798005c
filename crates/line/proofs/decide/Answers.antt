-- Each branch is one of the tests of `decided`, in its order; the last is what `pair` writes.
use Rattle.std.proofs.Common.{rules}
use Rattle.text.proofs.Texts.{wrote_in}
use Rattle.line.proofs.Lines.{asked_got, nothing_asked, mul_few, decided_rows, decided_columns, decided_shape, decided_all}
use Rattle.line.proofs.decide.Goals as goal
use Rattle.line.proofs.decide.Goals.{then-asked-gt-MOST-via-then-asked-gt-MOST, then-asked-gt-MOST-via-else-asked-gt-MOST+then-asked-gt-MOST-2}

pub returns-in_default : goal.returns-in_default
returns-in_default c = wrote_in _ (nothing_asked _ c.in_default.ensures.is) c.write_refusal.ensures

pub returns-then-asked-gt-MOST : goal.returns-then-asked-gt-MOST
returns-then-asked-gt-MOST c =
    let got = asked_got _ _ _ _ _ c.in-Some.ensures.is in
    elim c.then-asked-gt-MOST.branch [
      | then-asked-gt-MOST-via-then-asked-gt-MOST w ↦ wrote_in _ (decided_rows _ _ _ _ _ got w.if-asked-gt-MOST.true) c.write_refusal-then-asked-gt-MOST.ensures
      | then-asked-gt-MOST-via-else-asked-gt-MOST+then-asked-gt-MOST-2 w ↦ wrote_in _ (decided_columns _ _ _ _ _ got w.if-asked-gt-MOST.false w.if-asked-gt-MOST-2.true) c.write_refusal-then-asked-gt-MOST.ensures
    ]

pub returns-then-not-asked : goal.returns-then-not-asked
returns-then-not-asked c =
    let got = asked_got _ _ _ _ _ c.in-Some.ensures.is in
    wrote_in _ (decided_shape _ _ _ _ _ got c.if-asked-gt-MOST.false c.if-asked-gt-MOST-2.false (search rules)) c.write_refusal-then-not-asked.ensures

pub returns : goal.returns
returns c =
    let got = asked_got _ _ _ _ _ c.in-Some.ensures.is in
    wrote_in _
    (decided_all _ _ _ _ _ got c.if-asked-gt-MOST.false c.if-asked-gt-MOST-2.false (search rules) _ (mul_few _ _ c.if-asked-gt-MOST.false c.if-asked-gt-MOST-2.false) c.in-Some.ensures.costs_are)
    c.pair.ensures
