use mathlib.Core.Path.{sym, ◌∙◌}
use Rattle.spawning.specs.Ruling.{ruling_of}
use Rattle.spawning.proofs.ruling.rule.Goals as goal

pub returns-then-is_low : goal.returns-then-is_low
unfolding ruling_of
returns-then-is_low c = rw (sym c.is_low.ensures ∙ c.if-is_low.true)

pub returns-then-is_suppressing : goal.returns-then-is_suppressing
unfolding ruling_of
returns-then-is_suppressing c =
    rw (sym c.is_low.ensures ∙ c.if-is_low.false, sym c.is_suppressing.ensures ∙ c.if-is_suppressing.true) c.suppress.ensures

pub returns : goal.returns
unfolding ruling_of
returns c =
    rw (sym c.is_low.ensures ∙ c.if-is_low.false, sym c.is_suppressing.ensures ∙ c.if-is_suppressing.false)
