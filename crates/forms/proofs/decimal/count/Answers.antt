-- `count` has a branch for each equation of `natural_of`.
use Rattle.std.proofs.Common.{rules, arith, sym, ap, ◌∙◌}
use borrow.Author.Tests.{ltb-true, ltb-false}
use Rattle.forms.specs.Decimal.{natural_reply}
use Rattle.forms.proofs.decimal.Decimals as facts
use Rattle.forms.proofs.decimal.count.Goals as goal
use Rattle.forms.proofs.decimal.count.Goals.{in_default-via-then-w-lt2, in_default-via-else-w-lt2+in_default-1}

pub returns-in_default : goal.returns-in_default
returns-in_default c =
    let w = c.args.w.now in
    elim c.in_default.branch [
      | in_default-via-then-w-lt2 b ↦ c.value.ensures ∙ ap natural_reply (sym (facts.one_of_lem w (grind (arith, ltb-true, ltb-false))))
      | in_default-via-else-w-lt2+in_default-1 b ↦ c.value.ensures ∙ ap natural_reply (sym (facts.many_of w (grind (arith, ltb-true, ltb-false)) (grind (arith, ltb-true, ltb-false)) (search rules)))
    ]

pub returns-in-empty : goal.returns-in-empty
returns-in-empty c = ap natural_reply (sym (facts.none_of c.args.w.now (omega arith)))

pub returns-in-empty-2 : goal.returns-in-empty-2
returns-in-empty-2 c = ap natural_reply (sym (facts.led_of c.args.w.now (omega arith) (omega arith) (search rules)))
