-- The loop keeps that the digits that are left, behind those of the value `v`, make what the whole word makes, and that `v` is in the range.
use Rattle.std.proofs.Common.{rules, arith, ◌≡◌, true, false, sym, ap, ◌∙◌, get_or}
use Rattle.std.specs.Char.{is_ascii_digit}
use Rattle.forms.specs.Decimal.{limited, natural_reply}
use Rattle.forms.proofs.decimal.Decimals as facts
use Rattle.forms.proofs.decimal.value.Goals as goal

pub returns-then-not-is_ascii_digit : goal.returns-then-not-is_ascii_digit
returns-then-not-is_ascii_digit c =
    let w = c.args.w.now in
    let d : is_ascii_digit (get_or w c.loop-b.b-index 0) ≡ false = search rules in
    ap natural_reply (sym (facts.other w c.loop-b.b-index c.loop-b.v c.loop-b-test.true d) ∙ c.loop-b.invariant.1)

pub returns-then-v-gt-LARGEST : goal.returns-then-v-gt-LARGEST
returns-then-v-gt-LARGEST c =
    let w = c.args.w.now in
    let d : is_ascii_digit (get_or w c.loop-b.b-index 0) ≡ true = search rules in
    ap natural_reply (sym (facts.too_large w c.loop-b.b-index c.loop-b.v c.loop-b-test.true d (omega arith)) ∙ c.loop-b.invariant.1)

pub loop-b-preserved : goal.loop-b-preserved
loop-b-preserved c =
    let w = c.args.w.now in
    let d : is_ascii_digit (get_or w c.loop-b.b-index 0) ≡ true = search rules in
    (omega arith, rw c.from.ensures (ap limited (sym (facts.step w c.loop-b.b-index c.loop-b.v c.loop-b-test.true d)) ∙ c.loop-b.invariant.1))

pub returns : goal.returns
returns c =
    let w = c.args.w.now in
    ap natural_reply (sym (facts.ended w c.loop-b.b-index c.loop-b.v c.loop-b-test.false c.loop-b.invariant.0) ∙ c.loop-b.invariant.1)
