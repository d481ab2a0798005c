use Rattle.std.proofs.Common.{rules, ◌∙◌, SFits, w32}
use Rattle.std.proofs.lemmas.Int.{to_z-of_z}
use Rattle.request.proofs.Numbers.{converted, count_none, count_below, count_some}
use Rattle.request.proofs.words.count.Goals as goal

pub returns-in_err-number : goal.returns-in_err-number
returns-in_err-number c = rw c.from_residual.ensures (count_none c.args.s.now c.args.at c.in_err-number.ensures)

pub returns-in_err-value : goal.returns-in_err-value
returns-in_err-value c =
    let z = c.in_ok-number.number.value in
    let f : SFits w32 z = search rules in
    let e = rw (to_z-of_z w32 z f) at c.try_from.ensures in
    rw c.from_residual-in_err-value.ensures (count_below c.args.s.now c.args.at c.in_ok-number.number c.in_ok-number.ensures (c.in_err-value.ensures.value ∙ converted z _ f e))

pub returns : goal.returns
returns c =
    let z = c.in_ok-number.number.value in
    let f : SFits w32 z = search rules in
    let e = rw (to_z-of_z w32 z f) at c.try_from.ensures in
    count_some c.args.s.now c.args.at c.in_ok-number.number c.in_ok-value.value c.in_ok-number.ensures (c.in_ok-value.ensures.value ∙ converted z _ f e)
