-- The loop keeps that what is told of the entries from `i` on, on top of those stored so far, is what is told of the whole row (`walk_…` in Lists has a law for each way out).
use Rattle.std.proofs.Common.{rules, arith, ◌<◌, ◌+◌, refl, ap, sym, ◌∙◌, List, length, drop, Float}
use lib.ListN.{length-set}
use Rattle.request.specs.Listed.{listed, told}
use Rattle.request.specs.Request.{entry_of, Stored, store_one}
use Rattle.request.proofs.Lists.{found_got, found_none, walk_refused, walk_ends, walk_closed, walk_more, walk_other}
use Rattle.request.proofs.Tables.{entry_leaves, row_refused, row_read}
use Rattle.request.proofs.table.entries.Goals as goal

pub loop-cost-init : goal.loop-cost-init
loop-cost-init c = (search rules, search rules, c.told-costs, refl)

pub returns-in_err-cost : goal.returns-in_err-cost
returns-in_err-cost c =
    let s = c.args.s.now in
    rw c.from_residual.ensures
    (row_refused _ c.args.from _
    (sym c.loop-cost.invariant.3
    ∙ walk_refused (store_one c.args.k) entry_of entry_leaves s c.loop-cost.i (record { count = c.loop-cost.n; costs = c.loop-cost.costs }) (found_none s _ c.in_err-cost.ensures))
    c.loop-cost.invariant.2)

pub returns-in_err-next : goal.returns-in_err-next
returns-in_err-next c =
    let s = c.args.s.now in
    let v = c.in_ok-cost.cost in
    let g = found_got entry_of entry_leaves s c.loop-cost.i v c.in_ok-cost.ensures in
    rw c.from_residual-in_err-next.ensures
    (row_refused _ c.args.from _
    (sym c.loop-cost.invariant.3
    ∙ walk_ends (store_one c.args.k) entry_of entry_leaves s c.loop-cost.i (record { count = c.loop-cost.n; costs = c.loop-cost.costs }) v.value v.end g (search rules))
    c.loop-cost.invariant.2)

pub returns-in-41 : goal.returns-in-41
returns-in-41 c =
    let s = c.args.s.now in
    let v = c.in_ok-cost.cost in
    let k = c.args.k in
    let g = found_got entry_of entry_leaves s c.loop-cost.i v c.in_ok-cost.ensures in
    let a : Stored = record { count = c.loop-cost.n; costs = c.loop-cost.costs } in
    row_read _ c.args.from _ (store_one k a v.value) (v.end + 1)
    (sym c.loop-cost.invariant.3 ∙ walk_closed (store_one k) entry_of entry_leaves s c.loop-cost.i a v.value v.end g (search rules) (search rules))
    c.store.ensures
    (ap length c.store.ensures ∙ length-set c.loop-cost.costs _ _ ∙ c.loop-cost.invariant.2)
    (omega arith)

pub returns-in_default : goal.returns-in_default
returns-in_default c =
    let s = c.args.s.now in
    let v = c.in_ok-cost.cost in
    let g = found_got entry_of entry_leaves s c.loop-cost.i v c.in_ok-cost.ensures in
    row_refused _ c.args.from _
    (sym c.loop-cost.invariant.3
    ∙ walk_other (store_one c.args.k) entry_of entry_leaves s c.loop-cost.i (record { count = c.loop-cost.n; costs = c.loop-cost.costs }) v.value v.end g (search rules) (search rules) (search rules))
    (ap length c.store.ensures ∙ length-set c.loop-cost.costs _ _ ∙ c.loop-cost.invariant.2)

pub loop-cost-smaller : goal.loop-cost-smaller
loop-cost-smaller c =
    let g = found_got entry_of entry_leaves c.args.s.now c.loop-cost.i c.in_ok-cost.cost c.in_ok-cost.ensures in
    let h : c.in_ok-cost.cost.end < length c.args.s.now = search rules in
    omega arith

pub loop-cost-preserved : goal.loop-cost-preserved
loop-cost-preserved c =
    let s = c.args.s.now in
    let v = c.in_ok-cost.cost in
    let k = c.args.k in
    let g = found_got entry_of entry_leaves s c.loop-cost.i v c.in_ok-cost.ensures in
    let h : v.end < length s = search rules in (
      omega arith,
      omega arith,
      ap length c.store.ensures ∙ length-set c.loop-cost.costs _ _ ∙ c.loop-cost.invariant.2,
      ap (λ (o : List Float). told (store_one k) (record { count = c.loop-cost.n + 1; costs = o }) s (listed entry_of (drop (v.end + 1) s))) c.store.ensures
          ∙ walk_more (store_one k) entry_of entry_leaves s c.loop-cost.i (record { count = c.loop-cost.n; costs = c.loop-cost.costs }) v.value v.end g h (search rules)
          ∙ c.loop-cost.invariant.3,
    )
