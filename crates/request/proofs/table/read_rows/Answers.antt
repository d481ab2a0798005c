-- The loop keeps that what is told of the rows from `i` on, on top of those stored so far, is what is told of the whole table (`walk_…` in Lists has a law for each way out).
use Rattle.std.specs.Prelude.{Some}
use Rattle.std.proofs.Common.{rules, arith, ◌<◌, ◌+◌, refl, ap, sym, ◌∙◌, ◌&&◌, eqb, length, drop}
use Rattle.request.specs.Listed.{listed, told}
use Rattle.request.specs.Request.{row_of, Filled, fill_row}
use Rattle.request.proofs.Lists.{walk_refused, walk_ends, walk_closed, walk_more, walk_other}
use Rattle.request.proofs.Tables.{row_leaves, no_row, row_got, table_refused, table_read, fill_is}
use Rattle.request.proofs.table.read_rows.Goals as goal

pub loop-row-init : goal.loop-row-init
loop-row-init c = (search rules, search rules, search rules, c.told-costs, refl)

pub returns-in_err-row : goal.returns-in_err-row
returns-in_err-row c =
    let s = c.args.s.now in
    let a : Filled = record { rows = c.loop-row.count; same = c.loop-row.even; next = c.loop-row.k; costs = c.loop-row.costs } in
    rw c.from_residual.ensures
    (table_refused _ _
    (sym c.loop-row.invariant.4
    ∙ walk_refused (fill_row c.args.columns) row_of row_leaves s c.loop-row.i a (no_row s c.loop-row.i c.loop-row.k c.loop-row.costs (c.in_err-row.ensures.is)))
    c.read_row.ensures.long)

pub returns-in_err-next : goal.returns-in_err-next
returns-in_err-next c =
    let s = c.args.s.now in
    let a : Filled = record { rows = c.loop-row.count; same = c.loop-row.even; next = c.loop-row.k; costs = c.loop-row.costs } in
    let g = row_got s c.loop-row.i c.loop-row.k c.loop-row.costs c.in_ok-row.row c.read_row.new.costs c.in_ok-row.ensures in
    rw c.from_residual-in_err-next.ensures
    (table_refused _ _
    (sym c.loop-row.invariant.4 ∙ walk_ends (fill_row c.args.columns) row_of row_leaves s c.loop-row.i a g.row c.in_ok-row.row.end g.stands (search rules))
    c.read_row.ensures.long)

pub overflow_add-k : goal.overflow_add-k
overflow_add-k c =
    let h = c.in_ok-row.ensures.short c.in_ok-row.row refl in
    let e : c.in_ok-row.row.end < length c.args.s.now = search rules in
    omega arith

pub returns-in-41 : goal.returns-in-41
returns-in-41 c =
    let s = c.args.s.now in
    let w = c.args.columns in
    let r = c.in_ok-row.row in
    let g = row_got s c.loop-row.i c.loop-row.k c.loop-row.costs r c.read_row.new.costs c.in_ok-row.ensures in
    let a : Filled = record { rows = c.loop-row.count; same = c.loop-row.even; next = c.loop-row.k; costs = c.loop-row.costs } in
    let b : Filled = record { rows = c.loop-row.count + 1; same = c.loop-row.even && eqb r.value w; next = c.loop-row.k + r.value; costs = c.read_row.new.costs } in
    table_read _ _ b (r.end + 1)
    (sym c.loop-row.invariant.4
    ∙ walk_closed (fill_row w) row_of row_leaves s c.loop-row.i a g.row r.end g.stands (search rules) (search rules)
    ∙ ap (λ (f : Filled). Some (f, r.end + 1)) (fill_is s c.loop-row.i w a r.value r.end c.read_row.new.costs g))
    refl c.read_row.ensures.long

pub returns-in_default : goal.returns-in_default
returns-in_default c =
    let s = c.args.s.now in
    let a : Filled = record { rows = c.loop-row.count; same = c.loop-row.even; next = c.loop-row.k; costs = c.loop-row.costs } in
    let g = row_got s c.loop-row.i c.loop-row.k c.loop-row.costs c.in_ok-row.row c.read_row.new.costs c.in_ok-row.ensures in
    table_refused _ _
    (sym c.loop-row.invariant.4 ∙ walk_other (fill_row c.args.columns) row_of row_leaves s c.loop-row.i a g.row c.in_ok-row.row.end g.stands (search rules) (search rules) (search rules))
    c.read_row.ensures.long

pub loop-row-smaller : goal.loop-row-smaller
loop-row-smaller c =
    let g = row_got c.args.s.now c.loop-row.i c.loop-row.k c.loop-row.costs c.in_ok-row.row c.read_row.new.costs c.in_ok-row.ensures in
    let e : c.in_ok-row.row.end < length c.args.s.now = search rules in
    let p = g.stands.past in
    omega arith

pub loop-row-preserved : goal.loop-row-preserved
loop-row-preserved c =
    let s = c.args.s.now in
    let w = c.args.columns in
    let r = c.in_ok-row.row in
    let g = row_got s c.loop-row.i c.loop-row.k c.loop-row.costs r c.read_row.new.costs c.in_ok-row.ensures in
    let a : Filled = record { rows = c.loop-row.count; same = c.loop-row.even; next = c.loop-row.k; costs = c.loop-row.costs } in
    let h = c.in_ok-row.ensures.short r refl in
    let e : r.end < length s = search rules in
    let p = g.stands.past in (
      omega arith,
      omega arith,
      omega arith,
      c.read_row.ensures.long,
      ap (λ (f : Filled). told (fill_row w) f s (listed row_of (drop (r.end + 1) s))) (sym (fill_is s c.loop-row.i w a r.value r.end c.read_row.new.costs g))
          ∙ walk_more (fill_row w) row_of row_leaves s c.loop-row.i a g.row r.end g.stands e (search rules)
          ∙ c.loop-row.invariant.4,
    )
