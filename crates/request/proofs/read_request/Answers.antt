-- Head, table and end are read one after the other; each branch says what `request_of` gives there.
use Rattle.std.proofs.Common.{rules}
use Rattle.request.specs.Asking.{no_costs}
use Rattle.request.proofs.Asks.{head_got, no_head, table_got, no_table, asked_refused, ask_no_head, ask_no_table, ask_open, asked}
use Rattle.request.proofs.read_request.Goals as goal

pub returns-in_err-head : goal.returns-in_err-head
returns-in_err-head c = rw c.from_residual.ensures (asked_refused _ (ask_no_head c.args.s.now (no_head c.args.s.now c.in_err-head.ensures)))

pub returns-in_err-table : goal.returns-in_err-table
returns-in_err-table c =
    let s = c.args.s.now in
    let h = c.in_ok-head.head in
    rw c.from_residual-in_err-table.ensures
    (asked_refused _
    (ask_no_table s h.value.rows h.value.columns h.value.cost h.end (head_got s h c.in_ok-head.ensures) (no_table s h.end h.value.columns no_costs c.in_err-table.ensures.is)))

pub closes-requires : goal.closes-requires
closes-requires c =
    let h = c.in_ok-head.head in
    let t = table_got c.args.s.now h.end h.value.columns no_costs c.in_ok-table.table c.read_table.new.costs c.in_ok-table.ensures in
    t.stands.within

pub returns-then-not-closes : goal.returns-then-not-closes
returns-then-not-closes c =
    let s = c.args.s.now in
    let h = c.in_ok-head.head in
    let t = table_got s h.end h.value.columns no_costs c.in_ok-table.table c.read_table.new.costs c.in_ok-table.ensures in
    asked_refused _ (ask_open s h.value.rows h.value.columns h.value.cost h.end (head_got s h c.in_ok-head.ensures) _ _ _ _ t (search rules))

pub returns : goal.returns
returns c =
    let s = c.args.s.now in
    let h = c.in_ok-head.head in
    let t = table_got s h.end h.value.columns no_costs c.in_ok-table.table c.read_table.new.costs c.in_ok-table.ensures in
    asked s h.value.rows h.value.columns h.value.cost h.end (head_got s h c.in_ok-head.ensures) _ _ _ _ t (search rules)
