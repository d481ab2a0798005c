-- Each branch is one equation of a list in brackets (`bracket_…` in Lists); what stands in them is `read_rows`.
use Rattle.std.proofs.Common.{rules, ◌+◌, refl, true}
use Rattle.request.specs.Request.{row_of, table_of, Filled, fill_row}
use Rattle.request.proofs.Lists.{bracket_ends, bracket_other, bracket_open, bracket_empty, bracket_full}
use Rattle.request.proofs.Tables.{row_leaves, table_refused, table_read, table_same}
use Rattle.request.proofs.table.read_table.Goals as goal

pub returns-in_err-get : goal.returns-in_err-get
unfolding table_of
returns-in_err-get c =
    let a : Filled = record { rows = 0; same = true; next = 0; costs = c.args.costs.now } in
    rw c.from_residual.ensures (table_refused _ _ (bracket_ends (fill_row c.args.columns) row_of row_leaves c.args.s.now c.args.at a (search rules)) c.told-costs)

pub returns-then-branch-ne40 : goal.returns-then-branch-ne40
unfolding table_of
returns-then-branch-ne40 c =
    let a : Filled = record { rows = 0; same = true; next = 0; costs = c.args.costs.now } in
    table_refused _ _ (bracket_other (fill_row c.args.columns) row_of row_leaves c.args.s.now c.args.at a (search rules) (search rules)) c.told-costs

pub returns-in_err-get-2 : goal.returns-in_err-get-2
unfolding table_of
returns-in_err-get-2 c =
    let a : Filled = record { rows = 0; same = true; next = 0; costs = c.args.costs.now } in
    rw c.from_residual-in_err-get-2.ensures
    (table_refused _ _ (bracket_open (fill_row c.args.columns) row_of row_leaves c.args.s.now c.args.at a (search rules) (search rules) (search rules)) c.told-costs)

pub returns-then-branch-eq41 : goal.returns-then-branch-eq41
unfolding table_of
returns-then-branch-eq41 c =
    let a : Filled = record { rows = 0; same = true; next = 0; costs = c.args.costs.now } in
    table_read _ _ a (c.args.at + 2) (bracket_empty (fill_row c.args.columns) row_of row_leaves c.args.s.now c.args.at a (search rules) (search rules) (search rules) (search rules)) refl c.told-costs

pub returns : goal.returns
unfolding table_of
returns c =
    let a : Filled = record { rows = 0; same = true; next = 0; costs = c.args.costs.now } in
    table_same _ _ _ _ (bracket_full (fill_row c.args.columns) row_of row_leaves c.args.s.now c.args.at a (search rules) (search rules) (search rules) (search rules)) c.read_rows.ensures
