-- Each branch is one equation of a list in brackets (`bracket_…` in Lists); what stands in them is `entries`.
use Rattle.std.proofs.Common.{rules, arith, ◌+◌, refl}
use Rattle.request.specs.Request.{entry_of, row_of, Stored, store_one}
use Rattle.request.proofs.Lists.{bracket_ends, bracket_other, bracket_open, bracket_empty, bracket_full}
use Rattle.request.proofs.Tables.{entry_leaves, row_refused, row_read, row_same}
use Rattle.request.proofs.table.read_row.Goals as goal

pub returns-in_err-get : goal.returns-in_err-get
unfolding row_of
returns-in_err-get c =
    let a : Stored = record { count = 0; costs = c.args.costs.now } in
    rw c.from_residual.ensures (row_refused _ c.args.at _ (bracket_ends (store_one c.args.k) entry_of entry_leaves c.args.s.now c.args.at a (search rules)) c.told-costs)

pub returns-then-branch-ne40 : goal.returns-then-branch-ne40
unfolding row_of
returns-then-branch-ne40 c =
    let a : Stored = record { count = 0; costs = c.args.costs.now } in
    row_refused _ c.args.at _ (bracket_other (store_one c.args.k) entry_of entry_leaves c.args.s.now c.args.at a (search rules) (search rules)) c.told-costs

pub returns-in_err-get-2 : goal.returns-in_err-get-2
unfolding row_of
returns-in_err-get-2 c =
    let a : Stored = record { count = 0; costs = c.args.costs.now } in
    rw c.from_residual-in_err-get-2.ensures
    (row_refused _ c.args.at _ (bracket_open (store_one c.args.k) entry_of entry_leaves c.args.s.now c.args.at a (search rules) (search rules) (search rules)) c.told-costs)

pub returns-then-branch-eq41 : goal.returns-then-branch-eq41
unfolding row_of
returns-then-branch-eq41 c =
    let a : Stored = record { count = 0; costs = c.args.costs.now } in
    row_read _ c.args.at _ a (c.args.at + 2) (bracket_empty (store_one c.args.k) entry_of entry_leaves c.args.s.now c.args.at a (search rules) (search rules) (search rules) (search rules)) refl c.told-costs (omega arith)

pub returns : goal.returns
unfolding row_of
returns c =
    let a : Stored = record { count = 0; costs = c.args.costs.now } in
    row_same _ _ (c.args.at + 1) c.args.at _ _
    (bracket_full (store_one c.args.k) entry_of entry_leaves c.args.s.now c.args.at a (search rules) (search rules) (search rules) (search rules))
    (omega arith) c.entries.ensures
