-- The rows are read behind `(assign `, then the columns and the row cost.
use Rattle.std.proofs.Common.{rules, ◌≡◌, length, sym, ◌∙◌, Bool, true, false, List, ℕ, take, eqb, SFits, w32}
use Rattle.std.proofs.lemmas.Int.{to_z-of_z}
use Rattle.std.specs.Cmp.Lexicographic.{pointwise}
use Rattle.forms.specs.Bytes.{bytes_of}
use Rattle.request.specs.Request.{begins, opening, argument_of, count_of}
use Rattle.request.proofs.Lists.{found_got}
use Rattle.request.proofs.Numbers.{begins_is}
use Rattle.request.proofs.Heads.{argument_leaves, count_leaves, head_other, head_no_rows, head_no_columns, head_no_cost, head_stated}
use Rattle.request.proofs.head.read_head.Goals as goal

stands : (s : List ℕ) (r b : Bool) → r ≡ pointwise eqb opening (take (length opening) s) → r ≡ b → begins opening s ≡ b
stands s r b e f = sym (begins_is opening s) ∙ sym e ∙ f

pub returns-then-not-starts_with : goal.returns-then-not-starts_with
unfolding opening bytes_of
returns-then-not-starts_with c = head_other c.args.s.now (stands c.args.s.now _ false c.starts_with.ensures.value (search rules))

pub returns-in_err-rows : goal.returns-in_err-rows
unfolding opening bytes_of
returns-in_err-rows c =
    rw c.from_residual.ensures (head_no_rows c.args.s.now (stands c.args.s.now _ true c.starts_with.ensures.value (search rules)) c.in_err-rows.ensures)

pub returns-in_err-columns : goal.returns-in_err-columns
unfolding opening bytes_of
returns-in_err-columns c =
    let s = c.args.s.now in
    let r = found_got count_of count_leaves s 8 c.in_ok-rows.rows c.in_ok-rows.ensures in
    rw c.from_residual-in_err-columns.ensures (head_no_columns s (stands s _ true c.starts_with.ensures.value (search rules)) _ _ r c.in_err-columns.ensures)

pub returns-in_err-cost : goal.returns-in_err-cost
unfolding opening bytes_of
returns-in_err-cost c =
    let s = c.args.s.now in
    let r = found_got count_of count_leaves s 8 c.in_ok-rows.rows c.in_ok-rows.ensures in
    let k = found_got count_of count_leaves s c.in_ok-rows.rows.end c.in_ok-columns.columns c.in_ok-columns.ensures in
    rw c.from_residual-in_err-cost.ensures (head_no_cost s (stands s _ true c.starts_with.ensures.value (search rules)) _ _ r _ _ k c.in_err-cost.ensures)

pub returns : goal.returns
unfolding opening bytes_of
returns c =
    let s = c.args.s.now in
    let r = found_got count_of count_leaves s 8 c.in_ok-rows.rows c.in_ok-rows.ensures in
    let k = found_got count_of count_leaves s c.in_ok-rows.rows.end c.in_ok-columns.columns c.in_ok-columns.ensures in
    let q = found_got argument_of argument_leaves s c.in_ok-columns.columns.end c.in_ok-cost.cost c.in_ok-cost.ensures in
    let z = c.in_ok-cost.cost.value in
    let f : SFits w32 z = search rules in
    rw (c.from.ensures, to_z-of_z w32 z f) (head_stated s (stands s _ true c.starts_with.ensures.value (search rules)) _ _ r _ _ k z _ q)
