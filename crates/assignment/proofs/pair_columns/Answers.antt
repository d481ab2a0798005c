use Rattle.std.proofs.lemmas.Result.{err_from_is_err_and}
use native.Mathlib.Omega.{arith}
use mathlib.Core.Path.{sym, ap, ◌∙◌}
use Rattle.number.specs.Reply.{refused}
use Rattle.assignment.proofs.Calls.{rows_over, columns_over, row_cost_bad, column_cost_bad, size_bad, checked}
use Rattle.assignment.proofs.pair_columns.Goals as goal
use Rattle.assignment.proofs.pair_columns.Goals.{then-rows-gt64-via-then-rows-gt64, then-rows-gt64-via-else-rows-gt64+then-columns-gt64, then-not-is_finite-via-then-not-is_finite, then-not-is_finite-via-else-not-is_finite+then-not-is_finite-2}

pub returns-then-rows-gt64 : goal.returns-then-rows-gt64
returns-then-rows-gt64 c =
    elim c.then-rows-gt64.branch [
      | then-rows-gt64-via-then-rows-gt64 w ↦ rows_over c.args.costs.now c.args.rows c.args.columns c.args.row_cost c.args.column_cost w.if-rows-gt64.true
      | then-rows-gt64-via-else-rows-gt64+then-columns-gt64 w ↦ columns_over c.args.costs.now c.args.rows c.args.columns c.args.row_cost c.args.column_cost (omega (arith, w.if-rows-gt64.false)) w.if-columns-gt64.true
    ]

pub returns-then-not-is_finite : goal.returns-then-not-is_finite
returns-then-not-is_finite c =
    elim c.then-not-is_finite.branch [
      | then-not-is_finite-via-then-not-is_finite w ↦ row_cost_bad c.args.costs.now c.args.rows c.args.columns c.args.row_cost c.args.column_cost (omega (arith, c.if-rows-gt64.false)) (omega (arith, c.if-columns-gt64.false)) (sym c.is_finite.ensures ∙ w.if-not-is_finite.true)
      | then-not-is_finite-via-else-not-is_finite+then-not-is_finite-2 w ↦ column_cost_bad c.args.costs.now c.args.rows c.args.columns c.args.row_cost c.args.column_cost (omega (arith, c.if-rows-gt64.false)) (omega (arith, c.if-columns-gt64.false)) (sym c.is_finite.ensures ∙ w.if-not-is_finite.false) (sym w.is_finite-else-not-is_finite.ensures ∙ w.if-not-is_finite-2.true)
    ]

pub returns-then-costs-rows : goal.returns-then-costs-rows
returns-then-costs-rows c = size_bad c.args.costs.now c.args.rows c.args.columns c.args.row_cost c.args.column_cost (omega (arith, c.if-rows-gt64.false)) (omega (arith, c.if-columns-gt64.false)) (sym c.is_finite.ensures ∙ c.if-not-is_finite.false) (sym c.is_finite-else-not-is_finite.ensures ∙ c.if-not-is_finite-2.false) c.if-costs-rows.true

pub pair_table-requires : goal.pair_table-requires
pair_table-requires c = (omega (arith, c.if-rows-gt64.false), omega (arith, c.if-columns-gt64.false), c.if-costs-rows.false, c.requires)

pub returns-in_err-pair_table : goal.returns-in_err-pair_table
returns-in_err-pair_table c =
    let p = err_from_is_err_and c.from_residual.result c.from_residual.ensures.1 in
    rw p.1 (ap refused p.2 ∙ c.in_err-pair_table.ensures ∙ sym (checked c.args.costs.now c.args.rows c.args.columns c.args.row_cost c.args.column_cost (omega (arith, c.if-rows-gt64.false)) (omega (arith, c.if-columns-gt64.false)) (sym c.is_finite.ensures ∙ c.if-not-is_finite.false) (sym c.is_finite-else-not-is_finite.ensures ∙ c.if-not-is_finite-2.false) c.if-costs-rows.false))

pub returns : goal.returns
returns c = c.in_ok-pair_table.ensures ∙ sym (checked c.args.costs.now c.args.rows c.args.columns c.args.row_cost c.args.column_cost (omega (arith, c.if-rows-gt64.false)) (omega (arith, c.if-columns-gt64.false)) (sym c.is_finite.ensures ∙ c.if-not-is_finite.false) (sym c.is_finite-else-not-is_finite.ensures ∙ c.if-not-is_finite-2.false) c.if-costs-rows.false)
