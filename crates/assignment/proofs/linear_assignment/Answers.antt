use Rattle.std.proofs.lemmas.Result.{err_from_is_err_and}
use Rattle.assignment.proofs.Answers.{few, answer_given, answer_refused}
use Rattle.assignment.proofs.linear_assignment.Goals as goal

pub listed-requires : goal.listed-requires
listed-requires c =
    let q = few c.args.costs.now c.args.rows c.args.columns c.args.unmatched_row_cost c.args.unmatched_column_cost _ c.in_ok-pair_columns.ensures in
    (q.0, q.1)

pub returns : goal.returns
returns c = answer_given c.args.costs.now c.args.rows c.args.columns c.args.unmatched_row_cost c.args.unmatched_column_cost _ _ c.in_ok-pair_columns.ensures c.listed.ensures

pub returns-in_err-pair_columns : goal.returns-in_err-pair_columns
returns-in_err-pair_columns c =
    let p = err_from_is_err_and c.from_residual.result c.from_residual.ensures.1 in
    rw (p.1, p.2) (answer_refused c.args.costs.now c.args.rows c.args.columns c.args.unmatched_row_cost c.args.unmatched_column_cost _ c.in_err-pair_columns.ensures)
