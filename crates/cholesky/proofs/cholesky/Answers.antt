use Rattle.std.proofs.Common.{rules, length-set, sym, ap, ◌∙◌, arith}
use Rattle.std.proofs.lemmas.List.{length-replicate}
use Rattle.cholesky.specs.Cholesky.{pivot_root, cholesky}
use Rattle.cholesky.specs.Factor.{reply_of_factor}
use Rattle.cholesky.proofs.Columns.{column_more, column_stops, all_columns, no_column}
use Rattle.cholesky.proofs.cholesky.Goals as goal

pub loop-j-init : goal.loop-j-init
unfolding cholesky
loop-j-init g c = (length-replicate _ _, no_column g.row.N c.args.a)

pub returns-in_err-d : goal.returns-in_err-d
returns-in_err-d g c =
    ap reply_of_factor c.from_residual.ensures
    ∙ column_stops g.row.N c.args.a c.loop-j.columns c.loop-j.j (omega arith) (c.in_err-d.ensures ∙ ap pivot_root (search rules))
    ∙ sym c.loop-j.invariant.1

pub loop-j-preserved : goal.loop-j-preserved
loop-j-preserved g c =
    let i = c.loop-j.invariant in
    (simp length-set i.0, i.1 ∙ column_more g.row.N c.args.a c.loop-j.columns c.loop-j.j (omega arith) i.0 (c.in_ok-d.ensures ∙ ap pivot_root (search rules)) c.column.ensures)

pub returns : goal.returns
returns g c =
    let i = c.loop-j.invariant in
    sym (i.1 ∙ all_columns g.row.N c.args.a c.loop-j.columns c.loop-j.j (omega arith) i.0)
