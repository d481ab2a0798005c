use Rattle.std.proofs.Common.{rules, ◌≡◌, ◌-◌, ◌+◌, take, length, length-set, sym, ap, ◌∙◌, arith}
use Rattle.std.proofs.lemmas.List.{length-replicate}
use Rattle.cholesky.specs.Cholesky.{pivot_root, columns_from, cholesky}
use Rattle.cholesky.specs.Definite.{whether_given, factorable}
use Rattle.cholesky.proofs.Factors.{pivot_found, pivot_low}
use Rattle.cholesky.proofs.Columns.{column_more, column_stops, column_last, all_columns, no_column}
use lib.Ieee.{lt}
use Rattle.matrix.specs.Matrix.{nought}
use Rattle.cholesky.proofs.has_factor.Goals.{then-j, else-j}
use Rattle.cholesky.proofs.has_factor.Goals as goal

pub loop-j-init : goal.loop-j-init
unfolding cholesky factorable
loop-j-init g c = (length-replicate _ _, ap whether_given (no_column g.row.N c.args.a))

pub returns-else-positive : goal.returns-else-positive
returns-else-positive g c =
    ap whether_given (column_stops g.row.N c.args.a c.loop-j.l c.loop-j.j (omega arith) (pivot_low _ (search rules) ∙ ap pivot_root c.remainder-pivot.ensures))
    ∙ sym c.loop-j.invariant.1

pub loop-j-preserved : goal.loop-j-preserved
loop-j-preserved g c =
    let i = c.loop-j.invariant in
    let n = g.row.N in
    let a = c.args.a in
    let l = c.loop-j.l in
    let j = c.loop-j.j in
    let next : (length c.if-j.l ≡ n) × (factorable n a ≡ whether_given (columns_from (n - (j + 1)) n a (j + 1) (take (j + 1) c.if-j.l))) =
    elim c.if-j.branch [
      | then-j w ↦ (
        ap length w.l-is ∙ simp length-set i.0,
        i.1
            ∙ ap whether_given (column_more n a l j (omega arith) i.0 (pivot_found _ (search rules) w.root_or_zero.ensures ∙ ap pivot_root c.remainder-pivot.ensures) w.column.ensures)
            ∙ ap (λ m. whether_given (columns_from (n - (j + 1)) n a (j + 1) (take (j + 1) m))) (sym w.l-is),
      )
      | else-j w ↦ (
        ap length w.l-is ∙ i.0,
        i.1 ∙ column_last n a l j (omega arith) (omega (arith, c.loop-j-test.true, w.if-j.false)) (ap (λ p. lt nought p) (sym c.remainder-pivot.ensures) ∙ search rules) (take (j + 1) c.if-j.l),
      )
    ] in next

pub returns : goal.returns
returns g c =
    let i = c.loop-j.invariant in
    sym (i.1 ∙ ap whether_given (all_columns g.row.N c.args.a c.loop-j.l c.loop-j.j (omega arith) i.0))
