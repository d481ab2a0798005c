use Rattle.std.proofs.lemmas.Result.{err_from_is_err_and}
use mathlib.Core.Path.{◌∙◌}
use borrow.Author.Rules.{rules}
use Rattle.cascade.proofs.Whole.{refused_with, whole_assigned}
use Rattle.cascade.proofs.pair_all.Goals as goal

pub returns : goal.returns
returns c =
    let t = c.args.table in
    let e = c.in_ok-pair_columns.ensures in
    (e ∙ whole_assigned t.rows t.columns t.costs.now c.args.gate c.requires.0, search rules)

pub returns-in_err-pair_columns : goal.returns-in_err-pair_columns
returns-in_err-pair_columns c =
    let p = err_from_is_err_and c.from_residual.result c.from_residual.ensures.1 in
    let t = c.args.table in
    let e = c.in_err-pair_columns.ensures in
    rw (p.1, p.2) (refused_with _ _ e ∙ whole_assigned t.rows t.columns t.costs.now c.args.gate c.requires.0, search rules)
