-- `cascade::pair_cascade` meets its contract: two stages, one after the other. Assumes nothing.
use Rattle.std.proofs.lemmas.Result.{err_from_is_err_and}
use mathlib.Core.Bool.{false}
use borrow.Author.Rules.{rules}
use Rattle.cascade.proofs.Cascade.{cascade_stopped, cascade_done}
use Rattle.cascade.proofs.pair_cascade.Goals as goal

pub returns-in_err-pair_stage : goal.returns-in_err-pair_stage
returns-in_err-pair_stage c =
    let p = c.requires in
    let t = c.args.table in
    let q = err_from_is_err_and c.from_residual.result c.from_residual.ensures.1 in
    rw (q.1, q.2)
    (cascade_stopped c.args.recent.now t.rows t.costs.now t.columns p.0.1 c.args.gate c.args.takers.now _ p.1 c.pair_stage.result _ c.in_err-pair_stage.was c.pair_stage.ensures)

pub returns : goal.returns
returns c =
    let p = c.requires in
    let t = c.args.table in
    let others = c.map-others.ensures.items in
    cascade_done c.args.recent.now t.rows t.costs.now t.columns p.0.1 c.args.gate c.args.takers.now _ p.1 c.map-others.result p.0.0 c.told-recent others.long
    (λ i h. let a = others.at i false false h in search rules) c.pair_stage.result c.in_ok-pair_stage.was _ _ c.pair_stage.ensures c.pair_stage-2.ensures
