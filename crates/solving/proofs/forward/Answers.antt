use Rattle.std.proofs.Common.{length-set, arith}
use Rattle.solving.proofs.Steps.{forward_more, forward_all}
use Rattle.solving.proofs.forward.Goals as goal

pub loop-i-preserved : goal.loop-i-preserved
loop-i-preserved g c =
    let i = c.loop-i.invariant in
    (simp length-set i.0, forward_more c.args.columns.now c.args.b.now c.loop-i.y c.loop-i.i i.1 (omega (arith, i.0, c.loop-i-test.true)) c.forward_item.ensures)

pub returns : goal.returns
returns g c =
    let i = c.loop-i.invariant in
    forward_all c.args.columns.now c.args.b.now c.loop-i.y c.loop-i.i i.1 g.row.N (omega arith) i.0
