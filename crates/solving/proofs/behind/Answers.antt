use Rattle.std.proofs.Common.{arith}
use Rattle.solving.proofs.Steps.{behind_more}
use Rattle.solving.proofs.behind.Goals as goal

pub loop-k-preserved : goal.loop-k-preserved
loop-k-preserved g c =
    let i = c.loop-k.invariant in
    (omega (arith, i.0), behind_more c.args.columns.now c.args.x.now c.args.i c.loop-k.k i.0 i.1)
