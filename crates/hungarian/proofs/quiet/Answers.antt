use Rattle.kuhn_munkres.specs.Binary64.{float}
use Rattle.hungarian.proofs.LoopTurns.{quiet8}
use Rattle.hungarian.proofs.quiet.Goals as goal

-- src/lib.rt:84:1
pub returns : goal.returns
returns c =
    let a = c.args in
    quiet8 float a.minv.now a.k a.d
