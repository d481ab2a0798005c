use Rattle.hungarian.proofs.LoopTurns.{free8}
use Rattle.hungarian.proofs.free8.Goals as goal

-- src/lib.rt:188:1
pub returns : goal.returns
returns c =
    let a = c.args in
    free8 a.used.now a.k
