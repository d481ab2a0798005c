use mathlib.Core.Path.{◌≡◌, refl}
use lib.ListN.{length}
use native.Mathlib.Omega.{arith}
use Rattle.kuhn_munkres.specs.Binary64.{float}
use Rattle.hungarian.specs.Passes.{lowered}
use Rattle.hungarian.proofs.LoopTurns.{lowered_step}
use Rattle.hungarian.proofs.lower.Goals as goal

pub loop-x-init : goal.loop-x-init
unfolding lowered
loop-x-init c = refl

pub loop-x-preserved : goal.loop-x-preserved
loop-x-preserved c = lowered_step float _ _ _ _ c.loop-x.invariant

pub returns : goal.returns
returns c = let e : c.loop-x.x-index ≡ length c.args.minv.now = omega arith in rw e at c.loop-x.invariant
