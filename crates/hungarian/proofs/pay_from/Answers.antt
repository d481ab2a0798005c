use mathlib.Core.Path.{◌≡◌}
use native.Mathlib.Omega.{arith}
use Rattle.kuhn_munkres.specs.Binary64.{float}
use Rattle.hungarian.proofs.LoopTurns.{paid_on, paid_off}
use Rattle.hungarian.proofs.pay_from.Goals as goal

pub loop-k-init : goal.loop-k-init
loop-k-init c = (omega arith, omega arith, λ s q. q)

pub loop-k-preserved-then-used-k : goal.loop-k-preserved-then-used-k
loop-k-preserved-then-used-k c = (omega arith, omega arith, λ s q. paid_on float _ _ _ s _ c.loop-k.k (c.loop-k.invariant.2 s q) c.if-used-k.true)

pub loop-k-preserved : goal.loop-k-preserved
loop-k-preserved c = (omega arith, omega arith, λ s q. paid_off float _ _ _ s _ c.loop-k.k (c.loop-k.invariant.2 s q) c.if-used-k.false)

pub returns : goal.returns
returns c = λ s q. let e : c.loop-k.k ≡ c.args.hi = omega arith in rw e at (c.loop-k.invariant.2 s q)
