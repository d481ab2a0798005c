use mathlib.Core.Path.{◌≡◌}
use native.Mathlib.Omega.{arith}
use Rattle.kuhn_munkres.specs.Binary64.{float}
use Rattle.hungarian.proofs.LoopTurns.{chosen_step}
use Rattle.hungarian.proofs.choose_from.Goals as goal

pub loop-k-init : goal.loop-k-init
loop-k-init c = (omega arith, omega arith, c.requires.2)

pub loop-k-preserved : goal.loop-k-preserved
loop-k-preserved c = (omega arith, omega arith, chosen_step float _ c.loop-k.k _ _ c.loop-k.invariant.2 c.step-b.ensures)

pub returns : goal.returns
returns c = let e : c.loop-k.k ≡ c.args.hi = omega arith in rw e at c.loop-k.invariant.2
