use native.Mathlib.Omega.{arith}
use mathlib.Core.Path.{◌≡◌, refl, ◌∙◌}
use Rattle.assignment.proofs.Names.{passed_none, passed_next}
use Rattle.assignment.proofs.joining.last_rows.Goals as goal

pub loop-i-init : goal.loop-i-init
loop-i-init c = (omega arith, passed_none _ _ c.requires.1, refl)

pub find-root-requires : goal.find-root-requires
find-root-requires c = (omega (arith, c.requires.0, c.loop-i-test.true), rw c.loop-i.invariant.2 c.loop-i.invariant.1.ranked)

pub loop-i-preserved : goal.loop-i-preserved
loop-i-preserved c = (omega arith, passed_next _ _ _ _ _ _ _ (omega (arith, c.requires.0, c.loop-i-test.true)) c.loop-i.invariant.1 (rw c.loop-i.invariant.2 at c.find-root.ensures.0), c.find-root.ensures.1 ∙ c.loop-i.invariant.2)

pub returns : goal.returns
returns c = let e : c.loop-i.i ≡ c.args.rows = omega (arith, c.loop-i-test.false, c.loop-i.invariant.0) in (rw e at c.loop-i.invariant.1, c.loop-i.invariant.2)
