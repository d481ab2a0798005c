use Rattle.std.proofs.Common.{arith, ◌≡◌, length}
use borrow.Author.Tests.{eq-eqb, ne_eqb}
use Rattle.assignment.proofs.Takes.{taking_none, taking_skip, taking_take, taken}
use Rattle.assignment.proofs.takers.take_columns.Goals as goal

pub loop-j-init : goal.loop-j-init
loop-j-init c = (omega arith, taking_none _ _ _ _ _ _ c.told-takers)

pub loop-j-preserved-then-name-g : goal.loop-j-preserved-then-name-g
loop-j-preserved-then-name-g c = let t = c.loop-j-test.true in (omega arith, taking_take _ _ _ _ _ _ _ _ _ (omega (arith, c.requires)) c.loop-j.invariant.1 (eq-eqb _ _ c.if-name-g.true) _ c.taker.ensures)

pub loop-j-preserved : goal.loop-j-preserved
loop-j-preserved c = let t = c.loop-j-test.true in (omega arith, taking_skip _ _ _ _ _ _ _ _ _ (omega (arith, c.requires)) c.loop-j.invariant.1 (ne_eqb _ _ c.if-name-g.false))

pub returns : goal.returns
returns c = let e : c.loop-j.j ≡ length c.args.names.now = omega arith in taken _ _ _ _ _ _ _ _ _ (rw e at c.loop-j.invariant.1)
