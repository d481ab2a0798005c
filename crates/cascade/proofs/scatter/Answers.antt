-- The loop keeps `Scattering`: the columns of the stage before j have their takers by the whole table's rows, the others the takers from before.
use Rattle.std.proofs.Common.{arith, ◌≡◌, length}
use borrow.Author.Tests.{eq-eqb, ne_eqb}
use Rattle.cascade.proofs.Places.{scattering_none, scattering_skip, scattering_take}
use Rattle.cascade.proofs.scatter.Goals as goal

pub loop-j-init : goal.loop-j-init
loop-j-init c = (omega arith, scattering_none _ _ _ _ _ c.told-takers)

pub loop-j-preserved-then-name-eq0 : goal.loop-j-preserved-then-name-eq0
loop-j-preserved-then-name-eq0 c =
    let t = c.loop-j-test.true in
    (omega arith, scattering_take _ _ _ _ _ c.loop-j.j c.loop-j.k _ (omega (arith, c.requires)) c.loop-j.invariant.1 (eq-eqb _ _ c.if-name-eq0.true) _ c.member.ensures)

pub loop-j-preserved : goal.loop-j-preserved
loop-j-preserved c =
    let t = c.loop-j-test.true in
    (omega arith, scattering_skip _ _ _ _ _ c.loop-j.j c.loop-j.k _ (omega (arith, c.requires)) c.loop-j.invariant.1 (ne_eqb _ _ c.if-name-eq0.false))

pub returns : goal.returns
returns c = let e : c.loop-j.j ≡ length c.args.names.now = omega arith in rw e at c.loop-j.invariant.1.places
