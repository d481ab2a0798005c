use native.Mathlib.Omega.{arith}
use mathlib.Core.Path.{◌≡◌, refl}
use Prim.Native.Nat.{◌+◌, ◌≤◌, ◌<◌}
use lib.Seq.{get_or-take, length-take-le}
use borrow.Author.Tests.{eq-eqb, ne_eqb}
use lib.ListN.{get_or, length}
use lib.Ieee.{nan}
use Rattle.groups.specs.Picks.{picked}
use Rattle.groups.proofs.Picking.{picked_on, picked_off}
use Rattle.assignment.specs.Picks.{bears}
use Rattle.assignment.proofs.Picking.{laid_none, laid_more}
use Rattle.assignment.proofs.table.gather_row.Goals as goal

pub loop-j-init : goal.loop-j-init
unfolding picked
loop-j-init c = (omega arith, omega arith, laid_none _ _ _ refl)

pub loop-j-preserved-then-name-g : goal.loop-j-preserved-then-name-g
loop-j-preserved-then-name-g c =
    let wide : c.args.columns ≤ length c.args.names.now = rw c.told-names c.requires.1 in
    let t : c.loop-j.j < c.args.columns = rw (length-take-le c.args.columns c.args.names.now wide) at c.loop-j-test.true in
    (omega (arith, t), omega (arith, c.loop-j.invariant.1), rw (picked_on (bears c.args.names.now c.args.g) (λ x. get_or c.args.costs.now (c.args.at + x) nan) c.loop-j.j (eq-eqb _ _ (rw (get_or-take c.args.columns c.args.names.now c.loop-j.j 0 t) at c.if-name-g.true))) (laid_more _ _ _ _ _ _ _ (omega (arith, c.loop-j.invariant.1, c.requires.2, t)) c.loop-j.invariant.2))

pub loop-j-preserved : goal.loop-j-preserved
loop-j-preserved c =
    let wide : c.args.columns ≤ length c.args.names.now = rw c.told-names c.requires.1 in
    let t : c.loop-j.j < c.args.columns = rw (length-take-le c.args.columns c.args.names.now wide) at c.loop-j-test.true in
    (omega (arith, t), omega (arith, c.loop-j.invariant.1), rw (picked_off (bears c.args.names.now c.args.g) (λ x. get_or c.args.costs.now (c.args.at + x) nan) c.loop-j.j (ne_eqb _ _ (rw (get_or-take c.args.columns c.args.names.now c.loop-j.j 0 t) at c.if-name-g.false))) c.loop-j.invariant.2)

pub returns : goal.returns
returns c =
    let wide : c.args.columns ≤ length c.args.names.now = rw c.told-names c.requires.1 in
    let e : c.loop-j.j ≡ c.args.columns = omega (arith, length-take-le c.args.columns c.args.names.now wide, c.loop-j-test.false, c.loop-j.invariant.0) in rw e at c.loop-j.invariant.2
