use native.Mathlib.Omega.{arith}
use mathlib.Core.Path.{◌≡◌}
use Prim.Native.Nat.{◌≤◌, ◌<◌}
use lib.ListN.{length}
use lib.Seq.{get_or-take, length-take-le}
use Rattle.assignment.proofs.Listings.{freeing_none, free_room, freeing_skip, freeing_take, freeing_done}
use Rattle.assignment.proofs.pair_lists.list_columns.Goals as goal

pub loop-j-init : goal.loop-j-init
loop-j-init c = (omega arith, λ h l. freeing_none _ _ h l _ c.requires.1)

pub loop-j-preserved-then-taker-lt64 : goal.loop-j-preserved-then-taker-lt64
loop-j-preserved-then-taker-lt64 c =
    let g : c.args.columns ≤ length c.args.takers.now = rw c.told-takers c.requires.0 in
    let t : c.loop-j.j < c.args.columns = rw (length-take-le c.args.columns c.args.takers.now g) at c.loop-j-test.true in
    (omega arith, λ h w. freeing_skip _ _ h w _ _ _ t (c.loop-j.invariant.1 h w) (rw (get_or-take c.args.columns c.args.takers.now c.loop-j.j 0 t) at c.if-taker-lt64.true))

pub loop-j-preserved : goal.loop-j-preserved
loop-j-preserved c =
    let g : c.args.columns ≤ length c.args.takers.now = rw c.told-takers c.requires.0 in
    let t : c.loop-j.j < c.args.columns = rw (length-take-le c.args.columns c.args.takers.now g) at c.loop-j-test.true in
    (omega arith, λ h w. freeing_take _ _ h w _ _ _ t (c.loop-j.invariant.1 h w) (let q = (rw (get_or-take c.args.columns c.args.takers.now c.loop-j.j 0 t) at c.if-taker-lt64.false) in omega (arith, q)))

pub returns : goal.returns
returns c =
    let h = c.requires.0 in
    let g : c.args.columns ≤ length c.args.takers.now = rw c.told-takers c.requires.0 in
    let f = c.loop-j.invariant.1 h g in
    let e : c.loop-j.j ≡ c.args.columns = omega (arith, length-take-le c.args.columns c.args.takers.now g, c.loop-j-test.false, c.loop-j.invariant.0) in
    freeing_done _ _ h g _ _ (rw e at f)

pub offset_bounds-free-n : goal.offset_bounds-free-n
offset_bounds-free-n c =
    let g : c.args.columns ≤ length c.args.takers.now = rw c.told-takers c.requires.0 in
    let t : c.loop-j.j < c.args.columns = rw (length-take-le c.args.columns c.args.takers.now g) at c.loop-j-test.true in
    omega (arith, free_room _ _ c.requires.0 g _ _ _ t (c.loop-j.invariant.1 c.requires.0 g))

pub bounds-free-n : goal.bounds-free-n
bounds-free-n c =
    let g : c.args.columns ≤ length c.args.takers.now = rw c.told-takers c.requires.0 in
    let t : c.loop-j.j < c.args.columns = rw (length-take-le c.args.columns c.args.takers.now g) at c.loop-j-test.true in
    omega (arith, free_room _ _ c.requires.0 g _ _ _ t (c.loop-j.invariant.1 c.requires.0 g))

pub overflow_add-n : goal.overflow_add-n
overflow_add-n c =
    let g : c.args.columns ≤ length c.args.takers.now = rw c.told-takers c.requires.0 in
    let t : c.loop-j.j < c.args.columns = rw (length-take-le c.args.columns c.args.takers.now g) at c.loop-j-test.true in
    omega (arith, free_room _ _ c.requires.0 g _ _ _ t (c.loop-j.invariant.1 c.requires.0 g))
