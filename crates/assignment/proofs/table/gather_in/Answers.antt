use native.Mathlib.Omega.{arith}
use Rattle.std.proofs.Common.{rules, ◌≤◌, ◌<◌, length}
use lib.Seq.{get_or-take, length-take-le}
use mathlib.Core.Path.{◌≡◌, refl}
use borrow.Author.Tests.{eq-eqb, ne_eqb}
use native.Mathlib.Nat.{suc-mul, mul-le-mul_right}
use Rattle.assignment.proofs.Picking.{gathering_none, gather_room, gather_member, gathering_skip, gathering_take, gathered}
use Rattle.assignment.proofs.table.gather_in.Goals as goal

pub loop-i-init : goal.loop-i-init
loop-i-init c = (omega arith, gathering_none _ _ _ _ _ _ _ _ _ refl (search rules))

pub gather_row-k-requires : goal.gather_row-k-requires
gather_row-k-requires c =
    let wide : c.args.rows ≤ length c.args.row_names.now = rw c.told-row_names c.requires.0 in
    let t : c.loop-i.i < c.args.rows = rw (length-take-le c.args.rows c.args.row_names.now wide) at c.loop-i-test.true in
    let m = c.args.columns in
    let e = c.loop-i.invariant.1.table.long in (
      omega (arith, suc-mul c.loop-i.i m, mul-le-mul_right m t, c.requires.2),
      c.requires.1,
      omega (arith, gather_room _ _ _ _ _ _ _ _ _ _ _ _ _ _ c.requires.0 c.requires.1 t c.loop-i.invariant.1, c.requires.3, e),
      omega (arith, e, c.requires.4),
    )

pub loop-i-preserved-then-name-g : goal.loop-i-preserved-then-name-g
loop-i-preserved-then-name-g c =
    let wide : c.args.rows ≤ length c.args.row_names.now = rw c.told-row_names c.requires.0 in
    let t : c.loop-i.i < c.args.rows = rw (length-take-le c.args.rows c.args.row_names.now wide) at c.loop-i-test.true in
    (omega arith, gathering_take _ _ _ _ _ _ _ _ _ _ _ _ _ _ c.requires.0 c.requires.1 t c.loop-i.invariant.1 (eq-eqb _ _ (rw (get_or-take c.args.rows c.args.row_names.now c.loop-i.i 0 t) at c.if-name-g.true)) _ _ (rw c.loop-i.invariant.1.table.long at c.gather_row-k.ensures))

pub loop-i-preserved : goal.loop-i-preserved
loop-i-preserved c =
    let wide : c.args.rows ≤ length c.args.row_names.now = rw c.told-row_names c.requires.0 in
    let t : c.loop-i.i < c.args.rows = rw (length-take-le c.args.rows c.args.row_names.now wide) at c.loop-i-test.true in
    (omega arith, gathering_skip _ _ _ _ _ _ _ _ _ _ _ _ _ _ c.requires.0 c.requires.1 t c.loop-i.invariant.1 (ne_eqb _ _ (rw (get_or-take c.args.rows c.args.row_names.now c.loop-i.i 0 t) at c.if-name-g.false)))

pub returns : goal.returns
returns c =
    let wide : c.args.rows ≤ length c.args.row_names.now = rw c.told-row_names c.requires.0 in
    let e : c.loop-i.i ≡ c.args.rows = omega (arith, length-take-le c.args.rows c.args.row_names.now wide, c.loop-i-test.false, c.loop-i.invariant.0) in gathered _ _ _ _ _ _ _ _ _ _ _ _ _ (rw e at c.loop-i.invariant.1)

pub bounds-members-r : goal.bounds-members-r
bounds-members-r c =
    let wide : c.args.rows ≤ length c.args.row_names.now = rw c.told-row_names c.requires.0 in
    let t : c.loop-i.i < c.args.rows = rw (length-take-le c.args.rows c.args.row_names.now wide) at c.loop-i-test.true in
    omega (arith, gather_member _ _ _ _ _ _ _ _ _ _ _ _ _ _ c.requires.0 c.requires.1 t c.loop-i.invariant.1)
