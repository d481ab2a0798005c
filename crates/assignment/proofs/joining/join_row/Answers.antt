use native.Mathlib.Omega.{arith}
use mathlib.Core.Path.{◌≡◌, sym, ap, ◌∙◌}
use Prim.Native.Nat.{◌<◌}
use lib.Ieee.Scale.{finite}
use Rattle.assignment.proofs.RowJoins.{part_long, part_at, row_ranked, row_skip, row_touch, row_none}
use Rattle.assignment.proofs.joining.join_row.Goals as goal

pub loop-j-init : goal.loop-j-init
loop-j-init c = (omega arith, row_none _ _ _ _ _ _)

pub union-requires : goal.union-requires
union-requires c =
    let t : c.loop-j.j < c.args.columns = rw (part_long c.args.costs.now c.args.at c.args.columns c.requires.0) at c.loop-j-test.true in
    (c.requires.2, omega (arith, c.requires.1, t), row_ranked _ _ _ _ _ _ _ _ _ _ c.requires.3 c.loop-j.invariant.1 t)

pub loop-j-preserved-then-is_finite : goal.loop-j-preserved-then-is_finite
loop-j-preserved-then-is_finite c =
    let t : c.loop-j.j < c.args.columns = rw (part_long c.args.costs.now c.args.at c.args.columns c.requires.0) at c.loop-j-test.true in
    (omega (arith, t), row_touch _ _ _ _ _ _ _ _ _ _ c.requires.3 c.loop-j.invariant.1 t (ap finite (sym (part_at c.args.costs.now c.args.at c.args.columns c.loop-j.j t)) ∙ sym c.is_finite.ensures ∙ c.if-is_finite.true) _ _ c.union.ensures)

pub loop-j-preserved : goal.loop-j-preserved
loop-j-preserved c =
    let t : c.loop-j.j < c.args.columns = rw (part_long c.args.costs.now c.args.at c.args.columns c.requires.0) at c.loop-j-test.true in
    (omega (arith, t), row_skip _ _ _ _ _ _ _ _ _ _ c.requires.3 c.loop-j.invariant.1 t (ap finite (sym (part_at c.args.costs.now c.args.at c.args.columns c.loop-j.j t)) ∙ sym c.is_finite.ensures ∙ c.if-is_finite.false))

pub returns : goal.returns
returns c = let e : c.loop-j.j ≡ c.args.columns = omega (arith, part_long c.args.costs.now c.args.at c.args.columns c.requires.0, c.loop-j-test.false, c.loop-j.invariant.0) in rw e at c.loop-j.invariant.1
