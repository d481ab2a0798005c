use Rattle.std.proofs.Common.{arith, sym, ap, ◌∙◌, ◌+◌}
use lib.ListN.{drop}
use lib.Ieee.{Float}
use Rattle.kuhn_munkres.specs.Assignment.{largest}
use Rattle.assignment.proofs.Picking.{largest_skip, largest_take, largest_done}
use Rattle.assignment.proofs.table.largest_finite.Goals as goal

pub loop-x-preserved-then-is_finite : goal.loop-x-preserved-then-is_finite
loop-x-preserved-then-is_finite c =
    ap (λ (x : Float). largest x (drop (c.loop-x.x-index + 1) c.args.costs.now)) c.larger-m.ensures ∙ largest_take _ _ _ c.loop-x-test.true (sym c.is_finite.ensures ∙ c.if-is_finite.true) ∙ c.loop-x.invariant

pub loop-x-preserved : goal.loop-x-preserved
loop-x-preserved c = largest_skip _ _ _ c.loop-x-test.true (sym c.is_finite.ensures ∙ c.if-is_finite.false) ∙ c.loop-x.invariant

pub returns : goal.returns
returns c = sym (largest_done c.loop-x.m c.args.costs.now c.loop-x.x-index (omega arith)) ∙ c.loop-x.invariant
