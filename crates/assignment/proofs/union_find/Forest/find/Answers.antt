use mathlib.Core.Path.{refl}
use native.Mathlib.Omega.{arith}
use lib.ListN.{get_or}
use Rattle.assignment.proofs.Climbing.{next_in, goes_up, climb}
use Rattle.assignment.proofs.union_find.Forest.find.Goals as goal

pub loop-self-init : goal.loop-self-init
loop-self-init c = (record { inside = c.requires.0; forest = λ k f. f; roots = λ z l e. e; stay = λ z l e. e; kept = λ label L. (L, refl); ranks = c.requires.1 }, refl)

pub loop-self-preserved : goal.loop-self-preserved
loop-self-preserved c = (climb _ _ _ _ _ c.loop-self.invariant.0 c.loop-self-test.true, c.loop-self.invariant.1)

pub returns : goal.returns
returns c = let i = c.loop-self.invariant.0 in (record { inside = i.inside; root = c.loop-self-test.false; forest = i.forest; roots = i.roots; stay = i.stay; kept = i.kept }, c.loop-self.invariant.1)

pub offset_bounds-self-p : goal.offset_bounds-self-p
offset_bounds-self-p c = omega (arith, next_in _ _ _ _ _ c.loop-self.invariant.0)

pub bounds-self-p : goal.bounds-self-p
bounds-self-p c = next_in _ _ _ _ _ c.loop-self.invariant.0

pub loop-self-smaller : goal.loop-self-smaller
loop-self-smaller c = let i = c.loop-self.invariant.0 in let F = i.forest i.ranks.k i.ranks.forest in
    omega (arith, goes_up _ _ _ _ _ i c.loop-self-test.true, F.cap c.loop-self.y, F.cap (get_or c.loop-self.self.parent (get_or c.loop-self.self.parent c.loop-self.y 0) 0))
