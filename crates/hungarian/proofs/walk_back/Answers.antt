use borrow.Author.Tests.{eq-eqb, ne_eqb}
use mathlib.Core.Path.{◌≡◌, refl, sym, ◌∙◌}
use mathlib.Core.Bool.{true, false}
use Prim.Native.Nat.{suc, ◌+◌, ◌-◌}
use native.Mathlib.Omega.{arith}
use Rattle.kuhn_munkres.specs.Binary64.{float}
use Rattle.kuhn_munkres.specs.Steps.{back}
use Rattle.kuhn_munkres.proofs.Ranges.{back_on}
use Rattle.hungarian.proofs.walk_back.Goals as goal

pub loop-t-init : goal.loop-t-init
loop-t-init c = let e : c.args.n + 1 - 0 ≡ c.args.n + 1 = omega arith in (omega arith, refl, c.requires.1, rw e)

pub returns-then-j1-eq0 : goal.returns-then-j1-eq0
returns-then-j1-eq0 c = let n = c.args.n in let w = c.args.way.now in let k = n - c.loop-t.t in let e : n + 1 - c.loop-t.t ≡ suc k = omega arith in sym (back_on float k w _ c.loop-t.j0 true (eq-eqb _ _ c.if-j1-eq0.true)) ∙ (rw e at c.loop-t.invariant.3)

pub loop-t-preserved : goal.loop-t-preserved
loop-t-preserved c = let n = c.args.n in let w = c.args.way.now in let k = n - c.loop-t.t in let e : n + 1 - c.loop-t.t ≡ suc k = omega arith in let e' : n + 1 - (c.loop-t.t + 1) ≡ k = omega arith in (omega arith, refl, c.requires.2 c.loop-t.j0, rw e' (sym (back_on float k w _ c.loop-t.j0 false (ne_eqb _ _ c.if-j1-eq0.false)) ∙ (rw e at c.loop-t.invariant.3)))

pub returns : goal.returns
unfolding back
returns c = let e : c.args.n + 1 - c.loop-t.t ≡ 0 = omega arith in rw e at c.loop-t.invariant.3
