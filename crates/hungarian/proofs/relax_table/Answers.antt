use mathlib.Core.Path.{◌≡◌, sym, ◌∙◌}
use native.Mathlib.Omega.{arith}
use Rattle.kuhn_munkres.specs.Binary64.{float}
use Rattle.hungarian.proofs.LoopTurns.{relaxed_step}
use Rattle.hungarian.proofs.relax_table.Goals as goal

pub loop-k-init : goal.loop-k-init
loop-k-init c = (omega arith, omega arith, λ a h s q. q)

pub loop-k-preserved : goal.loop-k-preserved
loop-k-preserved c = let A = c.args in (omega arith, omega arith, λ a h s q. relaxed_step float a A.ui A.v.now A.j0 s c.loop-k.k c.allowed-e.result _ _ _ (h c.loop-k.k (omega arith) (omega arith) ∙ sym c.allowed-e.ensures) (c.loop-k.invariant.2 a (λ i x y. h i x (omega arith)) s q) c.lesser.ensures c.from.ensures)

pub returns : goal.returns
returns c = λ a h s q. let e : c.loop-k.k ≡ c.args.hi = omega arith in rw e at (c.loop-k.invariant.2 a (λ i x y. h i x (omega arith)) s q)
