-- `pairing::mates_of` meets its contract: from the last column to the first, the rows of the columns from j on have their columns. Assumes nothing.
use mathlib.Core.Path.{◌≡◌, subst}
use lib.ListN.{length}
use Prim.Native.Nat.{ℕ, suc, ◌-◌}
use native.Mathlib.Omega.{arith}
use Rattle.pairing.proofs.Mating.{Mating, mating_none, mating_skip, mating_take}
use Rattle.pairing.proofs.mates_of.Goals as goal

pub loop-j-init : goal.loop-j-init
loop-j-init c = (omega arith, mating_none _ _ _ (omega arith) c.requires.1)

pub loop-j-preserved-then-i-lt64 : goal.loop-j-preserved-then-i-lt64
loop-j-preserved-then-i-lt64 c =
    let t = c.loop-j-test.true in
    let e : c.loop-j.j ≡ suc (c.loop-j.j - 1) = omega arith in
    (omega arith, mating_take _ _ (c.loop-j.j - 1) _ (omega (arith, c.loop-j.invariant.0)) (omega arith) (subst (λ (k : ℕ). Mating c.args.takers.now (length c.args.takers.now) k c.loop-j.mates) e c.loop-j.invariant.1) c.if-i-lt64.true)

pub loop-j-preserved : goal.loop-j-preserved
loop-j-preserved c =
    let t = c.loop-j-test.true in
    let e : c.loop-j.j ≡ suc (c.loop-j.j - 1) = omega arith in
    (omega arith, mating_skip _ _ (c.loop-j.j - 1) _ (omega (arith, c.loop-j.invariant.0)) (omega arith) (subst (λ (k : ℕ). Mating c.args.takers.now (length c.args.takers.now) k c.loop-j.mates) e c.loop-j.invariant.1) c.if-i-lt64.false)
