use Rattle.std.proofs.Common.{◌≡◌, ◌+◌, ◌*◌, refl, ◌∙◌, arith}
use Rattle.kuhn_munkres.specs.Binary64.{float}
use Rattle.hungarian.specs.Passes.{paid}
use Rattle.hungarian.proofs.LoopTurns.{paid_free}
use Rattle.hungarian.proofs.pay.Goals as goal
use Rattle.hungarian.proofs.pay.Goals.{then-not-free8, else-not-free8}

pub loop-block-init : goal.loop-block-init
unfolding paid
loop-block-init c = refl

pub loop-block-preserved : goal.loop-block-preserved
loop-block-preserved c =
    let k = 8 * c.loop-block.block in
    let e : 8 * (c.loop-block.block + 1) ≡ k + 8 = omega arith in
    elim c.if-not-free8.branch [
      | then-not-free8 w ↦ rw (e, w.u-is, w.v-is) (w.pay_from.ensures _ c.loop-block.invariant)
      | else-not-free8 w ↦ let h = w.if-not-free8.false in rw (e, w.u-is, w.v-is) (c.loop-block.invariant ∙ paid_free float c.args.used.now c.args.p.now c.args.delta _ k (rw h at c.free8.ensures))
    ]
