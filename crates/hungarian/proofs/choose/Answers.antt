use Rattle.std.proofs.Common.{◌≡◌, ◌+◌, ◌*◌, refl, sym, ap, ◌∙◌, arith}
use lib.Ieee.{Float, of_bits, of_fields, odd}
use lib.Count.{count_trailing_zeros}
use Rattle.kuhn_munkres.specs.Binary64.{float}
use Rattle.hungarian.specs.Passes.{Least, chosen}
use Rattle.hungarian.proofs.LoopTurns.{quiet_chosen}
use Rattle.hungarian.proofs.choose.Goals as goal
use Rattle.hungarian.proofs.choose.Goals.{then-not-quiet, else-not-quiet}

pub loop-block-init : goal.loop-block-init
unfolding chosen of_bits of_fields odd count_trailing_zeros
loop-block-init c = refl

pub loop-block-preserved : goal.loop-block-preserved
loop-block-preserved c =
    let k = 8 * c.loop-block.block in
    let e : 8 * (c.loop-block.block + 1) ≡ k + 8 = omega arith in
    elim c.if-not-quiet.branch [
      | then-not-quiet w ↦ rw (e, w.b-is) w.choose_from-b.ensures
      | else-not-quiet w ↦ let h = w.if-not-quiet.false in rw (e, w.b-is) (c.loop-block.invariant ∙ sym (quiet_chosen float c.args.minv.now k c.loop-block.b.delta (ap (λ (x : Least Float). x.delta) c.loop-block.invariant) (rw h at c.quiet.ensures)))
    ]
