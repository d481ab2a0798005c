use mathlib.Core.Path.{sym, ◌∙◌}
use Prim.Native.Nat.{◌-◌}
use native.Mathlib.Omega.{arith}
use borrow.Author.Rules.{rules}
use Rattle.lists.proofs.Laying.{length_mapped}
use Rattle.batch_records.specs.Batches.{detection_of}
use Rattle.lists.proofs.Filling.{filled_start, filled_more, filled_all}
use Rattle.batch_records.proofs.detections_of.Goals as goal

pub loop-i-init : goal.loop-i-init
loop-i-init c = (search rules, search (rules, length_mapped), search rules, filled_start detection_of _ _)

pub loop-i-preserved : goal.loop-i-preserved
loop-i-preserved c =
    let v = c.loop-i.invariant in
    (search rules, v.1, v.2, rw c.detection_of.ensures (filled_more detection_of _ _ _ _ _ v.3 (omega (arith, v.1)) (omega (arith, v.2))))

pub returns : goal.returns
returns c =
    let l = c.loop-i in
    let v = l.invariant in
    filled_all detection_of _ _ _ l.i (v.1 ∙ sym v.2) v.3 (omega (arith, v.1))
