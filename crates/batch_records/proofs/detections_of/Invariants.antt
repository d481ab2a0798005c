use mathlib.Core.Path.{◌≡◌}
use Prim.Native.Nat.{◌≤◌, ◌-◌}
use lib.ListN.{length}
use Rattle.batch_records.specs.Batches.{detection_of}
use Rattle.lists.proofs.Filling.{Filled}
use Rattle.batch_records.proofs.detections_of.Given as goal

abbrev pub invariant-loop-i : goal.invariant-loop-i
invariant-loop-i l = (l.i ≤ 64) × (length l.b.detections ≡ 64) × (length l.initial.out ≡ 64) × Filled detection_of l.b.detections l.initial.out l.out l.i
