use mathlib.Core.Path.{◌≡◌}
use Prim.Native.Nat.{◌≤◌, ◌-◌}
use lib.ListN.{length}
use Rattle.batch_records.specs.Batches.{association_to}
use Rattle.lists.proofs.Filling.{Filled}
use Rattle.batch_records.proofs.associations_to.Given as goal

abbrev pub invariant-loop-i : goal.invariant-loop-i
invariant-loop-i l = (l.i ≤ 64) × (length l.r.associations ≡ 64) × (length l.initial.out ≡ 64) × Filled association_to l.r.associations l.initial.out l.out l.i
