-- How a batch and a report lie in memory: the numbers of the header's static assertions. Assumes nothing.
use mathlib.Core.Path.{◌≡◌, refl}
use mathlib.Core.List.{[], ◌∷◌}
use prog.Memory.{size}
use Rattle.records.specs.Layout.{offsets}
use Rattle.batch_records.proofs.PkDetection.TheLaws as detection
use Rattle.batch_records.proofs.PkBatch.TheLaws as batch
use Rattle.batch_records.proofs.PkAssociation.TheLaws as association
use Rattle.batch_records.proofs.PkReport.TheLaws as report

pub sizes : (size detection.mir ∷ size batch.mir ∷ size association.mir ∷ size report.mir ∷ []) ≡ (136 ∷ 8776 ∷ 40 ∷ 3104 ∷ [])
sizes = refl

pub detection_offsets : offsets detection.mir ≡ (0 ∷ 24 ∷ 96 ∷ 112 ∷ 120 ∷ 124 ∷ 128 ∷ 132 ∷ [])
detection_offsets = refl

pub batch_offsets : offsets batch.mir ≡ (0 ∷ 8 ∷ 16 ∷ 56 ∷ 60 ∷ 64 ∷ 72 ∷ [])
batch_offsets = refl

pub association_offsets : offsets association.mir ≡ (0 ∷ 8 ∷ 16 ∷ 24 ∷ 28 ∷ 32 ∷ 36 ∷ [])
association_offsets = refl

pub report_offsets : offsets report.mir ≡ (0 ∷ 4 ∷ 8 ∷ 16 ∷ 24 ∷ 32 ∷ 2592 ∷ [])
report_offsets = refl
