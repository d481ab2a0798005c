-- How the records lie in memory: the numbers of the header's static assertions. Assumes nothing.
use mathlib.Core.Path.{◌≡◌, refl}
use mathlib.Core.List.{[], ◌∷◌}
use prog.Memory.{size, align}
use Rattle.filter.proofs.KalmanFilter.TheLaws as filter
use Rattle.lifecycle.proofs.LifecycleConfig.TheLaws as lifecycle
use Rattle.lifecycle.proofs.sensors.Sensors.TheLaws as sensors
use Rattle.settings.proofs.frame.FrameName.TheLaws as frame
use Rattle.types.proofs.tracker.SensorSequence.TheLaws as sequence
use Rattle.types.proofs.tracker.BirthCandidate.TheLaws as candidate
use Rattle.records.specs.Layout.{offsets}
use Rattle.records.proofs.tracks.PkTrack.TheLaws as track
use Rattle.records.proofs.config.PkSettings.TheLaws as settings
use Rattle.records.proofs.tracker.PkTracker.TheLaws as tracker

pub sizes : (size track.mir ∷ size settings.mir ∷ size tracker.mir ∷ []) ≡ (504 ∷ 184 ∷ 35560 ∷ [])
sizes = refl

pub part_sizes : (size frame.mir ∷ size lifecycle.mir ∷ size sensors.mir ∷ size filter.mir ∷ size sequence.mir ∷ size candidate.mir ∷ []) ≡ (40 ∷ 32 ∷ 72 ∷ 336 ∷ 16 ∷ 40 ∷ [])
part_sizes = refl

pub tracker_aligned : align tracker.mir ≡ 8
tracker_aligned = refl

pub part_offsets : (offsets frame.mir ∷ offsets lifecycle.mir ∷ offsets sensors.mir ∷ offsets filter.mir ∷ offsets sequence.mir ∷ offsets candidate.mir ∷ [])
    ≡ ((0 ∷ 32 ∷ []) ∷ (0 ∷ 8 ∷ 16 ∷ 24 ∷ []) ∷ (0 ∷ 64 ∷ []) ∷ (0 ∷ 48 ∷ []) ∷ (0 ∷ 8 ∷ []) ∷ (0 ∷ 24 ∷ 32 ∷ []) ∷ [])
part_offsets = refl

pub settings_offsets : offsets settings.mir ≡ (0 ∷ 32 ∷ 40 ∷ 80 ∷ 88 ∷ 96 ∷ 104 ∷ 112 ∷ 120 ∷ 128 ∷ 136 ∷ 144 ∷ 152 ∷ 160 ∷ 164 ∷ 168 ∷ 172 ∷ 176 ∷ 180 ∷ [])
settings_offsets = refl

pub track_offsets : offsets track.mir ≡ (0 ∷ 8 ∷ 344 ∷ 352 ∷ 360 ∷ 368 ∷ 376 ∷ 384 ∷ 456 ∷ 460 ∷ 464 ∷ 468 ∷ 472 ∷ 476 ∷ 480 ∷ 484 ∷ 488 ∷ 492 ∷ 496 ∷ 500 ∷ [])
track_offsets = refl

pub tracker_offsets : offsets tracker.mir ≡ (0 ∷ 32256 ∷ 32264 ∷ 32272 ∷ 32280 ∷ 32792 ∷ 32800 ∷ 35360 ∷ 35368 ∷ 35552 ∷ 35556 ∷ [])
tracker_offsets = refl
