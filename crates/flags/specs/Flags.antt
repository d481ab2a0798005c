-- What a C program holds in the place of an enum or of a value that may be missing. An exported function may reach no enum, so such a value is a flag and a value: a flag of 0 says that it is missing,
-- any other number that it is there. `flagged` reads such a pair, whatever stands in it; `flag` and `unwrap_or` write one, with 1 for a value that is there, and 0 and zero for one that is not.
use Rattle.detections.specs.declared.pairs.ClassPrior.{ClassPrior}
use Rattle.detections.specs.declared.PlanarVelocity.{PlanarVelocity}
use Rattle.std.specs.Prelude.{Bool, true, false, cond, ℕ, eqb, Float, None, Option, Some}
use Rattle.std.specs.Float.{binary64}
use Rattle.std.specs.Float.Ieee.{of_bits}
use Rattle.lifecycle.specs.declared.TrackLifecycleState.{TrackLifecycleState}
use Rattle.lifecycle.specs.declared.TrackLifecycleState.TheVariants.{Tentative, Confirmed, Lost, Deleted}
use Rattle.types.specs.declared.batch.ObservationOutcome.{ObservationOutcome}
use Rattle.types.specs.declared.batch.ObservationOutcome.TheVariants.{Updated, Spawned, Unmatched}

abbrev pub flagged : {A : Type 0} → ℕ → A → Option A
flagged has x = cond (eqb has 0) None (Some x)

abbrev pub flag : {A : Type 0} → Option A → ℕ
flag None = 0
flag (Some x) = 1

abbrev pub prior_of : ℕ → ℕ → Float → Option ClassPrior
prior_of has label confidence = flagged has (record { label = label; confidence = confidence })

abbrev pub the_prior : Option ClassPrior → ℕ
the_prior None = 0
the_prior (Some p) = p.label

abbrev pub the_confidence : Option ClassPrior → Float
the_confidence None = of_bits binary64 0
the_confidence (Some p) = p.confidence

-- a mark: 0 is false, and any other number true
abbrev pub mark_of : ℕ → Bool
mark_of n = cond (eqb n 0) false true

abbrev pub mark_to : Bool → ℕ
mark_to true = 1
mark_to false = 0

-- the lifecycle's states; a number that is none of theirs is read as the last one
abbrev pub life_of : ℕ → TrackLifecycleState
life_of n = cond (eqb n 0) Tentative (cond (eqb n 1) Confirmed (cond (eqb n 2) Lost Deleted))

abbrev pub life_to : TrackLifecycleState → ℕ
life_to Tentative = 0
life_to Confirmed = 1
life_to Lost = 2
life_to Deleted = 3

abbrev pub velocity_of : ℕ → Float → Float → Option PlanarVelocity
velocity_of has x y = flagged has (record { x = x; y = y })

-- what became of a detection
abbrev pub outcome_to : ObservationOutcome → ℕ
outcome_to Updated = 1
outcome_to Spawned = 2
outcome_to Unmatched = 0
