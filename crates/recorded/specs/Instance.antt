-- Calls of a whole tracker and two batches after them that differ by far detections: an instance of demand 3, and batches that show what its conditions are for.
use Rattle.types.specs.declared.refusal.Refusal.{Refusal}
use Rattle.std.specs.Prelude.{◌≡◌, Bool, true, false, ◌&&◌, List, [], ◌∷◌, map, ℤ, pos, Err, None, Ok, Option, Result, Some}
use Rattle.std.specs.Float.{binary64}
use Rattle.std.specs.Float.Ieee.{of_bits}
use Rattle.number.specs.Reply.{Reply, refused, given}
use Rattle.lifecycle.specs.declared.TrackLifecycleState.TheVariants.{Tentative}
use Rattle.settings.specs.declared.Cartesian3DTrackerConfig.{Cartesian3DTrackerConfig}
use Rattle.settings.specs.Settings.{default_settings}
use Rattle.detections.specs.declared.Detection.{Detection}
use Rattle.detections.specs.declared.pairs.PairConfig.{PairConfig}
use Rattle.detections.specs.declared.pairs.Ruling.{Ruling}
use Rattle.detections.specs.declared.pairs.Ruling.TheVariants.{Allowed, Forbidden}
use Rattle.types.specs.declared.refusal.Refusal.TheVariants.{TimestampWentBackwards, InvalidPrior}
use Rattle.types.specs.declared.track.Track3D.{Track3D}
use Rattle.types.specs.declared.batch.ObservationBatch3D.{ObservationBatch3D}
use Rattle.types.specs.declared.tracker.Cartesian3DTracker.{Cartesian3DTracker}
use Rattle.types.specs.Refusals.{reply_of}
use Rattle.types.specs.States.{State, state_of}
use Rattle.types.specs.Fresh.{fresh_of}
use Rattle.matrix.specs.Matrix.{nought}
use Rattle.calls.specs.Predict.{predicted_tracks}
use Rattle.calls.specs.Pairing.{pair_config, verdict}
use Rattle.calls.specs.Process.{Done, process_reply}
use Rattle.calls.specs.Run.{Call, predict_to, process_batch, set_class_prior, state_reply}
use Rattle.calls.specs.Numbers.{track_of}
use Rattle.calls.specs.Answers.{verdict_on, tracker_after}
use Rattle.recorded.specs.Edges.{seen, batch, standing, state_in, told, began, met}

-- ---- calls of a whole tracker

abbrev pub after_call : Cartesian3DTracker → Call → Cartesian3DTracker
after_call t call = tracker_after t (state_reply t.config (state_of t) call)

-- what these calls leave
unfoldable pub after_calls : Cartesian3DTracker → List Call → Cartesian3DTracker
after_calls t [] = t
after_calls t (call ∷ calls) = after_calls (after_call t call) calls

-- whether each is carried out, or its refusal
unfoldable pub verdicts_on : Cartesian3DTracker → List Call → List (Reply (Unit {0}))
verdicts_on t [] = []
verdicts_on t (call ∷ calls) = verdict_on (state_reply t.config (state_of t) call) ∷ verdicts_on (after_call t call) calls

-- ---- whether a detection is far, by computing

abbrev pub forbids : Reply Ruling → Bool
forbids (refused n) = true
forbids (given (Forbidden rule)) = true
forbids (given (Allowed cost)) = false

unfoldable pub all_forbid : PairConfig → List Track3D → Detection → Bool
all_forbid c [] d = true
all_forbid c (t ∷ ts) d = forbids (verdict c t d) && all_forbid c ts d

abbrev pub far_among : PairConfig → Reply (List Track3D) → Detection → Bool
far_among c (refused n) d = true
far_among c (given ts) d = all_forbid c ts d

abbrev pub is_far : Cartesian3DTrackerConfig → State → ℤ → Detection → Bool
is_far c s now d = far_among (pair_config c) (predicted_tracks c now s.tracks) d

-- ---- the instance

-- A birth, a move, a move back that is refused, a prior, and one for a track that isn't there.
abbrev pub calls : List Call
calls =
    process_batch (batch 1 (pos 1000000000) (seen 0 None ∷ []) 1)
    ∷ predict_to (pos 1100000000)
    ∷ predict_to (pos 5)
    ∷ set_class_prior 1 3 (of_bits binary64 0x3fe0_0000_0000_0000)
    ∷ set_class_prior 9 3 (of_bits binary64 0x3fe0_0000_0000_0000)
    ∷ []

abbrev pub outcomes : List (Result (Unit {0}) Refusal)
outcomes = Ok tt ∷ Ok tt ∷ Err TimestampWentBackwards ∷ Ok tt ∷ Err InvalidPrior ∷ []

abbrev pub start : Cartesian3DTracker
start = fresh_of default_settings

abbrev pub before : Cartesian3DTracker
before = after_calls start calls

abbrev pub reply_to : ObservationBatch3D → Reply Done
reply_to b = process_reply before.config (state_of before) b

-- later than the calls, so that the track moves
abbrev pub now : ℤ
now = pos 1200000000

abbrev pub near : Detection
near = seen 0 None

-- far, and common
abbrev pub apart : Detection
apart = seen 90 None

-- far, and struck
abbrev pub away : Detection
away = seen 50 None

-- it stands first
abbrev pub far_first : ObservationBatch3D
far_first = batch 2 now (away ∷ near ∷ apart ∷ []) 3

-- last
abbrev pub far_last : ObservationBatch3D
far_last = batch 2 now (near ∷ apart ∷ away ∷ []) 3

-- none
abbrev pub far_none : ObservationBatch3D
far_none = batch 2 now (near ∷ apart ∷ []) 2

-- with the near one struck
abbrev pub near_struck : ObservationBatch3D
near_struck = batch 2 now (apart ∷ []) 1

abbrev pub mark_of : Option Track3D → Option Bool
mark_of None = None
mark_of (Some t) = Some t.updated_this_batch

-- ---- track numbers that don't ascend below the next one

-- an expired track of the number 5, which is the next one
abbrev pub number_twice : State
number_twice = record { tracks = standing Tentative (pos 200) 0 5 ∷ []; next = 5; last = None; sequences = []; candidates = [] }

abbrev pub one : ObservationBatch3D
one = batch 1 (pos 9000000000) (near ∷ []) 1

abbrev pub nothing : ObservationBatch3D
nothing = batch 1 (pos 9000000000) [] 0

-- ---- what is to be computed

pub record Facts : Type 0 where
  pub answered : map reply_of outcomes ≡ verdicts_on start calls
  pub far : is_far start.config (state_of before) now away ≡ true
  -- a far one first takes the number of the track that a common one begins
  pub told_first : told (reply_to far_first) ≡ began 0 2 ∷ met 1 1 nought ∷ began 2 3 ∷ []
  pub told_last : told (reply_to far_last) ≡ met 0 1 nought ∷ began 1 2 ∷ began 2 3 ∷ []
  -- with the near one the track is updated, and without it not
  pub marked : mark_of (track_of 1 (state_in (reply_to far_none)).tracks) ≡ Some true
  pub unmarked : mark_of (track_of 1 (state_in (reply_to near_struck)).tracks) ≡ Some false
  -- the far detection begins a second track 5, and without it no track 5 is kept
  pub far_one : is_far default_settings number_twice (pos 9000000000) near ≡ true
  pub kept_one : mark_of (track_of 5 (state_in (process_reply default_settings number_twice one)).tracks) ≡ Some true
  pub accepted_nothing : verdict_on (process_reply default_settings number_twice nothing) ≡ given tt
  pub dropped_nothing : mark_of (track_of 5 (state_in (process_reply default_settings number_twice nothing)).tracks) ≡ None
