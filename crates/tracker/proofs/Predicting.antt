-- What a prediction answers: too early, refused on the way, or the tracker at its time. Assumes nothing.
use mathlib.Core.Path.{◌≡◌, refl}
use mathlib.Core.Bool.{true, false}
use mathlib.Core.List.{List}
use Prim.Native.Nat.{ℕ}
use lib.IntN.{ℤ}
use Rattle.number.specs.Reply.{Reply, refused, given}
use Rattle.types.specs.declared.track.Track3D.{Track3D}
use Rattle.types.specs.declared.tracker.Cartesian3DTracker.{Cartesian3DTracker}
use Rattle.types.specs.States.{state_of, tracks_of, sequences_of, candidates_of, state_with, over_state}
use Rattle.batches.specs.Check.{is_before}
use Rattle.calls.specs.Predict.{at_time, predicted_tracks, predict_reply}
use Rattle.moving.specs.Steps.{with_time}

module _ (t : Cartesian3DTracker) (now : ℤ) where
  abbrev moves : Reply (List Track3D)
  moves = predicted_tracks t.config now (tracks_of t)

  pub time_set : (l : List Track3D) → with_time now (over_state t (state_with l (sequences_of t) (candidates_of t) (state_of t))) ≡ over_state t (at_time now l (state_of t))
  unfolding over_state state_of
  time_set l = refl

  -- ---- the call

  pub too_early : is_before (t.last_time) now ≡ true → refused 3 ≡ predict_reply t.config (state_of t) now
  unfolding predict_reply state_of
  too_early e = rw e

  pub not_moved : (n : ℕ) → is_before (t.last_time) now ≡ false → moves ≡ refused n → refused n ≡ predict_reply t.config (state_of t) now
  unfolding predict_reply state_of
  not_moved n e m = rw (e, m)

  pub all_there : (l : List Track3D) → is_before (t.last_time) now ≡ false → moves ≡ given l → given (at_time now l (state_of t)) ≡ predict_reply t.config (state_of t) now
  unfolding predict_reply state_of
  all_there l e m = rw (e, m)
