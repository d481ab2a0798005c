-- What `set_class_prior` asks, and the tracker with the prior set. Assumes nothing.
use Rattle.std.specs.Prelude.{Some, None}
use mathlib.Core.Path.{◌≡◌, ap, ◌∙◌}
use mathlib.Core.Bool.{true, false}
use mathlib.Core.List.{List}
use Prim.Native.Nat.{ℕ}
use lib.Ieee.{Float}
use lib.Ieee.Scale.{finite}
use Rattle.number.specs.Reply.{refused, given}
use Rattle.number.specs.Float.{clamp_of}
use Rattle.lists.specs.First.{first_at, change_first}
use Rattle.lists.proofs.Firsts.{any_nowhere, any_somewhere}
use Rattle.types.specs.declared.track.Track3D.{Track3D}
use Rattle.types.specs.declared.tracker.Cartesian3DTracker.{Cartesian3DTracker}
use Rattle.types.specs.Track.{with_prior}
use Rattle.types.specs.States.{State, state_with, state_of, tracks_of, sequences_of, candidates_of, over_tracks, over_state}
use Rattle.types.proofs.Overs.{tracks_anew}
use Rattle.tables.specs.Operations.{numbered}
use Rattle.calls.specs.Prior.{prior_reply}
use Rattle.stages.proofs.Settled.{tracks_settled}

module _ (t : Cartesian3DTracker) (n label : ℕ) (confidence : Float) where
  pub prior_not_finite : finite confidence ≡ false → refused 12 ≡ prior_reply (state_of t) n label confidence
  unfolding prior_reply
  prior_not_finite e = rw e

  pub prior_nowhere : finite confidence ≡ true → first_at (numbered n) (tracks_of t) ≡ None → refused 12 ≡ prior_reply (state_of t) n label confidence
  unfolding prior_reply state_of
  prior_nowhere e h = rw (e, any_nowhere (numbered n) (tracks_of t) h)

  abbrev set : List Track3D → List Track3D
  set l = change_first (numbered n) (with_prior (Some (record { label = label; confidence = clamp_of confidence }))) l

  -- the state with the prior set
  abbrev pub after : State
  after = state_with (set (tracks_of t)) (sequences_of t) (candidates_of t) (state_of t)

  pub prior_somewhere : (i : ℕ) → finite confidence ≡ true → first_at (numbered n) (tracks_of t) ≡ Some i → given after ≡ prior_reply (state_of t) n label confidence
  unfolding prior_reply state_of
  prior_somewhere i e h = rw (e, any_somewhere (numbered n) (tracks_of t) i h)

  pub prior_laid : (v u : Cartesian3DTracker) (x : Float) → v ≡ over_state t (state_of t) → x ≡ clamp_of confidence
      → u ≡ over_tracks v (change_first (numbered n) (with_prior (Some (record { label = label; confidence = x }))) (tracks_of v)) → u ≡ over_state t after
  prior_laid v u x ev ex eu =
      eu
      ∙ (λ i. over_tracks (ev i) (change_first (numbered n) (with_prior (Some (record { label = label; confidence = ex i }))) (tracks_of (ev i))))
      ∙ ap (λ (l : List Track3D). over_tracks (over_state t (state_of t)) (set l)) (tracks_settled t)
      ∙ tracks_anew t (set (tracks_of t))
