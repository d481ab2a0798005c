-- The tracks of a tracker at a time: what the move of all of them leaves. Assumes nothing.
use mathlib.Core.Path.{◌≡◌, sym, ap, ◌∙◌}
use mathlib.Core.Bool.{false}
use mathlib.Core.List.{List, map}
use Prim.Native.Nat.{ℕ}
use native.Mathlib.Omega.{arith}
use lib.IntN.{ℤ}
use lib.ListN.{length-map}
use Rattle.number.specs.Reply.{Reply, refused, given, and_then}
use Rattle.types.specs.declared.track.Track3D.{Track3D}
use Rattle.types.specs.declared.tracker.Cartesian3DTracker.{Cartesian3DTracker}
use Rattle.types.specs.States.{State, state_of, tracks_of, sequences_of, candidates_of, state_with, over_tracks, over_state}
use Rattle.types.specs.Track.{with_mark}
use Rattle.types.proofs.Overs.{tracks_anew, tracks_again, settings_over, state_over}
use Rattle.calls.specs.Predict.{predicted_tracks}
use Rattle.number.proofs.Replies.{bound, given_same}
use Rattle.moving.specs.Steps.{moved_tracks}
use Rattle.moving.proofs.Tracks.{refused_before}
use Rattle.stages.specs.Stages.{tracks_in, laid_over, prepared_state}
use Rattle.stages.proofs.Settled.{tracks_settled}

pub tracks_held : (u : Cartesian3DTracker) (s : State) → tracks_of (over_state u s) ≡ s.tracks
unfolding state_of
tracks_held u s = ap (λ (y : State). y.tracks) (unfold state_of in state_over u s)

module _ (t : Cartesian3DTracker) (now : ℤ) where
  abbrev moves : Reply (List Track3D)
  moves = predicted_tracks t.config now (tracks_of t)

  -- the move starts from the tracker with its counts settled
  pub moved_settled : (v : Cartesian3DTracker) → v ≡ over_state t (state_of t) → moved_tracks v now ≡ and_then moves (λ ts. given (over_tracks v ts))
  unfolding moved_tracks
  moved_settled v e =
      let c : v.config ≡ t.config = ap (λ (u : Cartesian3DTracker). u.config) e ∙ settings_over t (state_of t) in
      let l : tracks_of v ≡ tracks_of t = ap tracks_of e ∙ tracks_settled t in
      λ i. and_then (predicted_tracks (c i) now (l i)) (λ ts. given (over_tracks v ts))

  module _ (v : Cartesian3DTracker) (settled : v ≡ over_state t (state_of t)) where
    pub move_refused : (n : ℕ) → refused n ≡ moved_tracks v now → moves ≡ refused n
    move_refused n e = refused_before moves (over_tracks v) n (sym (e ∙ moved_settled v settled))

    -- the tracks that are left, in the tracker that has seen this time
    pub record Moved (w : Cartesian3DTracker) : Type 0 where
      pub tracks : List Track3D
      pub given_they : moves ≡ given tracks
      pub whole : w ≡ over_state t (state_with tracks (sequences_of t) (candidates_of t) (state_of t))

    pub move_given : (w : Cartesian3DTracker) → given w ≡ moved_tracks v now → Moved w
    move_given w e =
        let b = bound moves (λ ts. given (over_tracks v ts)) w (sym (e ∙ moved_settled v settled)) in
        record { tracks = b.0; given_they = b.1; whole = sym (given_same _ _ b.2) ∙ ap (λ (u : Cartesian3DTracker). over_tracks u b.0) settled ∙ tracks_anew t b.0 }

  -- ---- stages 2 and 3

  pub prepare_refused : (n : ℕ) → moves ≡ refused n → refused n ≡ laid_over t (prepared_state t now)
  unfolding prepared_state
  prepare_refused n e = rw e

  pub prepare_given : (x : Cartesian3DTracker) (l : List Track3D) → moves ≡ given l → x ≡ over_state t (tracks_in t (map (with_mark false) l)) → given x ≡ laid_over t (prepared_state t now)
  unfolding prepared_state
  prepare_given x l e w = rw e (ap {B = Reply Cartesian3DTracker} given w)

  pub marks_cleared : (v x : Cartesian3DTracker) (l : List Track3D) → v ≡ over_state t (tracks_in t l) → x ≡ over_tracks v (map (with_mark false) (tracks_of v)) → x ≡ over_state t (tracks_in t (map (with_mark false) l))
  marks_cleared v x l ev ex =
      let e : tracks_of v ≡ l = ap tracks_of ev ∙ tracks_held t (tracks_in t l) in
      ex
      ∙ (λ i. over_tracks (ev i) (map (with_mark false) (e i)))
      ∙ tracks_again t (tracks_in t l) (map (with_mark false) l) (omega (arith, length-map l (with_mark false)))
