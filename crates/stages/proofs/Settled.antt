-- The tracker that an accepted call starts from: its own state laid over itself. Assumes nothing.
use mathlib.Core.Path.{◌≡◌, refl, ap}
use Prim.Native.Nat.{ℕ, min}
use lib.ListN.{length}
use Rattle.lists.specs.Table.{table}
use Rattle.lists.proofs.Tables.{unchanged}
use Rattle.types.specs.declared.tracker.Cartesian3DTracker.{Cartesian3DTracker}
use Rattle.types.specs.States.{state_of, tracks_of, candidates_of, over_state, with_tables}
use Rattle.types.proofs.Overs.{state_over, counts_settled}

module _ (t : Cartesian3DTracker) where
  pub own_settled : (n m k : ℕ) → length t.tracks ≡ 64 → length t.sequences ≡ 32 → length t.candidates ≡ 64
      → n ≡ min t.track_count 64 → m ≡ min t.sequence_count 32 → k ≡ min t.candidate_count 64
      → with_tables (table t.tracks n) (table t.sequences m) (table t.candidates k) t ≡ over_state t (state_of t)
  unfolding state_of candidates_of
  own_settled n m k st ss sc en em ek =
      unfold state_of in counts_settled t n m (table t.candidates k) (candidates_of t) st ss en em
      (unchanged t.candidates 64 t.candidate_count k sc ek (λ l. l) refl)

  -- its tracks are those of the tracker
  pub tracks_settled : tracks_of (over_state t (state_of t)) ≡ tracks_of t
  unfolding state_of
  tracks_settled = ap (λ s. s.tracks) (unfold state_of in state_over t (state_of t))
