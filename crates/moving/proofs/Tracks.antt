-- What the loop over all tracks comes to, and what its turns say of a track's life. Assumes nothing.
use Rattle.std.specs.Prelude.{None, Option, Some}
use mathlib.Core.Path.{◌≡◌, refl, sym, ap, ◌∙◌}
use mathlib.Core.List.{List}
use Prim.Native.Nat.{ℕ, min}
use native.Mathlib.Omega.{arith}
use lib.IntN.{ℤ}
use lib.Ieee.{Float}
use lib.ListN.{length, take}
use Rattle.number.specs.Reply.{Reply, refused, given, and_then}
use Rattle.number.proofs.Replies.{given_same, never_given, bound}
use Rattle.lists.specs.Sift.{sift}
use Rattle.lists.specs.Table.{table}
use Rattle.lists.proofs.Tables.{rows}
use Rattle.lifecycle.specs.Lifecycle.{aged_of, advanced_of}
use Rattle.lifecycle.specs.declared.LifecycleConfig.{LifecycleConfig}
use Rattle.lifecycle.specs.declared.Verdict.TheVariants.{Kept, Dropped}
use Rattle.types.specs.declared.track.Track3D.{Track3D}
use Rattle.types.specs.declared.tracker.Cartesian3DTracker.{Cartesian3DTracker}
use Rattle.types.specs.States.{tracks_of, over_tracks, with_tables, sequence_table, candidate_table}
use Rattle.lists.specs.Each.{each}
use Rattle.calls.specs.Predict.{continued, moved, predicted_tracks}
use Rattle.moving.specs.declared.AgedTrack.{AgedTrack}
use Rattle.moving.specs.Steps.{aged_track, carried_on, carried, moved_tracks}
use Rattle.moving.proofs.Passing.{Passed}

-- ---- one track

module _ (life : LifecycleConfig) (now : ℤ) (x : Track3D) (a : AgedTrack) (e : a ≡ aged_track x now life) where
  pub life_goes_on : a.verdict ≡ Kept → continued life now x ≡ Some a.track
  unfolding continued aged_track advanced_of
  life_goes_on v =
      let w : (aged_of x.lifecycle now life).verdict ≡ Kept = ap (λ (b : AgedTrack). b.verdict) (sym e) ∙ v in
      rw w (ap (λ (b : AgedTrack). Some b.track) (sym e))

  pub life_ends : a.verdict ≡ Dropped → continued life now x ≡ None
  unfolding continued aged_track advanced_of
  life_ends v =
      let w : (aged_of x.lifecycle now life).verdict ≡ Dropped = ap (λ (b : AgedTrack). b.verdict) (sym e) ∙ v in
      rw w

-- ---- both: a track that is kept is moved

-- a refusal of what is carried on was there before
pub refused_before : {A B : Type 0} (r : Reply A) (f : A → B) (n : ℕ) → and_then r (λ x. given (f x)) ≡ refused n → r ≡ refused n
refused_before (refused m) f n e = cc
refused_before (given x) f n e = never_given n (f x) (sym e)

module _ (life : LifecycleConfig) (q : Float) (now : ℤ) (x : Track3D) where
  pub carry_drops : continued life now x ≡ None → given None ≡ carried life q now x
  unfolding carried
  carry_drops e = rw e

  pub carry_moves : (y : Track3D) (r : Reply Track3D) → continued life now x ≡ Some y → moved q now y ≡ r → and_then r (λ z. given (Some z)) ≡ carried life q now x
  unfolding carried
  carry_moves y r e h = rw (e, h)

  -- and back
  pub drops : carried life q now x ≡ given None → continued life now x ≡ None
  unfolding carried
  drops e = go (continued life now x) refl e
    where
      go : (o : Option Track3D) → continued life now x ≡ o → carried_on q now o ≡ given None → continued life now x ≡ None
      go None w e = w
      go (Some y) w e =
          let p = bound (moved q now y) (λ z. given (Some z)) None e in
          let z : Some p.0 ≡ None = given_same (Some p.0) None p.2 in
          absurd (let k : ◌≡◌ {A = ℕ} 0 1 = cc in omega arith)

  pub record Moves (r : Reply Track3D) : Type 0 where
    pub aged : Track3D
    pub goes_on : continued life now x ≡ Some aged
    pub moves : moved q now aged ≡ r

  pub keeps : (z : Track3D) → carried life q now x ≡ given (Some z) → Moves (given z)
  unfolding carried
  keeps z e = go (continued life now x) refl e
    where
      go : (o : Option Track3D) → continued life now x ≡ o → carried_on q now o ≡ given (Some z) → Moves (given z)
      go None w e =
          let k : None ≡ Some z = given_same None (Some z) e in
          absurd (let k : ◌≡◌ {A = ℕ} 0 1 = cc in omega arith)
      go (Some y) w e =
          let p = bound (moved q now y) (λ z. given (Some z)) (Some z) e in
          let k : Some p.0 ≡ Some z = given_same (Some p.0) (Some z) p.2 in
          let same : p.0 ≡ z = cc in
          record { aged = y; goes_on = w; moves = p.1 ∙ ap given same }

  pub stops : (n : ℕ) → carried life q now x ≡ refused n → Moves (refused n)
  unfolding carried
  stops n e = go (continued life now x) refl e
    where
      go : (o : Option Track3D) → continued life now x ≡ o → carried_on q now o ≡ refused n → Moves (refused n)
      go None w e = never_given n None (sym e)
      go (Some y) w e = record { aged = y; goes_on = w; moves = refused_before (moved q now y) Some n e }

-- ---- the tracker

module _ (s : Cartesian3DTracker) (now : ℤ) (n : ℕ) (size : length s.tracks ≡ 64) (taken : n ≡ min s.track_count 64) where
  abbrev goes_on : Track3D → Option Track3D
  goes_on = continued s.config.lifecycle now

  abbrev moves : Track3D → Reply Track3D
  moves = moved s.config.accel_spectral_density now

  pub all_stop : (k : ℕ) → each moves (sift goes_on (take n s.tracks)) ≡ refused k → refused k ≡ moved_tracks s now
  unfolding moved_tracks predicted_tracks tracks_of
  all_stop k e = rw (rows s.tracks 64 s.track_count n size taken, e)

  pub all_moved : (m : List Track3D) (i j : ℕ) → Passed goes_on moves s.tracks m i j → i ≡ n → given (with_tables (table m j) (sequence_table s) (candidate_table s) s) ≡ moved_tracks s now
  unfolding moved_tracks predicted_tracks tracks_of over_tracks
  all_moved m i j p h =
      let g : each moves (sift goes_on (take n s.tracks)) ≡ given p.done = ap (λ (k : ℕ). each moves (sift goes_on (take k s.tracks))) (sym h) ∙ p.gives in
      rw (rows s.tracks 64 s.track_count n size taken, g)
      (λ q. given (with_tables (table (p.slots q) (p.count q)) (sequence_table s) (candidate_table s) s))
