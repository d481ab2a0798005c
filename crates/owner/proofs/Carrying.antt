-- The loops that move the tracks of the record: the laws of a turn, and what they leave at the end. Assumes nothing.
use Rattle.std.specs.Prelude.{None, Option, Some}
use mathlib.Core.Path.{◌≡◌, refl, sym, ap, ◌∙◌}
use mathlib.Core.List.{List, map}
use Prim.Native.Nat.{ℕ, min, ◌+◌, ◌≤◌, ◌<◌}
use lib.IntN.{ℤ}
use lib.Ieee.{Float}
use lib.ListN.{length, take, get_or, set, length-map}
use Rattle.number.specs.Reply.{Reply, refused, given, and_then}
use Rattle.number.proofs.Replies.{bound, given_same}
use Rattle.lists.specs.Sift.{sift}
use Rattle.lists.specs.Each.{each}
use Rattle.lists.specs.Lay.{lay}
use Rattle.lists.proofs.Tables.{rows}
use Rattle.lifecycle.specs.declared.LifecycleConfig.{LifecycleConfig}
use Rattle.settings.specs.declared.Cartesian3DTrackerConfig.{Cartesian3DTrackerConfig}
use Rattle.types.specs.declared.track.Track3D.{Track3D}
use Rattle.types.specs.States.{state_of, tracks_of}
use Rattle.calls.specs.Predict.{continued, moved, predicted_tracks}
use Rattle.moving.specs.Steps.{carried}
use Rattle.moving.proofs.Passing.{Passed, passed_drop, passed_keep, passed_stops}
use Rattle.moving.proofs.Tracks.{drops, keeps, stops, refused_before}
use Rattle.records.specs.declared.tracks.PkTrack.{PkTrack}
use Rattle.records.specs.declared.tracker.PkTracker.{PkTracker}
use Rattle.records.specs.Tracks.{track_of, track_to}
use Rattle.records.specs.Configs.{settings_of}
use Rattle.records.specs.Trackers.{tracker_of, pk_state}
use Rattle.records.proofs.Back.{track_back}
use Rattle.owner.proofs.Through.{map_take, kept_as, stored_as, sift_through}

abbrev pub keeps_pk : LifecycleConfig → ℤ → PkTrack → Option PkTrack
keeps_pk life now a = kept_as track_to (continued life now (track_of a))

abbrev pub moves_pk : (Track3D → PkTrack) → Float → ℤ → PkTrack → Reply PkTrack
moves_pk put q now a = stored_as put (moved q now (track_of a))

-- ---- a turn, in which the code has carried the track at i, and puts it back

module _ (life : LifecycleConfig) (q : Float) (now : ℤ) (put : Track3D → PkTrack) {l m : List PkTrack} {i j : ℕ} (a : PkTrack) {x : Track3D} (p : Passed (keeps_pk life now) (moves_pk put q now) l m i j) (read : x ≡ track_of (get_or m i a)) where
  carries : {r o : Reply (Option Track3D)} → r ≡ carried life q now x → r ≡ o → carried life q now (track_of (get_or m i a)) ≡ o
  carries e h = ap (carried life q now) (sym read) ∙ sym e ∙ h

  moves_on : (z : Track3D) {r : Reply Track3D} → moved q now z ≡ r → moves_pk put q now (track_to z) ≡ stored_as put r
  moves_on z e = ap (λ (y : Track3D). stored_as put (moved q now y)) (track_back z) ∙ ap (stored_as put) e

  pub carrying_drop : {o : Option Track3D} → i < length l → given o ≡ carried life q now x → o ≡ None → Passed (keeps_pk life now) (moves_pk put q now) l m (i + 1) j
  carrying_drop h e n = passed_drop _ _ l m i j a p h (ap (kept_as track_to) (drops life q now (track_of (get_or m i a)) (carries e (ap given n))))

  pub carrying_keep : {o : Option Track3D} {z : Track3D} → i < length l → given o ≡ carried life q now x → o ≡ Some z → Passed (keeps_pk life now) (moves_pk put q now) l (set m j (put z)) (i + 1) (j + 1)
  carrying_keep {o} {z} h e n =
      let k = keeps life q now (track_of (get_or m i a)) z (carries e (ap given n)) in
      passed_keep _ _ l m i j a (track_to k.aged) (put z) p h (ap (kept_as track_to) k.goes_on) (moves_on k.aged k.moves)

  pub carrying_stops : {all n : ℕ} → i < all → all ≤ length l → refused n ≡ carried life q now x → each (moves_pk put q now) (sift (keeps_pk life now) (take all l)) ≡ refused n
  carrying_stops {all} {n} h room e =
      let k = stops life q now (track_of (get_or m i a)) n (carries e refl) in
      passed_stops _ _ l m all i j a (track_to k.aged) n p h room (ap (kept_as track_to) k.goes_on) (moves_on k.aged k.moves)

-- ---- the end

-- the settings and the time that the code reads are those of the record and of the call
pub record Read (t : PkTracker) (time : ℤ) (life : LifecycleConfig) (q : Float) (now : ℤ) : Type 0 where
  pub rules : life ≡ (settings_of t.settings).lifecycle
  pub density : q ≡ (settings_of t.settings).accel_spectral_density
  pub when : now ≡ time
  pub size : length t.tracks ≡ 64

pub read_of : {t : PkTracker} {time now : ℤ} {config : Cartesian3DTrackerConfig} → config ≡ settings_of t.settings → now ≡ time → length t.tracks ≡ 64 → Read t time config.lifecycle config.accel_spectral_density now
read_of e when size = record { rules = ap (λ (c : Cartesian3DTrackerConfig). c.lifecycle) e; density = ap (λ (c : Cartesian3DTrackerConfig). c.accel_spectral_density) e; when = when; size = size }

-- the tracks that are left, and where they stand
pub record Carried (t : PkTracker) (time : ℤ) (put : Track3D → PkTrack) (m : List PkTrack) (j : ℕ) : Type 0 where
  pub tracks : List Track3D
  pub gives : predicted_tracks (settings_of t.settings) time (pk_state t).tracks ≡ given tracks
  pub count : j ≡ length tracks
  pub slots : m ≡ lay (map put tracks) t.tracks

module _ {t : PkTracker} {time : ℤ} {life : LifecycleConfig} {q : Float} {now : ℤ} (k : Read t time life q now) (put : Track3D → PkTrack) {all : ℕ} (taken : all ≡ min t.track_count 64) where
  abbrev predicted : Reply (List Track3D)
  predicted = predicted_tracks (settings_of t.settings) time (pk_state t).tracks

  abbrev passed : ℕ → Reply (List PkTrack)
  passed n = each (moves_pk put q now) (sift (keeps_pk life now) (take n t.tracks))

  tracks_held : map track_of (take all t.tracks) ≡ (pk_state t).tracks
  unfolding state_of tracks_of tracker_of
  tracks_held = ap (map track_of) (sym (rows t.tracks 64 t.track_count all k.size taken)) ∙ map_take track_of t.track_count t.tracks

  -- all tracks of the record are all tracks that it means
  all_through : passed all ≡ and_then predicted (λ ts. given (map put ts))
  unfolding predicted_tracks
  all_through =
      let c = settings_of t.settings in
      rw (k.rules, k.density, k.when)
      (sift_through track_of track_to put track_back (continued c.lifecycle time) (moved c.accel_spectral_density time) (take all t.tracks)
      ∙ ap (λ (l : List Track3D). and_then (each (moved c.accel_spectral_density time) (sift (continued c.lifecycle time) l)) (λ ts. given (map put ts))) tracks_held)

  pub all_refused : {r : ℕ} → passed all ≡ refused r → predicted ≡ refused r
  all_refused {r} e = refused_before predicted (map put) r (sym all_through ∙ e)

  pub all_carried : {m : List PkTrack} {i j : ℕ} → i ≡ all → Passed (keeps_pk life now) (moves_pk put q now) t.tracks m i j → Carried t time put m j
  all_carried {m} {i} {j} h p =
      let b = bound predicted (λ ts. given (map put ts)) p.done (sym all_through ∙ ap passed (sym h) ∙ p.gives) in
      let d : map put b.0 ≡ p.done = given_same _ _ b.2 in
      record {
        tracks = b.0;
        gives = b.1;
        count = p.count ∙ ap length (sym d) ∙ length-map b.0 put;
        slots = p.slots ∙ ap (λ (r : List PkTrack). lay r t.tracks) (sym d);
      }
