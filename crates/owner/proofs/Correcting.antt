-- The loop of a batch that updates the tracks of the record, and gathers the places of those that are confirmed then. Assumes nothing.
use Rattle.std.specs.Prelude.{None, Option, Some}
use mathlib.Core.Path.{◌≡◌, refl, sym, ap, ◌∙◌}
use mathlib.Core.Bool.{Bool, true, false, cond}
use mathlib.Core.List.{List, [], ◌∷◌, ◌++◌, map, append-nil}
use Prim.Native.Nat.{ℕ, ◌+◌, ◌≤◌, ◌<◌}
use native.Mathlib.Omega.{arith}
use borrow.Author.Tests.{ltb-true}
use lib.Dec.{ltb}
use lib.IntN.{ℤ}
use lib.ListN.{length, take, get_or, set, length-map, length-append}
use lib.Seq.{length-take-le}
use Rattle.number.specs.Reply.{Reply, refused, given, and_then}
use Rattle.number.proofs.Replies.{bound, given_same}
use Rattle.lists.specs.Each.{each_at}
use Rattle.lists.specs.Lay.{lay}
use Rattle.lists.proofs.Each.{each_length}
use Rattle.lists.proofs.Laying.{set_lay, take_lay}
use Rattle.lists.proofs.Filling.{map_append}
use Rattle.lists.proofs.Stepping.{Stepped, stepped_more, stepped_stops}
use Rattle.settings.specs.declared.Cartesian3DTrackerConfig.{Cartesian3DTrackerConfig}
use Rattle.matrix.specs.Matrix.{Vector}
use Rattle.detections.specs.declared.Detection.{Detection}
use Rattle.types.specs.declared.batch.ObservationBatch3D.{ObservationBatch3D}
use Rattle.types.specs.declared.track.Track3D.{Track3D}
use Rattle.types.specs.Track.{snapshot_of}
use Rattle.calls.specs.Births.{is_confirmed, confirmed_places}
use Rattle.moving.proofs.Tracks.{refused_before}
use Rattle.updating.specs.declared.Update.{Update}
use Rattle.association.specs.Told.{mate_of}
use Rattle.matching.specs.declared.Paired.{Paired}
use Rattle.updating.specs.Updates.{update_of, updated_or_not}
use Rattle.spawning.specs.declared.ruling.Spot.{Spot}
use Rattle.spawning.specs.Ruling.{spot_at, spot_of, no_spots, laid_out, places_of}
use Rattle.spawning.proofs.Placing.{confirmed_snoc, confirmed_shorter}
use Rattle.birth_stage.proofs.Walking.{no_detection}
use Rattle.birth_stage.proofs.Staging.{placed}
use Rattle.records.specs.declared.tracks.PkTrack.{PkTrack}
use Rattle.records.specs.declared.tracker.PkTracker.{PkTracker}
use Rattle.records.specs.Tracks.{track_of, track_to}
use Rattle.records.specs.Configs.{settings_of}
use Rattle.records.proofs.Back.{track_back, tracks_back}
use Rattle.owner.proofs.Through.{stored_as, each_through}
use Rattle.owner.proofs.Predicting.{with_pk_tracks}
use Rattle.owner.proofs.Reached.{meant, meant_is, Mated, Corrected}
use Rattle.owner.proofs.Noting.{take_set}

-- ---- the places of the confirmed ones among the tracks p

pub record Spotted (p : List Track3D) (spots : List Spot) (near : ℕ) : Type 0 where
  pub count : near ≡ length (confirmed_places p)
  pub slots : spots ≡ lay (map spot_at (confirmed_places p)) no_spots

pub spotted_start : Spotted [] no_spots 0
unfolding confirmed_places lay
spotted_start = record { count = refl; slots = refl }

places_are : {p : List Track3D} {spots : List Spot} {near : ℕ} → Spotted p spots near → places_of (record { items = spots; count = near }) ≡ confirmed_places p
unfolding laid_out
places_are {p} {spots} {near} s = placed (record { items = spots; count = near }) (confirmed_places p) (λ i. record { items = s.slots i; count = s.count i })

-- of the record's first k tracks, and one more: y, which has just been stored
module _ (m : List PkTrack) {k : ℕ} (y : Track3D) {spots : List Spot} {near : ℕ} (s : Spotted (map track_of (take k m)) spots near) (h : k < length m) where
  abbrev p : List Track3D
  p = map track_of (take k m)

  front_more : map track_of (take (k + 1) (set m k (track_to y))) ≡ p ++ (y ∷ [])
  front_more = ap (map track_of) (take_set m k (track_to y) h) ∙ map_append track_of (take k m) (track_to y ∷ []) ∙ ap (λ (x : Track3D). p ++ (x ∷ [])) (track_back y)

  pub spotted_same : {f : Bool} → f ≡ is_confirmed y.lifecycle.state → f ≡ false → Spotted (map track_of (take (k + 1) (set m k (track_to y)))) spots near
  spotted_same w e =
      let q : confirmed_places (p ++ (y ∷ [])) ≡ confirmed_places p = confirmed_snoc p y ∙ rw (sym w ∙ e) (append-nil (confirmed_places p)) in
      rw front_more (record { count = s.count ∙ ap length (sym q); slots = s.slots ∙ ap (λ (l : List Vector). lay (map spot_at l) no_spots) (sym q) })

  pub spotted_more : {f : Bool} → length m ≡ 64 → f ≡ is_confirmed y.lifecycle.state → f ≡ true → Spotted (map track_of (take (k + 1) (set m k (track_to y)))) (set spots near (spot_of y)) (near + 1)
  spotted_more size w e =
      let l = confirmed_places p in
      let x : Vector = (snapshot_of y).position in
      let q : confirmed_places (p ++ (y ∷ [])) ≡ l ++ (x ∷ []) = confirmed_snoc p y ∙ rw (sym w ∙ e) in
      let z : near ≡ length (map spot_at l) = s.count ∙ sym (length-map l spot_at) in
      let room : length (map spot_at l) < length no_spots =
      omega (arith, z, s.count, confirmed_shorter p, length-map (take k m) track_of, length-take-le k m (omega (arith, h)), h, size) in
      rw front_more
      (record {
        count = ap (λ (i : ℕ). i + 1) s.count ∙ sym (length-append l (x ∷ [])) ∙ ap length (sym q);
        slots =
            ap (λ (r : List Spot). set r near (spot_at x)) s.slots
            ∙ ap (λ (i : ℕ). set (lay (map spot_at l) no_spots) i (spot_at x)) z
            ∙ set_lay (map spot_at l) no_spots (spot_at x) room
            ∙ ap (λ (r : List Spot). lay r no_spots) (sym (map_append spot_at l (x ∷ [])) ∙ ap (map spot_at) (sym q));
      })

-- the place that the code reads is one
pub place_few : (j n : ℕ) → n ≡ cond (ltb j 64) j 0 → n < 64
place_few j n e = go (ltb j 64) refl
  where
    go : (b : Bool) → ltb j 64 ≡ b → n < 64
    go true h = let k : n ≡ j = e ∙ rw h in omega (arith, ltb-true j 64 h)
    go false h = let k : n ≡ 0 = e ∙ rw h in omega arith

-- ---- the tracks

abbrev pub steps_pk : Update → (ℕ → Option Detection) → ℕ → PkTrack → Reply PkTrack
steps_pk u took i a = stored_as track_to (updated_or_not u (track_of a) (took i))

-- a turn, in which the code reads the track at k and the detection that it took: the first one where it took none, and is then left alone
module _ (u : Update) (mates : List ℕ) (ds : List Detection) {l m : List PkTrack} {k q : ℕ} (a : PkTrack) {x : Track3D} (s : Stepped (steps_pk u (mate_of mates ds)) l m k) (read : x ≡ track_of (get_or m k a))
    (place : q ≡ cond (ltb (get_or mates k 0) 64) (get_or mates k 0) 0) where
  abbrev asked : Reply Track3D
  asked = updated_or_not u x (cond (ltb (get_or mates k 0) 64) (Some (get_or ds q no_detection)) None)

  took_is : cond (ltb (get_or mates k 0) 64) (Some (get_or ds q no_detection)) None ≡ mate_of mates ds k
  took_is = ap (λ (n : ℕ). cond (ltb (get_or mates k 0) 64) (Some (get_or ds n no_detection)) None) place ∙ go (ltb (get_or mates k 0) 64) (get_or mates k 0)
    where
      go : (b : Bool) (j : ℕ) → cond b (Some (get_or ds (cond b j 0) no_detection)) None ≡ cond b (Some (get_or ds j no_detection)) None
      go true j = refl
      go false j = refl

  turned : updated_or_not u (track_of (get_or m k a)) (mate_of mates ds k) ≡ asked
  turned = λ i. updated_or_not u (sym read i) (sym took_is i)

  pub correcting_more : {y : Track3D} → k < length l → given y ≡ asked → Stepped (steps_pk u (mate_of mates ds)) l (set m k (track_to y)) (k + 1)
  correcting_more {y} h e = stepped_more _ l m k a (track_to y) s h (ap (stored_as track_to) (turned ∙ sym e))

  pub correcting_stops : {n r : ℕ} → k < n → n ≤ length l → refused r ≡ asked → each_at (steps_pk u (mate_of mates ds)) 0 (take n l) ≡ refused r
  correcting_stops {n} {r} h w e = stepped_stops _ l m n k a r s h w (ap (stored_as track_to) (turned ∙ sym e))

-- ---- the end

module _ {t : PkTracker} {b : ObservationBatch3D} {config : Cartesian3DTrackerConfig} {now : ℤ} {y : PkTracker} {n : ℕ} {p : Paired} (m : Mated t b config now y n p) {u : Update} (how : u ≡ update_of config b.sensor_id now) where
  abbrev took : ℕ → Option Detection
  took = mate_of p.mates b.observations

  abbrev updated : Reply (List Track3D)
  updated = each_at (λ i z. updated_or_not (update_of (settings_of t.settings) b.sensor_id b.timestamp) z (took i)) 0 (meant y n)

  all_through : each_at (steps_pk u took) 0 (take n y.tracks) ≡ and_then updated (λ us. given (map track_to us))
  all_through =
      let z = update_of (settings_of t.settings) b.sensor_id b.timestamp in
      rw (how, m.moved.checked.is, m.moved.checked.read.when)
      (ap (each_at (steps_pk z took) 0) (m.moved.stored ∙ ap (map track_to) (sym (meant_is y n m.moved.stored)))
      ∙ each_through track_of track_to track_to track_back (λ i x. updated_or_not z x (took i)) 0 (meant y n))

  pub updates_refused : {r : ℕ} → each_at (steps_pk u took) 0 (take n y.tracks) ≡ refused r → updated ≡ refused r
  updates_refused {r} e = refused_before updated (map track_to) r (sym all_through ∙ e)

  pub corrected_all : {x : PkTracker} {k near : ℕ} {spots : List Spot} → k ≡ n → x ≡ with_pk_tracks y x.tracks → length x.tracks ≡ 64 → Stepped (steps_pk u took) y.tracks x.tracks k → Spotted (map track_of (take k x.tracks)) spots near
      → Corrected t b config now n p x (record { items = spots; count = near })
  corrected_all {x} {k} {near} {spots} h fields size q spotted =
      let g : each_at (steps_pk u took) 0 (take n y.tracks) ≡ given q.done = ap (λ (i : ℕ). each_at (steps_pk u took) 0 (take i y.tracks)) (sym h) ∙ q.gives in
      let w = bound updated (λ us. given (map track_to us)) q.done (sym all_through ∙ g) in
      let d : map track_to w.0 ≡ q.done = given_same _ _ w.2 in
      let long : n ≡ length q.done = sym (each_length _ 0 (take k y.tracks) q.done q.gives ∙ length-take-le k y.tracks q.read ∙ h) in
      let stored : take n x.tracks ≡ map track_to w.0 = (λ i. take (long i) (q.slots i)) ∙ take_lay q.done y.tracks ∙ sym d in
      record {
        from = y;
        mated = m;
        fields = fields ∙ ap (λ (z : PkTracker). with_pk_tracks z x.tracks) m.moved.fields;
        size = size;
        tracks = w.0;
        gives = w.1;
        slots = q.slots ∙ ap (λ (r : List PkTrack). lay r y.tracks) (sym d);
        stored = stored;
        spots = places_are spotted ∙ ap confirmed_places (ap (λ (i : ℕ). map track_of (take i x.tracks)) h ∙ ap (map track_of) stored ∙ tracks_back w.0);
      }
