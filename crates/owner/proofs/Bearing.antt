-- The loop over a batch's detections: what the births of the first j columns left in the record's tracks, in the candidates and in what is told. Assumes nothing.
use Rattle.std.specs.Prelude.{None, Option, Some}
use mathlib.Core.Path.{◌≡◌, refl, sym, ap, ◌∙◌}
use mathlib.Core.Bool.{Bool}
use mathlib.Core.List.{List, [], ◌∷◌, ◌++◌, map}
use Prim.Native.Nat.{ℕ, suc, ◌+◌, ◌-◌, ◌^◌, ◌≤◌, ◌<◌}
use native.Mathlib.Omega.{arith}
use native.Mathlib.Numerals.{add-one}
use lib.IntN.{ℤ}
use lib.ListN.{length, take, get_or, set, length-append, length-map}
use lib.Seq.{length-take-le, take_all}
use Rattle.number.specs.Reply.{Reply, refused, given, and_then}
use Rattle.lists.specs.Lay.{lay}
use Rattle.lists.proofs.Laying.{set_lay, lay_own}
use Rattle.lists.proofs.Filling.{map_append}
use Rattle.settings.specs.declared.Cartesian3DTrackerConfig.{Cartesian3DTrackerConfig}
use Rattle.matrix.specs.Matrix.{Vector}
use Rattle.detections.specs.declared.Detection.{Detection}
use Rattle.types.specs.declared.batch.ObservationAssociation.{ObservationAssociation}
use Rattle.types.specs.declared.track.Track3D.{Track3D}
use Rattle.types.specs.States.{State}
use Rattle.calls.specs.Update.{Match, Column}
use Rattle.calls.specs.Births.{updated, spawned, unmatched, Born, Births, with_track, with_candidates, low_score, near_confirmed, born_unless_taken, births_of}
use Rattle.calls.specs.Process.{association_of, associations_from}
use Rattle.calls.proofs.Spawning.{births_length}
use Rattle.calls.proofs.Turns.{births_more, births_stops}
use Rattle.birth_candidates.specs.declared.Candidates.{Candidates}
use Rattle.birth_candidates.specs.Candidates.{list_of}
use Rattle.association.specs.declared.Pair.{Pair}
use Rattle.association.specs.Told.{column_from, columns_from}
use Rattle.birth_stage.specs.declared.one.Considered.{Considered}
use Rattle.birth_stage.specs.One.{One, one_of, after_one}
use Rattle.birth_stage.specs.Walk.{blanks}
use Rattle.birth_stage.proofs.Deciding.{considered_is, considered_not}
use Rattle.birth_stage.proofs.Walking.{born_with, one_born, begun_room, told_more, columns_length, column_at_lem, no_pair, no_detection, no_column}
use Rattle.records.specs.declared.tracks.PkTrack.{PkTrack}
use Rattle.records.specs.declared.tracker.PkTracker.{PkTracker}
use Rattle.records.specs.Tracks.{track_of, track_to}
use Rattle.owner.proofs.Reached.{meant_is, start_at}

module _ (config : Cartesian3DTrackerConfig) (sensor : ℕ) (now : ℤ) (places : List Vector) (cols : List Column) (start : State) (l : List PkTrack) where
  -- the tracks so far stand in m over l, n of them; the next number is id
  pub record Bearing (m : List PkTrack) (n id : ℕ) (kept : Candidates) (told : List ObservationAssociation) (j : ℕ) : Type 0 where
    pub so_far : Births
    pub read : j ≤ length cols
    pub gives : births_of config sensor now places (take j cols) start ≡ given so_far
    pub tracks : m ≡ lay (map track_to so_far.state.tracks) l
    pub count : n ≡ length so_far.state.tracks
    pub next : id ≡ so_far.state.next
    pub candidates : so_far.state.candidates ≡ list_of kept
    pub slots : told ≡ lay (associations_from 0 so_far.fates) blanks

-- the tracks of the record are those that it starts from
pub bearing_start : {config : Cartesian3DTrackerConfig} {sensor : ℕ} {now : ℤ} {places : List Vector} {cols : List Column} (x : PkTracker) {n : ℕ} (us : List Track3D) {kept : Candidates} → take n x.tracks ≡ map track_to us → n ≤ length x.tracks
    → Bearing config sensor now places cols (start_at x n x.next_track_id now (list_of kept)) x.tracks x.tracks n x.next_track_id kept blanks 0
unfolding births_of associations_from lay
bearing_start {now = now} x {n = n} us {kept = kept} e h =
    record {
      so_far = record { state = start_at x n x.next_track_id now (list_of kept); fates = [] };
      read = omega arith;
      gives = refl;
      tracks = sym (lay_own n x.tracks) ∙ ap (λ (r : List PkTrack). lay r x.tracks) (e ∙ ap (map track_to) (sym (meant_is x n e)));
      count = sym (length-take-le n (map track_of x.tracks) (omega (arith, h, length-map x.tracks track_of)));
      next = refl;
      candidates = refl;
      slots = refl;
    }

module _ {config : Cartesian3DTrackerConfig} {sensor : ℕ} {now : ℤ} {places : List Vector} {count : ℕ} (ps : List (Option Pair)) (ds : List Detection) {start : State} {l m : List PkTrack} {n id : ℕ} {kept : Candidates} {told : List ObservationAssociation} {j : ℕ}
    (w : Bearing config sensor now places (columns_from count ps ds) start l m n id kept told j) (few : count ≤ 64) (sp : length ps ≡ 64) (sd : length ds ≡ 64) where
  abbrev cols : List Column
  cols = columns_from count ps ds

  abbrev Bears : List PkTrack → ℕ → ℕ → Candidates → List ObservationAssociation → ℕ → Type 0
  Bears = Bearing config sensor now places cols start l

  long : length cols ≡ count
  long = columns_length ps ds count count sp sd (omega (arith, few))

  pub bearing_end : count ≤ j → births_of config sensor now places cols start ≡ given w.so_far
  bearing_end h = ap (λ (k : List Column). births_of config sensor now places k start) (sym (take_all j cols (omega (arith, long, h)))) ∙ w.gives

  module _ (h : j < count) where
    abbrev p : Option Pair
    p = get_or ps j no_pair

    abbrev d : Detection
    d = get_or ds j no_detection

    abbrev column : Column
    column = get_or cols j no_column

    column_is : column ≡ column_from p d
    column_is = column_at_lem ps ds count count sp sd (omega (arith, few)) j no_pair no_detection no_column h

    abbrev born : Reply Born
    born = born_unless_taken config sensor now places column.pair column.detection w.so_far.state

    more : {b : Born} {m' : List PkTrack} {n' id' : ℕ} {kept' : Candidates} {x : ObservationAssociation} → born ≡ given b → m' ≡ lay (map track_to b.state.tracks) l → n' ≡ length b.state.tracks
        → id' ≡ b.state.next → b.state.candidates ≡ list_of kept' → x ≡ association_of j b.fate → Bears m' n' id' kept' (set told j x) (j + 1)
    more {b} e et ec ei ek z =
        let fates = births_length config sensor now places (take j cols) start w.so_far w.gives ∙ length-take-le j cols w.read in
        record {
          so_far = record { state = b.state; fates = w.so_far.fates ++ (b.fate ∷ []) };
          read = omega (arith, long, h);
          gives = births_more config sensor now places cols j no_column start w.so_far b (omega (arith, long, h)) w.gives e;
          tracks = et;
          count = ec;
          next = ei;
          candidates = ek;
          slots =
              ap (λ (y : ObservationAssociation). set told j y) z
              ∙ ap (λ (r : List ObservationAssociation). set r j (association_of j b.fate)) w.slots
              ∙ told_more w.so_far.fates b.fate j fates (omega (arith, few, h));
        }

    pub bearing_taken : {y : Pair} {x : ObservationAssociation} → p ≡ Some y → x ≡ association_of j (updated (record { track = y.track; cost = y.cost })) → Bears m n id kept (set told j x) (j + 1)
    unfolding born_unless_taken
    bearing_taken {y} q z =
        let t : Match = record { track = y.track; cost = y.cost } in
        let e : column.pair ≡ Some t = ap (λ (v : Column). v.pair) column_is ∙ rw q in
        more {b = record { state = w.so_far.state; fate = updated t }} (rw e) w.tracks w.count w.next w.candidates z

    module _ (free : p ≡ None) where
      abbrev one : Reply One
      one = one_of config sensor now (low_score config d) (near_confirmed config places d) d n id (list_of kept)

      born_by : {r : Reply One} → one ≡ r → born ≡ and_then r (λ o. given (born_with w.so_far.state o.candidates o.track))
      unfolding born_unless_taken
      born_by {r} q =
          let e : column.pair ≡ None = ap (λ (v : Column). v.pair) column_is ∙ rw free in
          let seen : column.detection ≡ d = ap (λ (v : Column). v.detection) column_is in
          let same : one_of config sensor now (low_score config d) (near_confirmed config places d) d (length w.so_far.state.tracks) w.so_far.state.next w.so_far.state.candidates ≡ r =
          rw (← w.count, ← w.next, w.candidates) q in
          rw (e, seen) (one_born config sensor now (low_score config d) (near_confirmed config places d) d w.so_far.state
          ∙ ap (λ (r : Reply One). and_then r (λ o. given (born_with w.so_far.state o.candidates o.track))) same)

      pub bearing_stops : {r : ℕ} → refused r ≡ after_one kept one → births_of config sensor now places cols start ≡ refused r
      bearing_stops {r} e = births_stops config sensor now places cols j no_column start w.so_far r (omega (arith, long, h)) w.gives (born_by (considered_not kept r one e))

      pub bearing_alone : {u : Considered} {x : ObservationAssociation} → given u ≡ after_one kept one → u.begun ≡ None → x ≡ association_of j unmatched → Bears m n id u.candidates (set told j x) (j + 1)
      unfolding born_with
      bearing_alone {u} e q z =
          more {b = record { state = with_candidates (list_of u.candidates) w.so_far.state; fate = unmatched }} (born_by (considered_is kept u one None e q)) w.tracks w.count w.next refl z

      pub bearing_begun : {u : Considered} {y : Track3D} {x : ObservationAssociation} → given u ≡ after_one kept one → u.begun ≡ Some y → n < length l → x ≡ association_of j (spawned id)
          → Bears (set m n (track_to y)) (n + 1) (id + 1) u.candidates (set told j x) (j + 1)
      unfolding born_with
      bearing_begun {u} {y} e q room z =
          let ts = w.so_far.state.tracks in
          let end : length (map track_to ts) ≡ n = length-map ts track_to ∙ sym w.count in
          more {b = record { state = with_track y (with_candidates (list_of u.candidates) w.so_far.state); fate = spawned w.so_far.state.next }} (born_by (considered_is kept u one (Some y) e q))
          (ap (λ (r : List PkTrack). set r n (track_to y)) w.tracks
          ∙ ap (λ (i : ℕ). set (lay (map track_to ts) l) i (track_to y)) (sym end)
          ∙ set_lay (map track_to ts) l (track_to y) (omega (arith, end, room))
          ∙ ap (λ (r : List PkTrack). lay r l) (sym (map_append track_to ts (y ∷ []))))
          (ap (λ (i : ℕ). i + 1) w.count ∙ sym (length-append ts (y ∷ [])))
          (add-one id ∙ ap suc w.next) refl (z ∙ ap (λ (i : ℕ). association_of j (spawned i)) w.next)

-- a track that begins has a place and a number
pub begun_fits : (config : Cartesian3DTrackerConfig) (sensor : ℕ) (now : ℤ) (low near : Bool) (d : Detection) {n id : ℕ} (kept : Candidates) {u : Considered} {y : Track3D}
    → given u ≡ after_one kept (one_of config sensor now low near d n id (list_of kept)) → u.begun ≡ Some y → (n < 64) × (id < 2 ^ 64 - 1)
begun_fits config sensor now low near d {n} {id} kept {u} {y} e q = begun_room config sensor now low near d n id (list_of kept) (list_of u.candidates) y (considered_is kept u (one_of config sensor now low near d n id (list_of kept)) (Some y) e q)
