-- The walk over the columns: one detection is a turn, and what the walk answers at a refusal and at its end. Assumes nothing.
use Rattle.std.specs.Prelude.{None, Option, Some}
use mathlib.Core.Path.{◌≡◌, refl, sym, ap, ◌∙◌}
use mathlib.Core.Bool.{Bool, true, false, ◌&&◌}
use mathlib.Core.List.{List, [], ◌∷◌, ◌++◌}
use Prim.Native.Nat.{ℕ, zero, suc, min, ◌+◌, ◌-◌, ◌^◌, ◌≤◌, ◌<◌}
use native.Mathlib.Omega.{arith}
use borrow.Author.Tests.{ltb-true, lt-ltb}
use lib.Dec.{ltb}
use lib.IntN.{ℤ}
use lib.ListN.{length, take, drop, get_or, set, length-append, length-drop}
use lib.Seq.{length-take-le, get_or-take, take_all}
use Rattle.number.specs.Reply.{Reply, refused, given, and_then, refuse_unless}
use Rattle.lists.specs.Lay.{lay}
use Rattle.lists.specs.Table.{Table, pushed}
use Rattle.lists.proofs.Laying.{take_lay, set_lay, lay_lay, lay_own}
use Rattle.lists.proofs.Tables.{rows, rows_length, pushed_room, pushed_fits}
use Rattle.lists.specs.Masks.{zipped}
use Rattle.number.proofs.Replies.{given_same, past_test, bound}
use Rattle.settings.specs.declared.Cartesian3DTrackerConfig.{Cartesian3DTrackerConfig}
use Rattle.matrix.specs.Matrix.{Vector}
use Rattle.filter.specs.declared.KalmanFilter.{KalmanFilter}
use Rattle.detections.specs.declared.Detection.{Detection}
use Rattle.types.specs.declared.batch.ObservationAssociation.{ObservationAssociation}
use Rattle.types.specs.declared.track.Track3D.{Track3D}
use Rattle.types.specs.declared.tracker.BirthCandidate.{BirthCandidate}
use Rattle.types.specs.declared.tracker.Cartesian3DTracker.{Cartesian3DTracker}
use Rattle.types.specs.States.{State, state_of, tracks_of, sequences_of, candidates_of, over_state}
use Rattle.calls.specs.Update.{Match, Column, moving}
use Rattle.calls.specs.Births.{Fate, updated, spawned, unmatched, Born, Births, Sighting, sighted, born_filter, born_under, with_track, with_candidates, spawned_by, born_if_enough, born_or_sighted, born_unless_low, low_score, near_confirmed, born_unless_taken, births_of}
use Rattle.calls.specs.Process.{association_of, associations_from}
use Rattle.calls.proofs.Spawning.{births_length}
use Rattle.calls.proofs.Turns.{births_more, births_stops}
use Rattle.birth_candidates.specs.declared.Candidates.{Candidates}
use Rattle.association.specs.declared.Pair.{Pair}
use Rattle.birth_candidates.specs.Candidates.{list_of}
use Rattle.spawning.specs.Spawn.{track_from}
use Rattle.birth_stage.specs.One.{decided_of, begin_with, tried_of, One, one_with, one_of}
use Rattle.association.specs.Told.{column_from, columns_from}
use Rattle.birth_stage.specs.Walk.{blanks, after_walk}

-- ---- one detection, apart from the state and in it

unfoldable pub born_with : State → List BirthCandidate → Option Track3D → Born
born_with s l None = record { state = with_candidates l s; fate = unmatched }
born_with s l (Some t) = record { state = with_track t (with_candidates l s); fate = spawned s.next }

module _ (config : Cartesian3DTrackerConfig) (sensor : ℕ) (now : ℤ) where
  abbrev tried : ℕ → Detection → State → Reply Track3D
  tried n d s = tried_of d (length s.tracks) s.next n (begin_with config now sensor)

  spawned_tried : (n : ℕ) (d : Detection) (s : State) → spawned_by config sensor now n d s ≡ and_then (tried n d s) (λ t. given (record { state = with_track t s; fate = spawned s.next }))
  unfolding spawned_by tried_of
  spawned_tried n d s = go (ltb (length s.tracks) 64 && ltb s.next (2 ^ 64 - 1)) (born_filter config.initial_velocity_variance (moving config d) d)
    where
      go : (b : Bool) (r : Reply KalmanFilter)
          → refuse_unless {A = Born} b 11 (and_then r (λ f. given (record { state = with_track (born_under config sensor now s n d f) s; fate = spawned s.next })))
          ≡ and_then (refuse_unless b 11 (and_then r (λ f. given (track_from d s.next n (begin_with config now sensor) f)))) (λ t. given (record { state = with_track t s; fate = spawned s.next }))
      go false r = refl
      go true (refused k) = refl
      go true (given f) = refl

  through : (r : Reply Track3D) (s : State) (l : List BirthCandidate) → and_then r (λ t. given (record { state = with_track t (with_candidates l s); fate = spawned s.next }))
      ≡ and_then (and_then r (λ t. given (record { candidates = l; track = Some t }))) (λ (o : One). given (born_with s o.candidates o.track))
  unfolding born_with
  through (refused n) s l = refl
  through (given t) s l = refl

  by_enough : (d : Detection) (s : State) (l : List BirthCandidate) (o : Option ℕ) → born_if_enough config sensor now d (with_candidates l s) o
      ≡ and_then (one_with d (length s.tracks) s.next (begin_with config now sensor) l o) (λ (o : One). given (born_with s o.candidates o.track))
  unfolding born_if_enough one_with born_with
  by_enough d s l None = refl
  by_enough d s l (Some n) = spawned_tried n d (with_candidates l s) ∙ through (tried n d s) s l

  by_sighting : (d : Detection) (s : State) (r : Reply Sighting) → and_then r (λ x. born_if_enough config sensor now d (with_candidates x.candidates s) x.enough)
      ≡ and_then (and_then r (λ x. one_with d (length s.tracks) s.next (begin_with config now sensor) x.candidates x.enough)) (λ (o : One). given (born_with s o.candidates o.track))
  by_sighting d s (refused n) = refl
  by_sighting d s (given x) = by_enough d s x.candidates x.enough

  pub one_born : (low near : Bool) (d : Detection) (s : State)
      → born_unless_low config sensor now low near d s ≡ and_then (one_of config sensor now low near d (length s.tracks) s.next s.candidates) (λ o. given (born_with s o.candidates o.track))
  unfolding born_unless_low born_or_sighted born_if_enough one_of decided_of one_with
  one_born true near d s = unfold born_with in refl
  one_born false false d s = by_enough d s s.candidates (Some 1)
  one_born false true d s = by_sighting d s (sighted config now d s.candidates)

  -- a track that begins has a place and a number
  pub begun_room : (low near : Bool) (d : Detection) (k id : ℕ) (l m : List BirthCandidate) (t : Track3D) → one_of config sensor now low near d k id l ≡ given (record { candidates = m; track = Some t }) → (k < 64) × (id < 2 ^ 64 - 1)
  unfolding one_of one_with tried_of
  begun_room low near d k id l m t e =
      let p = bound (decided_of config now low near d l) _ _ e in
      room p.0.candidates p.0.enough p.2
    where
      both : (a b : Bool) → a && b ≡ true → (a ≡ true) × (b ≡ true)
      both true true e = (refl, refl)
      both true false e = absurd (let z : ◌≡◌ {A = ℕ} 0 1 = cc in omega arith)
      both false b e = absurd (let z : ◌≡◌ {A = ℕ} 0 1 = cc in omega arith)

      room : (l : List BirthCandidate) (o : Option ℕ) → one_with d k id (begin_with config now sensor) l o ≡ given (record { candidates = m; track = Some t }) → (k < 64) × (id < 2 ^ 64 - 1)
      room l None e =
          let q : ◌≡◌ {A = One} (record { candidates = l; track = None }) (record { candidates = m; track = Some t }) = given_same _ _ e in
          let w : None ≡ Some t = ap (λ (o : One). o.track) q in
          absurd (let z : ◌≡◌ {A = ℕ} 0 1 = cc in omega arith)
      room l (Some n) e =
          let p = bound (tried_of d k id n (begin_with config now sensor)) _ _ e in
          let q = past_test (ltb k 64 && ltb id (2 ^ 64 - 1)) 11 _ p.0 p.1 in
          let w = both (ltb k 64) (ltb id (2 ^ 64 - 1)) q.0 in
          (ltb-true k 64 w.0, ltb-true id (2 ^ 64 - 1) w.1)

-- ---- columns

-- what code reads past the end
abbrev pub no_pair : Option Pair
no_pair = None

abbrev pub no_detection : Detection
no_detection = record { position = []; covariance = []; velocity = None; class_label = None; score = None }

abbrev pub no_column : Column
no_column = record { pair = None; detection = no_detection }

zip_at : {A B C : Type 0} (f : A → B → C) (l : List A) (m : List B) (j : ℕ) (a : A) (b : B) (c : C) → j < length l → j < length m → get_or (zipped f l m) j c ≡ f (get_or l j a) (get_or m j b)
unfolding zipped
zip_at f [] m j a b c h g = absurd (omega arith)
zip_at f (x ∷ l) [] j a b c h g = absurd (omega arith)
zip_at f (x ∷ l) (y ∷ m) zero a b c h g = refl
zip_at f (x ∷ l) (y ∷ m) (suc j) a b c h g = zip_at f l m j a b c (omega arith) (omega arith)

zip_length : {A B C : Type 0} (f : A → B → C) (l : List A) (m : List B) → length l ≡ length m → length (zipped f l m) ≡ length l
unfolding zipped
zip_length f [] m e = refl
zip_length f (x ∷ l) [] e = absurd (omega arith)
zip_length f (x ∷ l) (y ∷ m) e = ap suc (zip_length f l m (omega arith))

module _ (pairs : List (Option Pair)) (ds : List Detection) (m n : ℕ) (sp : length pairs ≡ 64) (sd : length ds ≡ 64) (taken : n ≡ min m 64) where
  front : columns_from m pairs ds ≡ zipped column_from (take n pairs) (take n ds)
  unfolding columns_from
  front = rw (rows pairs 64 m n sp taken, rows ds 64 m n sd taken)

  pub columns_length : length (columns_from m pairs ds) ≡ n
  columns_length =
      ap length front
      ∙ zip_length column_from (take n pairs) (take n ds) (rows_length pairs 64 m n sp taken ∙ sym (rows_length ds 64 m n sd taken))
      ∙ rows_length pairs 64 m n sp taken

  pub column_at_lem : (j : ℕ) (p : Option Pair) (d : Detection) (k : Column) → j < n → get_or (columns_from m pairs ds) j k ≡ column_from (get_or pairs j p) (get_or ds j d)
  column_at_lem j p d k h =
      ap (λ (l : List Column). get_or l j k) front
      ∙ zip_at column_from (take n pairs) (take n ds) j p d k (omega (arith, rows_length pairs 64 m n sp taken)) (omega (arith, rows_length ds 64 m n sd taken))
      ∙ (λ i. column_from (get_or-take n pairs j p h i) (get_or-take n ds j d h i))

-- ---- what is told of each

pub told_length : (i : ℕ) (l : List Fate) → length (associations_from i l) ≡ length l
unfolding associations_from
told_length i [] = refl
told_length i (f ∷ l) = ap suc (told_length (suc i) l)

told_snoc : (i : ℕ) (l : List Fate) (f : Fate) → associations_from i (l ++ (f ∷ [])) ≡ associations_from i l ++ (association_of (i + length l) f ∷ [])
unfolding associations_from
told_snoc i [] f = let z : i + 0 ≡ i = omega arith in rw z
told_snoc i (x ∷ l) f =
    let z : i + suc (length l) ≡ suc i + length l = omega arith in
    rw z (ap {B = List ObservationAssociation} (λ r. association_of i x ∷ r) (told_snoc (suc i) l f))

pub told_more : (l : List Fate) (f : Fate) (j : ℕ) → length l ≡ j → j < 64 → set (lay (associations_from 0 l) blanks) j (association_of j f) ≡ lay (associations_from 0 (l ++ (f ∷ []))) blanks
told_more l f j e h =
    let z : length (associations_from 0 l) ≡ j = told_length 0 l ∙ e in
    let w : 0 + length l ≡ j = omega (arith, e) in
    ap (λ (k : ℕ). set (lay (associations_from 0 l) blanks) k (association_of j f)) (sym z)
    ∙ set_lay (associations_from 0 l) blanks (association_of j f) (omega (arith, z))
    ∙ ap (λ (r : List ObservationAssociation). lay r blanks) (sym (told_snoc 0 l f ∙ ap (λ (k : ℕ). associations_from 0 l ++ (association_of k f ∷ [])) w))

-- ---- a track behind the others, with the next number

module _ (s : Cartesian3DTracker) (k : ℕ) (size : length s.tracks ≡ 64) (taken : k ≡ min s.track_count 64) where
  pub tracks_count : length (tracks_of s) ≡ k
  unfolding tracks_of
  tracks_count = ap length (rows s.tracks 64 s.track_count k size taken) ∙ rows_length s.tracks 64 s.track_count k size taken

  abbrev with_one : Track3D → Cartesian3DTracker
  with_one t =
      record {
        tracks = set s.tracks k t;
        track_count = k + 1;
        next_track_id = s.next_track_id + 1;
        last_time = s.last_time;
        sequences = s.sequences;
        sequence_count = s.sequence_count;
        candidates = s.candidates;
        candidate_count = s.candidate_count;
        config = s.config;
      }

  grown : (t : Track3D) → k < 64 → take (k + 1) (set s.tracks k t) ≡ tracks_of s ++ (t ∷ [])
  unfolding tracks_of
  grown t h =
      ap (λ (u : Table Track3D). take u.count u.array) (pushed_room s.tracks 64 s.track_count k size taken t h)
      ∙ take_lay (pushed 64 t (take s.track_count s.tracks)) s.tracks
      ∙ pushed_fits 64 t (take s.track_count s.tracks) (ap (λ (n : ℕ). ltb n 64) (unfold tracks_of in tracks_count) ∙ lt-ltb k 64 h)

  pub state_grown : (t : Track3D) → k < 64 → state_of (with_one t) ≡ with_track t (state_of s)
  unfolding state_of tracks_of sequences_of candidates_of
  state_grown t h = let z : s.next_track_id + 1 ≡ suc s.next_track_id = omega arith in rw z (ap (λ (l : List Track3D). record { tracks = l; next = suc s.next_track_id; last = s.last_time; sequences = sequences_of s; candidates = candidates_of s }) (grown t h))

-- ---- a tracker that has grown: tracks behind those of t, and all other arrays as t has them

pub record Grown (t s : Cartesian3DTracker) : Type 0 where
  pub tracks : s.tracks ≡ lay (tracks_of s) t.tracks
  pub sequences : s.sequences ≡ t.sequences
  pub candidates : s.candidates ≡ t.candidates
  pub settings : s.config ≡ t.config

pub grown_start : (t : Cartesian3DTracker) → Grown t t
unfolding tracks_of
grown_start t = record { tracks = sym (lay_own t.track_count t.tracks); sequences = refl; candidates = refl; settings = refl }

longer : {A : Type 0} (l m : List A) (k : ℕ) → length (lay l m) ≡ k → length l < k → length l < length m
unfolding lay
longer l m k e h = omega (arith, length-append l (drop (length l) m), length-drop (length l) m)

pub grown_more : (t s : Cartesian3DTracker) (k : ℕ) (size : length s.tracks ≡ 64) (taken : k ≡ min s.track_count 64) (y : Track3D) → k < 64 → Grown t s → Grown t (with_one s k size taken y)
unfolding tracks_of
grown_more t s k size taken y h g =
    let n : length (tracks_of s) ≡ k = tracks_count s k size taken in
    let more : tracks_of (with_one s k size taken y) ≡ tracks_of s ++ (y ∷ []) = grown s k size taken y h in
    let room : length (tracks_of s) < length t.tracks = longer (tracks_of s) t.tracks 64 (ap length (sym g.tracks) ∙ size) (omega (arith, n)) in
    record {
      tracks =
          ap (λ (l : List Track3D). set l k y) g.tracks
          ∙ ap (λ (i : ℕ). set (lay (tracks_of s) t.tracks) i y) (sym n)
          ∙ set_lay (tracks_of s) t.tracks y room
          ∙ ap (λ (l : List Track3D). lay l t.tracks) (sym more);
      sequences = g.sequences;
      candidates = g.candidates;
      settings = g.settings;
    }

pub over_grown : (t s : Cartesian3DTracker) (x : State) → Grown t s → x.tracks ≡ tracks_of s → over_state s x ≡ over_state t x
unfolding over_state
over_grown t s x g e =
    let p : lay x.tracks s.tracks ≡ lay x.tracks t.tracks =
    ap (λ (l : List Track3D). lay x.tracks l) (g.tracks ∙ ap (λ (l : List Track3D). lay l t.tracks) (sym e)) ∙ lay_lay x.tracks x.tracks t.tracks (omega arith) in
    λ i. record {
      tracks = p i;
      track_count = length x.tracks;
      next_track_id = x.next;
      last_time = x.last;
      sequences = lay x.sequences (g.sequences i);
      sequence_count = length x.sequences;
      candidates = lay x.candidates (g.candidates i);
      candidate_count = length x.candidates;
      config = g.settings i;
    }

-- ---- at column j

module _ (config : Cartesian3DTrackerConfig) (sensor : ℕ) (now : ℤ) (places : List Vector) (cols : List Column) (start : State) (t : Cartesian3DTracker) where
  -- s, with its candidates apart, is what the births of the first j columns left, and `told` tells of them
  pub record Walking (s : Cartesian3DTracker) (kept : Candidates) (told : List ObservationAssociation) (j : ℕ) : Type 0 where
    pub so_far : Births
    pub read : j ≤ length cols
    pub gives : births_of config sensor now places (take j cols) start ≡ given so_far
    pub state : so_far.state ≡ with_candidates (list_of kept) (state_of s)
    pub slots : told ≡ lay (associations_from 0 so_far.fates) blanks
    pub arrays : Grown t s

  pub walking_start : (c : Candidates) → start ≡ with_candidates (list_of c) (state_of t) → Walking t c blanks 0
  unfolding births_of associations_from lay
  walking_start c e = record { so_far = record { state = start; fates = [] }; read = omega arith; gives = refl; state = e; slots = refl; arrays = grown_start t }

  -- a column more
  walking_more : (s u : Cartesian3DTracker) (c d : Candidates) (l : List ObservationAssociation) (j : ℕ) (k : Column) (b : Born) (x : ObservationAssociation) (w : Walking s c l j)
      → j < length cols → j < 64 → born_unless_taken config sensor now places (get_or cols j k).pair (get_or cols j k).detection (with_candidates (list_of c) (state_of s)) ≡ given b
      → b.state ≡ with_candidates (list_of d) (state_of u) → Grown t u → x ≡ association_of j b.fate → Walking u d (set l j x) (j + 1)
  walking_more s u c d l j k b x w h g e a q z =
      let long : length w.so_far.fates ≡ j = births_length config sensor now places (take j cols) start w.so_far w.gives ∙ length-take-le j cols w.read in
      record {
        so_far = record { state = b.state; fates = w.so_far.fates ++ (b.fate ∷ []) };
        read = omega arith;
        gives = births_more config sensor now places cols j k start w.so_far b h w.gives (rw w.state e);
        state = a;
        slots =
            ap (λ (y : ObservationAssociation). set l j y) z
            ∙ ap (λ (r : List ObservationAssociation). set r j (association_of j b.fate)) w.slots
            ∙ told_more w.so_far.fates b.fate j long g;
        arrays = q;
      }

  walking_stops : (s : Cartesian3DTracker) (c : Candidates) (l : List ObservationAssociation) (j : ℕ) (k : Column) (n : ℕ) (w : Walking s c l j)
      → j < length cols → born_unless_taken config sensor now places (get_or cols j k).pair (get_or cols j k).detection (with_candidates (list_of c) (state_of s)) ≡ refused n
      → births_of config sensor now places cols start ≡ refused n
  walking_stops s c l j k n w h e = births_stops config sensor now places cols j k start w.so_far n h w.gives (rw w.state e)

  pub walking_end : (s : Cartesian3DTracker) (c : Candidates) (l : List ObservationAssociation) (j : ℕ) (w : Walking s c l j) → length cols ≤ j → births_of config sensor now places cols start ≡ given w.so_far
  walking_end s c l j w h = ap (λ (k : List Column). births_of config sensor now places k start) (sym (take_all j cols h)) ∙ w.gives

  pub walking_taken : (s : Cartesian3DTracker) (c : Candidates) (l : List ObservationAssociation) (j : ℕ) (o : Option Pair) (p : Pair) (d : Detection) (k : Column) (x : ObservationAssociation) → Walking s c l j
      → j < length cols → j < 64 → get_or cols j k ≡ column_from o d → o ≡ Some p → x ≡ association_of j (updated (record { track = p.track; cost = p.cost })) → Walking s c (set l j x) (j + 1)
  unfolding born_unless_taken
  walking_taken s c l j o p d k x w h g e q z =
      let m : Match = record { track = p.track; cost = p.cost } in
      let e2 : (get_or cols j k).pair ≡ Some m = ap (λ (v : Column). v.pair) e ∙ rw q in
      walking_more s s c c l j k (record { state = with_candidates (list_of c) (state_of s); fate = updated m }) x w h g (rw e2) refl w.arrays z

  module _ (s : Cartesian3DTracker) (c : Candidates) (l : List ObservationAssociation) (j : ℕ) (p : Option Pair) (d : Detection) (k : Column) (w : Walking s c l j) (h : j < length cols) (g : j < 64)
      (e : get_or cols j k ≡ column_from p d) (free : p ≡ None) (n : ℕ) (size : length s.tracks ≡ 64) (taken : n ≡ min s.track_count 64) where
    abbrev one : Reply One
    one = one_of config sensor now (low_score config d) (near_confirmed config places d) d n s.next_track_id (list_of c)

    born : born_unless_taken config sensor now places (get_or cols j k).pair (get_or cols j k).detection (with_candidates (list_of c) (state_of s))
        ≡ and_then one (λ o. given (born_with (with_candidates (list_of c) (state_of s)) o.candidates o.track))
    unfolding born_unless_taken state_of
    born =
        let e2 : (get_or cols j k).pair ≡ None = ap (λ (v : Column). v.pair) e ∙ rw free in
        let e3 : (get_or cols j k).detection ≡ d = ap (λ (v : Column). v.detection) e in
        rw (e2, e3) (rw (tracks_count s n size taken) at (one_born config sensor now (low_score config d) (near_confirmed config places d) d (with_candidates (list_of c) (state_of s))))

    born_by : (r : Reply One) → one ≡ r → born_unless_taken config sensor now places (get_or cols j k).pair (get_or cols j k).detection (with_candidates (list_of c) (state_of s))
        ≡ and_then r (λ o. given (born_with (with_candidates (list_of c) (state_of s)) o.candidates o.track))
    born_by r q = born ∙ ap (λ (r : Reply One). and_then r (λ o. given (born_with (with_candidates (list_of c) (state_of s)) o.candidates o.track))) q

    pub walking_alone : (u : Candidates) (x : ObservationAssociation) → one ≡ given (record { candidates = list_of u; track = None }) → x ≡ association_of j unmatched → Walking s u (set l j x) (j + 1)
    unfolding born_with
    walking_alone u x q z = walking_more s s c u l j k (record { state = with_candidates (list_of u) (state_of s); fate = unmatched }) x w h g (born_by _ q) refl w.arrays z

    pub walking_begun : (u : Candidates) (y : Track3D) (x : ObservationAssociation) → n < 64 → one ≡ given (record { candidates = list_of u; track = Some y }) → x ≡ association_of j (spawned s.next_track_id)
        → Walking (with_one s n size taken y) u (set l j x) (j + 1)
    unfolding born_with
    walking_begun u y x b q z =
        walking_more s (with_one s n size taken y) c u l j k (record { state = with_track y (with_candidates (list_of u) (state_of s)); fate = spawned s.next_track_id }) x w h g
        (unfold state_of in born_by _ q) (ap (with_candidates (list_of u)) (sym (state_grown s n size taken y b))) (grown_more t s n size taken y b w.arrays) z

    pub walking_refused : (m : ℕ) → one ≡ refused m → births_of config sensor now places cols start ≡ refused m
    walking_refused m q = walking_stops s c l j k m w h (born_by _ q)

-- ---- what the walk answers

module _ (t : Cartesian3DTracker) (reply : Reply Births) where
  pub walk_stops : (n : ℕ) → reply ≡ refused n → refused n ≡ after_walk t reply
  walk_stops n e = rw e

  pub walk_done : (s u : Cartesian3DTracker) (kept : Candidates) (l : List ObservationAssociation) (w : Births) → reply ≡ given w → u ≡ over_state s (with_candidates (list_of kept) (state_of s))
      → w.state ≡ with_candidates (list_of kept) (state_of s) → Grown t s → l ≡ lay (associations_from 0 w.fates) blanks → given (record { tracker = u; associations = l }) ≡ after_walk t reply
  walk_done s u kept l w e h a g q =
      let tracks : w.state.tracks ≡ tracks_of s = ap (λ (x : State). x.tracks) a ∙ (unfold state_of in refl) in
      let z : u ≡ over_state t w.state = h ∙ ap (over_state s) (sym a) ∙ over_grown t s w.state g tracks in
      rw e (λ i. given (record { tracker = z i; associations = q i }))
