-- Demand 3 over what a C program holds, from the guarantee on lists: a record that calls left holds what the definitions make, and the tracks in it are the state's, each by its numbers. Assumes nothing.
use Rattle.std.specs.Prelude.{None, Option, Some}
use mathlib.Core.Path.{◌≡◌, refl, sym, ap, ◌∙◌, subst}
use mathlib.Core.Bool.{Bool, true, false, cond}
use mathlib.Core.List.Memᴰ
use mathlib.Core.List.{List, [], ◌∷◌, map, Memᴰ}
use mathlib.Core.Logic.{◌⊎◌, inl, inr}
use Prim.Native.Nat.{ℕ, zero, suc, ◌<◌}
use native.Mathlib.Omega.{arith}
use lib.Dec.{eqb}
use lib.ListN.{take}
use Rattle.number.specs.Reply.{Reply, refused, given, code_of}
use Rattle.lists.specs.First.{first_of}
use Rattle.lists.proofs.Laying.{take_lay}
use Rattle.settings.specs.declared.Cartesian3DTrackerConfig.{Cartesian3DTrackerConfig}
use Rattle.settings.specs.Fields.{Field, first_bad, SettingsReply, accepted, refused as bad}
use Rattle.settings.specs.Settings.{fields_of, settings_reply}
use Rattle.types.specs.declared.batch.ObservationBatch3D.{ObservationBatch3D}
use Rattle.types.specs.declared.track.Track3D.{Track3D}
use Rattle.types.specs.States.{State, state_of, tracks_of}
use Rattle.types.specs.Fresh.{fresh_state}
use Rattle.types.proofs.Overs.{fresh_state_lem}
use Rattle.tables.specs.Operations.{numbered}
use Rattle.calls.specs.Process.{Done, process_reply}
use Rattle.calls.specs.Run.{Call, run}
use Rattle.calls.specs.Numbers.{Numbered}
use Rattle.calls.specs.Numbers as numbers
use Rattle.calls.proofs.Numbers.{process_numbered, run_numbered, fresh_numbered}
use Rattle.guarantee.specs.Claim.{DifferByFar, Undisturbed, Guaranteed}
use Rattle.guarantee.proofs.Demand3.{demand3_from}
use Rattle.records.specs.declared.config.PkSettings.{PkSettings}
use Rattle.records.specs.declared.tracks.PkTrack.{PkTrack}
use Rattle.records.specs.declared.tracker.PkTracker.{PkTracker}
use Rattle.records.specs.Configs.{settings_of}
use Rattle.records.specs.Tracks.{track_of, track_to}
use Rattle.records.specs.Trackers.{tracker_of, pk_over, pk_after, pk_fresh, pk_state}
use Rattle.records.proofs.Overs.{state_over_pk, fresh_tracker}
use Rattle.batch_records.specs.declared.PkBatch.{PkBatch}
use Rattle.batch_records.specs.Batches.{batch_of, report_to}
use Rattle.c_tracker.specs.Calls.{Heeded, new_by, new_answer, processed_by, batch_on, batch_answer}
use Rattle.c_guarantee.specs.Reading.{pk_tracks, track_in, report_in}
use Rattle.c_guarantee.specs.Claim.{PkCall, call_of, pk_run, held_after, PkGuaranteed, PkDemand3}
use Rattle.c_guarantee.proofs.Reports.{report_read}
use Rattle.c_guarantee.proofs.Runs.{run_settings, calls_are_calls}

-- ---- an accepted batch

-- the batch b on the record u is accepted, and gives x
abbrev Gives : PkTracker → PkBatch → Done → Type 0
Gives u b x = batch_on u b ≡ given x

-- an answer of 0 says so
accepted_by : (r : Reply Done) → Heeded r → code_of r ≡ 0 → (x : Done) × (r ≡ given x)
accepted_by (refused n) h e = absurd (let z = h n refl in let f : n ≡ 0 = e in omega arith)
accepted_by (given x) h e = (x, refl)

gives_by_code : (u : PkTracker) (b : PkBatch) → Heeded (batch_on u b) → (batch_answer u b).report.code ≡ 0 → (x : Done) × Gives u b x
unfolding batch_answer report_to
gives_by_code u b h e = accepted_by (batch_on u b) h e

module _ (u : PkTracker) (b : PkBatch) (x : Done) (g : Gives u b x) where
  -- the whole answer is that of what is given
  answered : batch_answer u b ≡ processed_by u (given x)
  unfolding batch_answer
  answered = ap (processed_by u) g

  left_is : (batch_answer u b).tracker ≡ pk_over u x.state
  unfolding pk_after
  left_is = ap (λ p. p.tracker) answered

  -- and what is held is what was given
  held : held_after u b ≡ x
  held = λ i. record {
    state = (ap pk_state left_is ∙ state_over_pk u x.state) i;
    report = (ap (λ p. report_in p.report) answered ∙ report_read 0 x.report) i;
  }

-- ---- the tracks in C's record

abbrev through : {A B : Type 0} → (A → B) → Option A → Option B
through f None = None
through f (Some a) = Some (f a)

-- the one of a number among tracks that were written for C
first_written : (n : ℕ) (l : List Track3D) → first_of (λ x. eqb n x.id) (map track_to l) ≡ through track_to (numbers.track_of n l)
unfolding first_of track_to
first_written n [] = refl
first_written n (x ∷ l) = go (eqb n x.id) (first_written n l)
  where
    go : (p : Bool) → first_of (λ x. eqb n x.id) (map track_to l) ≡ through track_to (first_of (numbered n) l)
        → cond p (Some (track_to x)) (first_of (λ x. eqb n x.id) (map track_to l)) ≡ through track_to (cond p (Some x) (first_of (numbered n) l))
    go true e = refl
    go false e = e

track_in_lem : (u : PkTracker) (s : State) (n : ℕ) → track_in n (pk_over u s) ≡ through track_to (numbers.track_of n s.tracks)
unfolding pk_over
track_in_lem u s n = ap (first_of (λ x. eqb n x.id)) (take_lay (map track_to s.tracks) u.tracks) ∙ first_written n s.tracks

-- a track that stands in the record stands in the state that it means
member_read : (n : ℕ) (l : List PkTrack) (x : PkTrack) → Memᴰ x (take n l) → Memᴰ (track_of x) (take n (map track_of l))
member_read zero l x m = absurd (Memᴰ.not-nil m)
member_read (suc n) [] x m = absurd (Memᴰ.not-nil m)
member_read (suc n) (y ∷ l) x m = go (Memᴰ.cases_cons m) (member_read n l x)
  where
    go : (x ≡ y) ⊎ Memᴰ x (take n l) → (Memᴰ x (take n l) → Memᴰ (track_of x) (take n (map track_of l))) → Memᴰ (track_of x) (track_of y ∷ take n (map track_of l))
    go (inl e) f = Memᴰ.head (ap track_of e)
    go (inr h) f = Memᴰ.tail (f h)

member_state : (u : PkTracker) (x : PkTrack) → Memᴰ x (pk_tracks u) → Memᴰ (track_of x) (pk_state u).tracks
unfolding state_of tracks_of tracker_of
member_state u x m = member_read u.track_count u.tracks x m

same_number : (x : PkTrack) → (track_of x).id ≡ x.id
unfolding track_of
same_number x = refl

-- ---- the guarantee

module _ (c : Cartesian3DTrackerConfig) (cs : List Call) (s : State) (reached : s ≡ run c cs fresh_state) (a b : ObservationBatch3D) (d : DifferByFar c s a b) (x y : Done)
    (A : process_reply c s a ≡ given x) (B : process_reply c s b ≡ given y) where
  numbered_here : Numbered s
  numbered_here = subst Numbered (sym reached) (run_numbered c cs fresh_state fresh_numbered)

  undisturbed_here : Undisturbed c s a b d x y
  undisturbed_here =
      subst (λ (s : State). (d : DifferByFar c s a b) → process_reply c s a ≡ given x → process_reply c s b ≡ given y → Undisturbed c s a b d x y) (sym reached)
      (demand3_from c fresh_state fresh_numbered cs a b x y) d A B

  guaranteed_here : Guaranteed c fresh_state cs s a b d x y
  guaranteed_here =
      record {
        reached = reached;
        numbered = numbered_here;
        numbered_a = process_numbered c s a x numbered_here A;
        numbered_b = process_numbered c s b y numbered_here B;
        given_a = subst (λ (s : State). process_reply c s a ≡ given x) reached A;
        given_b = subst (λ (s : State). process_reply c s b ≡ given y) reached B;
        undisturbed = undisturbed_here;
      }

-- the state of a fresh record
fresh_pk : (settings : PkSettings) → pk_state (pk_fresh settings) ≡ fresh_state
fresh_pk settings = ap state_of (fresh_tracker settings) ∙ fresh_state_lem (settings_of settings)

fresh_settings : (settings : PkSettings) → (pk_fresh settings).settings ≡ settings
unfolding pk_fresh
fresh_settings settings = refl

module _ (settings : PkSettings) (cs : List PkCall) (a b : PkBatch) (x y : Done) (u : PkTracker) (is : u ≡ pk_run cs (pk_fresh settings)) (A : Gives u a x) (B : Gives u b y)
    (d : DifferByFar (settings_of settings) (pk_state u) (batch_of a) (batch_of b)) where
  abbrev c : Cartesian3DTrackerConfig
  c = settings_of settings

  settings_are : u.settings ≡ settings
  settings_are = ap (λ (t : PkTracker). t.settings) is ∙ run_settings cs (pk_fresh settings) ∙ fresh_settings settings

  reached_is : pk_state u ≡ run c (map call_of cs) fresh_state
  reached_is =
      ap pk_state is ∙ calls_are_calls cs (pk_fresh settings) ∙ ap (λ (z : PkSettings). run (settings_of z) (map call_of cs) (pk_state (pk_fresh settings))) (fresh_settings settings)
      ∙ ap (run c (map call_of cs)) (fresh_pk settings)

  under : (e : PkBatch) (z : Done) → Gives u e z → process_reply c (pk_state u) (batch_of e) ≡ given z
  under e z g = subst (λ (q : PkSettings). process_reply (settings_of q) (pk_state u) (batch_of e) ≡ given z) settings_are g

  whole : Guaranteed c fresh_state (map call_of cs) (pk_state u) (batch_of a) (batch_of b) d x y
  whole = guaranteed_here c (map call_of cs) (pk_state u) reached_is (batch_of a) (batch_of b) d x y (under a x A) (under b y B)

  stands : (z : PkTrack) → Memᴰ z (pk_tracks u) → track_in z.id (batch_answer u a).tracker ≡ track_in z.id (batch_answer u b).tracker
  stands z m =
      let e = whole.undisturbed.standing (track_of z) (member_state u z m) in
      let same : numbers.track_of z.id x.state.tracks ≡ numbers.track_of z.id y.state.tracks =
      subst (λ (n : ℕ). numbers.track_of n x.state.tracks ≡ numbers.track_of n y.state.tracks) (same_number z) e in
      ap (track_in z.id) (left_is u a x A) ∙ track_in_lem u x.state z.id ∙ ap (through track_to) same ∙ sym (track_in_lem u y.state z.id) ∙ ap (track_in z.id) (sym (left_is u b y B))

  pk_guaranteed : PkGuaranteed settings cs u a b d
  pk_guaranteed =
      record {
        guaranteed =
            subst (λ (p : Done). Guaranteed c fresh_state (map call_of cs) (pk_state u) (batch_of a) (batch_of b) d p (held_after u b)) (sym (held u a x A))
            (subst (λ (p : Done). Guaranteed c fresh_state (map call_of cs) (pk_state u) (batch_of a) (batch_of b) d x p) (sym (held u b y B)) whole);
        standing = stands;
      }

-- settings are refused with 1 alone
settings_number : (l : List Field) (n k : ℕ) → first_bad l ≡ bad n k → 0 < n
unfolding first_bad
settings_number [] n k e = absurd (let z : ◌≡◌ {A = ℕ} 0 1 = cc in omega arith)
settings_number (f ∷ l) n k e = go f.bad (settings_number l n k) e
  where
    go : (p : Bool) → (first_bad l ≡ bad n k → 0 < n) → cond p (bad 1 f.number) (first_bad l) ≡ bad n k → 0 < n
    go true h e = let one : 1 ≡ n = cc in omega arith
    go false h e = h e

fresh_by : (t : PkTracker) (c : PkSettings) (r : SettingsReply) → ((n k : ℕ) → r ≡ bad n k → 0 < n) → (new_by r t c).code ≡ 0 → (new_by r t c).tracker ≡ pk_fresh c
fresh_by t c accepted h e = refl
fresh_by t c (bad n k) h e = absurd (let z = h n k refl in let f : n ≡ 0 = e in omega arith)

-- an answer of 0 says that the record is a fresh one
fresh_left : (t : PkTracker) (c : PkSettings) → (new_answer t c).code ≡ 0 → (new_answer t c).tracker ≡ pk_fresh c
unfolding new_answer settings_reply
fresh_left t c e = fresh_by t c (settings_reply (settings_of c)) (settings_number (fields_of (settings_of c))) e

pub pk_demand3 : PkDemand3
pk_demand3 before settings cs a b z h e k f d =
    let u = pk_run cs (new_answer before settings).tracker in
    let A = gives_by_code u a h e in
    let B = gives_by_code u b k f in
    pk_guaranteed settings cs a b A.0 B.0 u (ap (pk_run cs) (fresh_left before settings z)) A.1 B.1 d
