-- A batch by its stages, put together. Assumes nothing.
use Rattle.std.specs.Prelude.{Err, Ok}
use mathlib.Core.Path.{◌≡◌, refl, sym, ap, ◌∙◌}
use mathlib.Core.Bool.{true, false}
use mathlib.Core.List.{List, map}
use Prim.Native.Nat.{ℕ, ◌≤◌}
use native.Mathlib.Omega.{arith}
use lib.ListN.{length, take, replicate, length-take}
use Rattle.number.specs.Reply.{Reply, refused, given, and_then}
use Rattle.lists.specs.Lay.{lay}
use Rattle.lists.proofs.Laying.{lay_lay, lay_own}
use Rattle.types.specs.declared.batch.ObservationBatch3D.{ObservationBatch3D}
use Rattle.types.specs.declared.refusal.Refusal.{Refusal}
use Rattle.types.specs.declared.track.Track3D.{Track3D}
use Rattle.types.specs.declared.tracker.Cartesian3DTracker.{Cartesian3DTracker}
use Rattle.types.specs.Refusals.{number_of}
use Rattle.types.specs.Track.{with_mark}
use Rattle.types.specs.Batches.{batch_of, blank_report, whole_report}
use Rattle.types.specs.States.{State, state_of, tracks_of, sequences_of, candidates_of, over_tracks, over_state}
use Rattle.types.proofs.Overs.{state_over, settings_over, tracks_again}
use Rattle.tables.specs.Sequences.{room_for}
use Rattle.calls.specs.Predict.{at_time, predicted_tracks}
use Rattle.calls.specs.Pairing.{pair_config, cost_table, paired}
use Rattle.kuhn_munkres.specs.Takers.{taken_by}
use Rattle.number.proofs.Replies.{bound, given_same}
use Rattle.lists.proofs.Each.{each_length}
use Rattle.calls.specs.Update.{Matched, updated_by, updates, matched_with, matched}
use Rattle.calls.specs.Births.{remaining, with_candidates, confirmed_places, births_of}
use Rattle.calls.specs.Process.{Done, done_with, finished, process_reply}
use Rattle.calls.specs.Run.{state_given}
use Rattle.calls.specs.Answers.{BatchAnswers, report_after}
use Rattle.calls.proofs.Answering.{carries_out, batch_refuses}
use Rattle.association.proofs.Telling.{unmatched_few}
use Rattle.association.proofs.Ties.{listed_told}
use Rattle.birth_stage.proofs.Growing.{births_grow}
use Rattle.stages.specs.declared.Matching.{Matching}
use Rattle.stages.specs.declared.Finished.{Finished}
use Rattle.stages.specs.Stages.{laid_over, tracks_in, prepared_state, seen_in, match_reply, matched_by, HandsOver, finished_on}
use Rattle.moving.proofs.Tracks.{refused_before}
use Rattle.stages.proofs.Moving.{tracks_held}
use Rattle.stages.proofs.Ending.{sequences_held}
use Rattle.tracker.specs.Owner.{check_reply, rest_reply, moved_reply}

-- ---- what the stages leave of the table's length

matched_length : (c : _) (sensor : ℕ) (now : _) (ds : _) (ts : List Track3D) (m : Matched) → matched_with c sensor now ds ts ≡ given m → length m.tracks ≡ length ts
unfolding matched_with updates
matched_length c sensor now ds ts m e =
    let p = bound (cost_table (pair_config c) ts ds) _ m e in
    let q = bound (paired c now ts p.0 (length ds)) _ m p.2 in
    let r = bound (updates c sensor now (taken_by q.0 ds) ts) _ m q.2 in
    ap (λ (x : Matched). length x.tracks) (sym (given_same _ m r.2))
    ∙ each_length (λ i x. updated_by c sensor now x (taken_by q.0 ds i)) 0 ts r.0 r.1

finished_grows : (c : _) (s : State) (b : ObservationBatch3D) (m : Matched) (d : Done) → finished c s b m ≡ given d → length m.tracks ≤ length d.state.tracks
unfolding finished done_with
finished_grows c s b m d e =
    let p = bound (remaining c.birth_candidate_timeout_ns b.timestamp s.candidates) _ d e in
    let q = bound (births_of c b.sensor_id b.timestamp (confirmed_places m.tracks) m.columns (with_candidates p.0 (at_time b.timestamp m.tracks s))) _ d p.2 in
    let g = births_grow c b.sensor_id b.timestamp (confirmed_places m.tracks) m.columns (with_candidates p.0 (at_time b.timestamp m.tracks s)) q.0 q.1 in
    let h : length q.0.state.tracks ≡ length d.state.tracks = ap (λ (x : Done). length x.state.tracks) (given_same _ d q.2) in
    omega (arith, g.tracks, h)

-- ---- a state laid over a tracker whose tracks were changed before

over_again : (t : Cartesian3DTracker) (l : List Track3D) (x : State) → length l ≤ length x.tracks → over_state (over_state t (tracks_in t l)) x ≡ over_state t x
unfolding over_state state_of sequences_of candidates_of
over_again t l x h =
    λ i. record {
      tracks = lay_lay x.tracks l t.tracks h i;
      track_count = length x.tracks;
      next_track_id = x.next;
      last_time = x.last;
      sequences = lay x.sequences (lay_own t.sequence_count t.sequences i);
      sequence_count = length x.sequences;
      candidates = lay x.candidates (lay_own t.candidate_count t.candidates i);
      candidate_count = length x.candidates;
      config = t.config;
    }

module _ (t : Cartesian3DTracker) (b : ObservationBatch3D) where
  -- ---- stage 1

  check_refused : (n : ℕ) → check_reply t b ≡ refused n → process_reply t.config (state_of t) b ≡ refused n
  unfolding process_reply state_of
  check_refused n e = rw e

  pub batch_unchecked : (why : Refusal) → refused (number_of why) ≡ check_reply t b → refused (number_of why) ≡ finished_on t (process_reply t.config (state_of t) b)
  batch_unchecked why e = ap (finished_on t) (sym (check_refused (number_of why) (sym e)))

  check_passed : check_reply t b ≡ given tt → moved_reply t b ≡ process_reply t.config (state_of t) b
  check_passed e = unfold process_reply state_of batch_of in rw e

  -- ---- stages 2 and 3

  abbrev moves : Reply (List Track3D)
  moves = predicted_tracks t.config b.timestamp (tracks_of t)

  moved_as : moved_reply t b ≡ and_then moves (λ ms. rest_reply t b (map (with_mark false) ms))
  unfolding matched
  moved_as = go moves
    where
      go : (x : Reply (List Track3D)) → and_then (and_then x (λ ms. matched_with t.config b.sensor_id b.timestamp (seen_in b) (map (with_mark false) ms))) (finished t.config (state_of t) b)
          ≡ and_then x (λ ms. rest_reply t b (map (with_mark false) ms))
      go (refused n) = refl
      go (given ms) = refl

  -- the tracks that the preparation marks
  prepared_as : laid_over t (prepared_state t b.timestamp) ≡ and_then moves (λ ms. given (over_state t (tracks_in t (map (with_mark false) ms))))
  unfolding prepared_state
  prepared_as = go moves
    where
      go : (x : Reply (List Track3D)) → and_then (and_then x (λ ts. given (tracks_in t (map (with_mark false) ts)))) (λ s. given (over_state t s)) ≡ and_then x (λ ms. given (over_state t (tracks_in t (map (with_mark false) ms))))
      go (refused n) = refl
      go (given ms) = refl

  module _ (passed : given tt ≡ check_reply t b) where
    pub batch_unmoved : (why : Refusal) → refused (number_of why) ≡ laid_over t (prepared_state t b.timestamp) → refused (number_of why) ≡ finished_on t (process_reply t.config (state_of t) b)
    batch_unmoved why e =
        let n : moves ≡ refused (number_of why) = refused_before moves (λ ms. over_state t (tracks_in t (map (with_mark false) ms))) (number_of why) (sym (e ∙ prepared_as)) in
        ap (finished_on t) (sym (sym (check_passed (sym passed)) ∙ moved_as ∙ ap (λ (x : Reply (List Track3D)). and_then x (λ ms. rest_reply t b (map (with_mark false) ms))) n))

    -- the tracker at the batch's time, and what is left to do
    pub record Ready (u : Cartesian3DTracker) : Type 0 where
      pub laid : u ≡ over_state t (tracks_in t (tracks_of u))
      pub left : process_reply t.config (state_of t) b ≡ rest_reply t b (tracks_of u)

    pub ready : (u : Cartesian3DTracker) → given u ≡ laid_over t (prepared_state t b.timestamp) → Ready u
    ready u e =
        let p = bound moves (λ ms. given (over_state t (tracks_in t (map (with_mark false) ms)))) u (sym (e ∙ prepared_as)) in
        let w : u ≡ over_state t (tracks_in t (map (with_mark false) p.0)) = sym (given_same _ _ p.2) in
        let l : tracks_of u ≡ map (with_mark false) p.0 = ap tracks_of w ∙ tracks_held t (tracks_in t (map (with_mark false) p.0)) in
        record {
          laid = w ∙ ap (λ (k : List Track3D). over_state t (tracks_in t k)) (sym l);
          left = sym (check_passed (sym passed)) ∙ moved_as ∙ ap (λ (x : Reply (List Track3D)). and_then x (λ ms. rest_reply t b (map (with_mark false) ms))) p.1 ∙ ap (rest_reply t b) (sym l);
        }

    -- ---- stages 4 to 9

    module _ (u : Cartesian3DTracker) (r : Ready u) where
      same_settings : u.config ≡ t.config
      same_settings = ap (λ (x : Cartesian3DTracker). x.config) r.laid ∙ settings_over t (tracks_in t (tracks_of u))

      match_as : match_reply u b ≡ matched_with t.config b.sensor_id b.timestamp (seen_in b) (tracks_of u)
      match_as = ap (λ c. matched_with c b.sensor_id b.timestamp (seen_in b) (tracks_of u)) same_settings

      pub batch_unmatched : (why : Refusal) → match_reply u b ≡ refused (number_of why) → refused (number_of why) ≡ finished_on t (process_reply t.config (state_of t) b)
      batch_unmatched why e = ap (finished_on t) (sym (r.left ∙ ap (λ (x : Reply Matched). and_then x (finished t.config (state_of t) b)) (sym match_as ∙ e)))

      module _ (m : Matching) (h : HandsOver u b m) where
        -- the numbers of the tracks that took none, as the last stages need them
        pub few_numbers : length u.tracks ≡ 64 → m.paired.unmatched_count ≤ 64
        few_numbers st =
            let size : length (tracks_of u) ≤ 64 = unfold tracks_of in (let q = length-take u.track_count u.tracks in omega arith) in
            omega (arith, h.pairing.unmatched.many, unmatched_few (taken_by h.pairing.takers (seen_in b)) 0 (tracks_of u), size)

        pub listed : m.paired.unmatched ≡ lay (take m.paired.unmatched_count m.paired.unmatched) (replicate 64 0)
        listed = let l = h.pairing.unmatched in l.slots ∙ ap (λ (q : List ℕ). lay q (replicate 64 0)) (sym (listed_told _ m.paired.unmatched m.paired.unmatched_count l))

        abbrev done : Matched
        done = matched_by b m

        -- the tracker with its tracks updated
        updated : m.tracker ≡ over_state t (tracks_in t (tracks_of m.tracker))
        updated =
            let l : length (tracks_of m.tracker) ≡ length (tracks_of u) = matched_length u.config b.sensor_id b.timestamp (seen_in b) (tracks_of u) done h.is in
            h.whole
            ∙ ap (λ (x : Cartesian3DTracker). over_tracks x (tracks_of m.tracker)) r.laid
            ∙ tracks_again t (tracks_in t (tracks_of u)) (tracks_of m.tracker) (omega (arith, l))

        pub room_left : room_for 32 b.sensor_id (sequences_of t) ≡ true → room_for 32 b.sensor_id (sequences_of m.tracker) ≡ true
        room_left e = ap (room_for 32 b.sensor_id) (ap sequences_of updated ∙ sequences_held t (tracks_in t (tracks_of m.tracker))) ∙ e

        abbrev ends : Reply Done
        ends = finished t.config (state_of t) b done

        same_end : (s : State) → s.candidates ≡ (state_of t).candidates → s.next ≡ (state_of t).next → s.sequences ≡ (state_of t).sequences → finished t.config s b done ≡ ends
        unfolding finished
        same_end s p q r = rw (p, q, r)

        finish_as : finished m.tracker.config (state_of m.tracker) b done ≡ ends
        finish_as =
            let c : m.tracker.config ≡ t.config = ap (λ (x : Cartesian3DTracker). x.config) updated ∙ settings_over t (tracks_in t (tracks_of m.tracker)) in
            let s : state_of m.tracker ≡ tracks_in t (tracks_of m.tracker) = ap state_of updated ∙ state_over t (tracks_in t (tracks_of m.tracker)) in
            (λ i. finished (c i) (s i) b done) ∙ same_end (tracks_in t (tracks_of m.tracker)) (unfold state_of in refl) refl (unfold state_of in refl)

        -- the states of the end lie over the tracker that came in as over the one that was updated
        over_again_all : (x : Reply Done) → ends ≡ x → finished_on m.tracker x ≡ finished_on t x
        over_again_all (refused n) w = refl
        over_again_all (given d) w =
            let e : over_state m.tracker d.state ≡ over_state t d.state =
            ap (λ (v : Cartesian3DTracker). over_state v d.state) updated ∙ over_again t (tracks_of m.tracker) d.state (finished_grows t.config (state_of t) b done d w) in
            λ i. given (record { tracker = e i; report = whole_report d.report })

        pub batch_ended : finished_on m.tracker (finished m.tracker.config (state_of m.tracker) b (matched_by b m)) ≡ finished_on t (process_reply t.config (state_of t) b)
        batch_ended =
            ap (finished_on m.tracker) finish_as
            ∙ over_again_all ends refl
            ∙ ap (finished_on t) (sym (r.left ∙ ap (λ (x : Reply Matched). and_then x (finished t.config (state_of t) b)) (sym match_as ∙ h.is)))

  -- ---- the answer

  pub batch_is_refused : (why : Refusal) → refused (number_of why) ≡ finished_on t (process_reply t.config (state_of t) b) → BatchAnswers t b t (Err why) blank_report
  batch_is_refused why e = batch_refuses t b why (sym (refused_before (process_reply t.config (state_of t) b) (λ d. record { tracker = over_state t d.state; report = whole_report d.report }) (number_of why) (sym e)))

  pub batch_is_done : (f : Finished) → given f ≡ finished_on t (process_reply t.config (state_of t) b) → BatchAnswers t b f.tracker (Ok tt) f.report
  batch_is_done f e =
      let p = bound (process_reply t.config (state_of t) b) (λ d. given (record { tracker = over_state t d.state; report = whole_report d.report })) f (sym e) in
      let w : f ≡ record { tracker = over_state t p.0.state; report = whole_report p.0.report } = sym (given_same _ _ p.2) in
      record {
        tracker = carries_out t f.tracker p.0.state _ (ap (λ (x : Finished). x.tracker) w) (ap state_given (sym p.1));
        reported = ap (λ (x : Finished). x.report) w ∙ ap report_after (sym p.1);
      }
