-- In every state that calls make, track numbers strictly ascend and stay below the next one. Assumes nothing.
use Rattle.std.specs.Prelude.{None, Some, Option}
use Rattle.lifecycle.specs.declared.TrackLifecycle.{TrackLifecycle}
use mathlib.Core.Path.{◌≡◌, refl, sym, ap, ◌∙◌, subst}
use mathlib.Core.List.{List, [], ◌∷◌, map}
use mathlib.Core.Bool.{Bool, true, false, cond, not}
use Prim.Native.Nat.{ℕ}
use native.Mathlib.Omega.{arith}
use lib.IntN.{ℤ}
use lib.Ieee.{Float}
use lib.Ieee.Scale.{finite}
use lib.ListN.{length}
use Rattle.number.specs.Reply.{Reply, refused, given, and_then, left_in}
use Rattle.number.specs.Time.{seconds_of, duration_reply, same_time}
use Rattle.lists.specs.First.{any}
use Rattle.lists.specs.Sift.{sift}
use Rattle.lifecycle.specs.Lifecycle.{advanced_of}
use Rattle.lifecycle.specs.declared.LifecycleConfig.{LifecycleConfig}
use Rattle.settings.specs.declared.Cartesian3DTrackerConfig.{Cartesian3DTrackerConfig}
use Rattle.filter.specs.Filter.{predicted}
use Rattle.detections.specs.declared.Detection.{Detection}
use Rattle.types.specs.declared.track.Track3D.{Track3D}
use Rattle.types.specs.declared.tracker.BirthCandidate.{BirthCandidate}
use Rattle.types.specs.declared.batch.ObservationBatch3D.{ObservationBatch3D}
use Rattle.types.specs.Track.{with_mark, with_prior}
use Rattle.types.specs.Batches.{batch_of}
use Rattle.types.specs.States.{State}
use Rattle.types.specs.Fresh.{fresh_state}
use Rattle.kuhn_munkres.specs.Takers.{taken_by}
use Rattle.number.proofs.Replies.{given_same, bound, past_test}
use Rattle.tables.specs.Operations.{numbered}
use Rattle.batches.specs.Check.{is_before, batch_reply}
use Rattle.calls.specs.Numbers.{numbers_of, Ascend, Numbered}
use Rattle.calls.specs.Predict.{continued_as, continued, moved_by, moved, predicted_tracks, at_time, predict_reply}
use Rattle.calls.specs.Pairing.{pair_config, cost_table, paired}
use Rattle.calls.specs.Update.{moving, filter_updated, observation_applied, updated_with, updated_by, updates, Matched, matched_with, matched}
use Rattle.calls.specs.Births.{Births, remaining, with_candidates, confirmed_places, births_of}
use Rattle.calls.specs.Process.{Done, done_with, finished, process_reply}
use Rattle.calls.specs.Prior.{prior_reply}
use Rattle.calls.specs.Run.{Call, predict_to, process_batch, set_class_prior, state_reply, state_after, run}
use Rattle.calls.proofs.Ascends.{ascend_sift, each_numbers, each_at_numbers, map_numbers, change_numbers}
use Rattle.calls.proofs.Spawning.{births_ascend}

-- ---- the stages of an accepted batch

pub record Stages (c : Cartesian3DTrackerConfig) (s : State) (b : ObservationBatch3D) (x : Done) : Type 0 where
  pub made : Matched
  pub left : List BirthCandidate
  pub born : Births
  pub matches : matched c b.sensor_id b.timestamp s.tracks (batch_of b).detections ≡ given made
  pub ages : remaining c.birth_candidate_timeout_ns b.timestamp s.candidates ≡ given left
  pub bears : births_of c b.sensor_id b.timestamp (confirmed_places made.tracks) made.columns (with_candidates left (at_time b.timestamp made.tracks s)) ≡ given born
  pub whole : x ≡ done_with b made born

pub stages : (c : Cartesian3DTrackerConfig) (s : State) (b : ObservationBatch3D) (x : Done) → process_reply c s b ≡ given x → Stages c s b x
unfolding process_reply finished
stages c s b x e =
    let u = bound (batch_reply c.frame_id s.last s.sequences b) _ x e in
    let p = bound (matched c b.sensor_id b.timestamp s.tracks (batch_of b).detections) _ x u.2 in
    let q = bound (remaining c.birth_candidate_timeout_ns b.timestamp s.candidates) _ x p.2 in
    let r = bound (births_of c b.sensor_id b.timestamp (confirmed_places p.0.tracks) p.0.columns (with_candidates q.0 (at_time b.timestamp p.0.tracks s))) _ x q.2 in
    record { made = p.0; left = q.0; born = r.0; matches = p.1; ages = q.1; bears = r.1; whole = sym (given_same _ x r.2) }

-- ---- each step keeps the track's number

continued_number : (life : LifecycleConfig) (now : ℤ) (t u : Track3D) → continued life now t ≡ Some u → u.id ≡ t.id
unfolding continued
continued_number life now t u e = go (advanced_of t.lifecycle now life) e
  where
    go : (o : Option TrackLifecycle) → continued_as t o ≡ Some u → u.id ≡ t.id
    go (Some l) e = let same : Some u ≡ continued_as t (Some l) = sym e in cc
    go None e = absurd (let z : ◌≡◌ {A = ℕ} 0 1 = cc in omega arith)

module _ (q : Float) (now : ℤ) where
  moved_by_number : (t u : Track3D) (dt : ℤ) → moved_by q now t dt ≡ given u → u.id ≡ t.id
  unfolding moved_by
  moved_by_number t u dt e =
      let p = bound (predicted (seconds_of dt) q t.filter) _ u e in
      ap (λ (v : Track3D). v.id) (sym (given_same _ u p.2))

  moved_number : (t u : Track3D) → moved q now t ≡ given u → u.id ≡ t.id
  unfolding moved
  moved_number t u e = go (same_time t.state_timestamp now) e
    where
      go : (b : Bool) → cond b (given t) (and_then (duration_reply now t.state_timestamp) (moved_by q now t)) ≡ given u → u.id ≡ t.id
      go true e = ap (λ (v : Track3D). v.id) (sym (given_same t u e))
      go false e = let p = bound (duration_reply now t.state_timestamp) _ u e in moved_by_number t u p.0 p.2

pub predicted_ascend : (c : Cartesian3DTrackerConfig) (now : ℤ) (ts us : List Track3D) (hi : ℕ) → Ascend (numbers_of ts) hi → predicted_tracks c now ts ≡ given us → Ascend (numbers_of us) hi
unfolding predicted_tracks
predicted_ascend c now ts us hi h e =
    rw (each_numbers (moved c.accel_spectral_density now) (moved_number c.accel_spectral_density now) (sift (continued c.lifecycle now) ts) us e)
    (ascend_sift (continued c.lifecycle now) (continued_number c.lifecycle now) ts hi h)

module _ (c : Cartesian3DTrackerConfig) (sensor : ℕ) (now : ℤ) where
  updated_by_number : (t u : Track3D) (o : Option Detection) → updated_by c sensor now t o ≡ given u → u.id ≡ t.id
  unfolding updated_by updated_with observation_applied
  updated_by_number t u None e = ap (λ (v : Track3D). v.id) (sym (given_same t u e))
  updated_by_number t u (Some d) e =
      let p = bound (filter_updated (moving c d) d t.filter) _ u e in
      ap (λ (v : Track3D). v.id) (sym (given_same _ u p.2))

  updates_numbers : (took : ℕ → Option Detection) (ts us : List Track3D) → updates c sensor now took ts ≡ given us → numbers_of us ≡ numbers_of ts
  unfolding updates
  updates_numbers took ts us e = each_at_numbers (λ i t. updated_by c sensor now t (took i)) (λ i t u h. updated_by_number t u (took i) h) 0 ts us e

  matched_with_numbers : (ds : List Detection) (ts : List Track3D) (m : Matched) → matched_with c sensor now ds ts ≡ given m → numbers_of m.tracks ≡ numbers_of ts
  unfolding matched_with
  matched_with_numbers ds ts m e =
      let p = bound (cost_table (pair_config c) ts ds) _ m e in
      let q = bound (paired c now ts p.0 (length ds)) _ m p.2 in
      let r = bound (updates c sensor now (taken_by q.0 ds) ts) _ m q.2 in
      ap (λ (v : Matched). numbers_of v.tracks) (sym (given_same _ m r.2)) ∙ updates_numbers (taken_by q.0 ds) ts r.0 r.1

  matched_ascend : (ts : List Track3D) (hi : ℕ) (ds : List Detection) (m : Matched) → Ascend (numbers_of ts) hi → matched c sensor now ts ds ≡ given m → Ascend (numbers_of m.tracks) hi
  unfolding matched
  matched_ascend ts hi ds m h e =
      let p = bound (predicted_tracks c now ts) _ m e in
      rw (matched_with_numbers ds (map (with_mark false) p.0) m p.2, map_numbers (with_mark false) (λ t. refl) p.0) (predicted_ascend c now ts p.0 hi h p.1)

-- ---- the calls keep the order

pub process_numbered : (c : Cartesian3DTrackerConfig) (s : State) (b : ObservationBatch3D) (x : Done) → Numbered s → process_reply c s b ≡ given x → Numbered x.state
unfolding done_with
process_numbered c s b x h e =
    let f = stages c s b x e in
    rw f.whole (births_ascend c b.sensor_id b.timestamp (confirmed_places f.made.tracks) f.made.columns _ f.born f.bears
    (matched_ascend c b.sensor_id b.timestamp s.tracks s.next (batch_of b).detections f.made h f.matches))

pub predict_numbered : (c : Cartesian3DTrackerConfig) (s t : State) (now : ℤ) → Numbered s → predict_reply c s now ≡ given t → Numbered t
unfolding predict_reply
predict_numbered c s t now h e =
    let q = past_test (not (is_before s.last now)) 3 _ t e in
    let p = bound (predicted_tracks c now s.tracks) _ t q.1 in
    subst Numbered (given_same _ t p.2) (predicted_ascend c now s.tracks p.0 s.next h p.1)

pub prior_numbered : (s t : State) (n label : ℕ) (confidence : Float) → Numbered s → prior_reply s n label confidence ≡ given t → Numbered t
unfolding prior_reply
prior_numbered s t n label confidence h e =
    let q = past_test (finite confidence) 12 _ t e in
    let p = past_test (any (numbered n) s.tracks) 12 _ t q.1 in
    subst Numbered (given_same _ t p.1) (rw (change_numbers (numbered n) (with_prior (Some (record { label = label; confidence = _ }))) (λ x. refl) s.tracks) h)

left_numbered : (s : State) (r : Reply State) → Numbered s → ((t : State) → r ≡ given t → Numbered t) → Numbered (left_in r s)
left_numbered s (refused n) h f = h
left_numbered s (given t) h f = f t refl

pub after_numbered : (c : Cartesian3DTrackerConfig) (s : State) (call : Call) → Numbered s → Numbered (state_after c s call)
unfolding state_after state_reply
after_numbered c s (predict_to now) h = left_numbered s (predict_reply c s now) h (λ t e. predict_numbered c s t now h e)
after_numbered c s (process_batch b) h =
    left_numbered s (and_then (process_reply c s b) (λ d. given d.state)) h
    (λ t e. let p = bound (process_reply c s b) _ t e in subst Numbered (given_same _ t p.2) (process_numbered c s b p.0 h p.1))
after_numbered c s (set_class_prior n label confidence) h = left_numbered s (prior_reply s n label confidence) h (λ t e. prior_numbered s t n label confidence h e)

pub run_numbered : (c : Cartesian3DTrackerConfig) (calls : List Call) (s : State) → Numbered s → Numbered (run c calls s)
unfolding run
run_numbered c [] s h = h
run_numbered c (call ∷ calls) s h = run_numbered c calls (state_after c s call) (after_numbered c s call h)

pub fresh_numbered : Numbered fresh_state
unfolding Ascend
fresh_numbered = tt
