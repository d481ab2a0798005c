-- The last stages of a batch: the births, the sensor's sequence and the report, put together. Assumes nothing.
use Rattle.std.specs.Prelude.{Option}
use mathlib.Core.Path.{◌≡◌, refl, sym, ap, ◌∙◌}
use mathlib.Core.Bool.{Bool, true, false, cond}
use mathlib.Core.List.{List, [], ◌∷◌}
use Prim.Native.Nat.{ℕ, suc, ◌≤◌}
use native.Mathlib.Omega.{arith}
use lib.Dec.{eqb}
use lib.ListN.{length, take, replicate}
use lib.Seq.{length-take-le}
use Rattle.number.specs.Reply.{Reply, refused, given, and_then}
use Rattle.lists.specs.Lay.{lay}
use Rattle.types.specs.declared.batch.ObservationBatch3D.{ObservationBatch3D}
use Rattle.types.specs.declared.batch.BatchReport3D.{BatchReport3D}
use Rattle.types.specs.declared.refusal.Refusal.{Refusal}
use Rattle.types.specs.declared.tracker.BirthCandidate.{BirthCandidate}
use Rattle.types.specs.declared.tracker.SensorSequence.{SensorSequence}
use Rattle.types.specs.declared.tracker.Cartesian3DTracker.{Cartesian3DTracker}
use Rattle.types.specs.Refusals.{number_of}
use Rattle.types.specs.Batches.{whole_report, over_report}
use Rattle.types.specs.States.{State, state_with, state_of, tracks_of, sequences_of, candidates_of, over_sequences, over_state}
use Rattle.types.proofs.Overs.{state_over, sequences_again}
use Rattle.tables.specs.Sequences.{entry, not_before, noted, noted_in, room_for}
use Rattle.calls.specs.Predict.{at_time}
use Rattle.calls.specs.Update.{Matched}
use Rattle.calls.specs.Births.{Births, remaining, with_candidates, confirmed_places, births_of}
use Rattle.calls.specs.Process.{Done, associations_from, done_with, finished}
use Rattle.calls.proofs.Accepted.{noted_room}
use Rattle.number.proofs.Replies.{bound, given_same}
use Rattle.calls.proofs.Spawning.{births_length}
use Rattle.moving.specs.Steps.{with_time}
use Rattle.association.specs.declared.Pair.{Pair}
use Rattle.birth_stage.specs.declared.Walked.{Walked}
use Rattle.birth_stage.specs.Walk.{births_after, blanks, walked_on, after_walk}
use Rattle.birth_stage.proofs.Walking.{told_length, columns_length}
use Rattle.birth_stage.proofs.Growing.{Grows, after_grows}
use Rattle.stages.specs.Stages.{matched_in, finished_on}
use Rattle.moving.proofs.Tracks.{refused_before}

-- ---- the sensor's sequence

noted_longer : (sensor q : ℕ) (l : List SensorSequence) → length l ≤ length (noted sensor q l)
unfolding noted
noted_longer sensor q [] = omega arith
noted_longer sensor q (e ∷ l) = go (not_before sensor e) (noted_longer sensor q l)
  where
    own : (b : Bool) → length l ≤ length (cond b l (e ∷ l))
    own true = omega arith
    own false = omega arith

    go : (b : Bool) → length l ≤ length (noted sensor q l) → suc (length l) ≤ length (cond b (entry sensor q ∷ cond (eqb e.sensor sensor) l (e ∷ l)) (e ∷ noted sensor q l))
    go true h = omega (arith, own (eqb e.sensor sensor))
    go false h = omega arith

pub sequences_held : (u : Cartesian3DTracker) (s : State) → sequences_of (over_state u s) ≡ s.sequences
unfolding state_of
sequences_held u s = ap (λ (y : State). y.sequences) (unfold state_of in state_over u s)

-- noted on a tracker that a state was laid over
pub sequence_noted : (u v x : Cartesian3DTracker) (s : State) (sensor q : ℕ) → v ≡ over_state u s → room_for 32 sensor s.sequences ≡ true → x ≡ over_sequences v (noted_in 32 sensor q (sequences_of v))
    → x ≡ over_state u (state_with s.tracks (noted sensor q s.sequences) s.candidates s)
sequence_noted u v x s sensor q ev room ex =
    let l : sequences_of v ≡ s.sequences = ap sequences_of ev ∙ sequences_held u s in
    ex
    ∙ (λ i. over_sequences (ev i) (noted_in 32 sensor q (l i)))
    ∙ ap (over_sequences (over_state u s)) (noted_room sensor q s.sequences room)
    ∙ sequences_again u s (noted sensor q s.sequences) (noted_longer sensor q s.sequences)

-- ---- the births of a batch

module _ (u : Cartesian3DTracker) (b : ObservationBatch3D) (pairs : List (Option Pair)) (ids : List ℕ) (k : ℕ) where
  abbrev m : Matched
  m = matched_in u b pairs ids k

  abbrev timed : Cartesian3DTracker
  timed = with_time b.timestamp u

  abbrev born : Reply Births
  born = births_after u.config b.sensor_id b.timestamp m.columns (state_of timed)

  -- stages 7 to 9 are the births at the batch's time, and what is done with them
  pub finished_as : finished u.config (state_of u) b m ≡ and_then born (λ w. given (done_with b m w))
  unfolding finished births_after state_of tracks_of sequences_of candidates_of
  finished_as = go (remaining u.config.birth_candidate_timeout_ns b.timestamp (candidates_of u))
    where
      go : (r : Reply (List BirthCandidate))
          → and_then r (λ l. and_then (births_of u.config b.sensor_id b.timestamp (confirmed_places (tracks_of u)) m.columns (with_candidates l (at_time b.timestamp (tracks_of u) (state_of u)))) (λ w. given (done_with b m w)))
          ≡ and_then (and_then r (λ l. births_of u.config b.sensor_id b.timestamp (confirmed_places (tracks_of u)) m.columns (with_candidates l (at_time b.timestamp (tracks_of u) (state_of u))))) (λ w. given (done_with b m w))
      go (refused n) = refl
      go (given l) = refl

  pub finish_refused : (why : Refusal) → refused (number_of why) ≡ after_walk timed born → refused (number_of why) ≡ finished_on u (finished u.config (state_of u) b m)
  finish_refused why e =
      let n : born ≡ refused (number_of why) = refused_before born (walked_on timed) (number_of why) (sym e) in
      ap (finished_on u) (sym (finished_as ∙ ap (λ (x : Reply Births). and_then x (λ y. given (done_with b m y))) n))

  module _ (w : Walked) (walks : given w ≡ after_walk timed born) where
    -- the births that were carried out
    record Bore : Type 0 where
      all : Births
      bears : born ≡ given all
      same : w ≡ walked_on timed all

    bore : Bore
    bore = let p = bound born (λ x. given (walked_on timed x)) w (sym walks) in record { all = p.0; bears = p.1; same = sym (given_same _ _ p.2) }

    over_timed : (x : State) → over_state timed x ≡ over_state u x
    unfolding over_state
    over_timed x = refl

    -- all that births leave
    ended : Grows (state_of timed) bore.all.state
    ended = after_grows u.config b.sensor_id b.timestamp m.columns (state_of timed) bore.all bore.bears

    still : (state_of timed).sequences ≡ sequences_of u
    unfolding state_of sequences_of
    still = refl

    many : length bore.all.fates ≡ length m.columns
    unfolding births_after
    many =
        let p = bound (remaining u.config.birth_candidate_timeout_ns b.timestamp (state_of timed).candidates) _ bore.all bore.bears in
        births_length u.config b.sensor_id b.timestamp (confirmed_places (state_of timed).tracks) m.columns (with_candidates p.0 (state_of timed)) bore.all p.2

    abbrev done_all : Done
    done_all = done_with b m bore.all

    finished_given : given done_all ≡ finished u.config (state_of u) b m
    finished_given = sym (finished_as ∙ ap (λ (x : Reply Births). and_then x (λ y. given (done_with b m y))) bore.bears)

    abbrev report : BatchReport3D
    report =
        record {
          timestamp = b.timestamp;
          sensor_id = b.sensor_id;
          associations = w.associations;
          association_count = b.count;
          unmatched_track_ids = ids;
          unmatched_track_count = k;
        }

    reported : b.count ≤ 64 → length pairs ≡ 64 → length b.observations ≡ 64 → length ids ≡ 64 → k ≤ 64 → ids ≡ lay (take k ids) (replicate 64 0) → report ≡ whole_report done_all.report
    unfolding done_with whole_report over_report
    reported few sp sd si sk e =
        let a : w.associations ≡ lay (associations_from 0 bore.all.fates) blanks = ap (λ (x : Walked). x.associations) bore.same in
        let c : b.count ≡ length (associations_from 0 bore.all.fates) =
        sym (told_length 0 bore.all.fates ∙ many ∙ columns_length pairs b.observations b.count b.count sp sd (omega arith)) in
        let n : k ≡ length (take k ids) = sym (length-take-le k ids (omega arith)) in
        λ i. record {
          timestamp = b.timestamp;
          sensor_id = b.sensor_id;
          associations = a i;
          association_count = c i;
          unmatched_track_ids = e i;
          unmatched_track_count = n i;
        }

    laid : (x : Cartesian3DTracker) → room_for 32 b.sensor_id (sequences_of u) ≡ true → x ≡ over_sequences w.tracker (noted_in 32 b.sensor_id b.sequence (sequences_of w.tracker)) → x ≡ over_state u done_all.state
    unfolding done_with
    laid x room ex =
        sequence_noted u w.tracker x bore.all.state b.sensor_id b.sequence (ap (λ (y : Walked). y.tracker) bore.same ∙ over_timed bore.all.state)
        (ap (room_for 32 b.sensor_id) (ended.sequences ∙ still) ∙ room) ex

    pub finish_done : (x : Cartesian3DTracker) → b.count ≤ 64 → room_for 32 b.sensor_id (sequences_of u) ≡ true → ids ≡ lay (take k ids) (replicate 64 0) → k ≤ 64
        → length pairs ≡ 64 → length b.observations ≡ 64 → length ids ≡ 64 → x ≡ over_sequences w.tracker (noted_in 32 b.sensor_id b.sequence (sequences_of w.tracker))
        → given (record { tracker = x; report = report }) ≡ finished_on u (finished u.config (state_of u) b m)
    finish_done x few room e sk sp sd si ex =
        let l = laid x room ex in
        let r = reported few sp sd si sk e in
        (λ i. given (record { tracker = l i; report = r i })) ∙ ap (finished_on u) finished_given
