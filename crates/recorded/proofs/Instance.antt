-- Demand 3 speaks of something: its premises hold of whole trackers that calls made, and each of its conditions is needed. Assumes nothing.
use Rattle.types.specs.declared.refusal.Refusal.{Refusal}
use Rattle.std.specs.Prelude.{Ok, Result, None, Option, Some}
use mathlib.Core.Path.{◌≡◌, refl, sym, ap, ◌∙◌, subst}
use mathlib.Core.Bool.{Bool, true, false, ◌&&◌}
use mathlib.Core.List.Memᴰ
use mathlib.Core.List.{List, [], ◌∷◌, map, Memᴰ}
use mathlib.Core.Logic.{◌⊎◌, inl, inr}
use Prim.Native.Nat.{ℕ}
use native.Mathlib.Omega.{arith}
use lib.IntN.{ℤ, pos}
use Rattle.number.specs.Reply.{Reply, refused, given}
use Rattle.settings.specs.declared.Cartesian3DTrackerConfig.{Cartesian3DTrackerConfig}
use Rattle.settings.specs.Settings.{default_settings}
use Rattle.settings.proofs.Defaults.{default_accepted}
use Rattle.lists.specs.First.{first_of}
use Rattle.lists.specs.Masks.{left_by, Struck, Every}
use Rattle.number.proofs.Replies.{never_given}
use Rattle.lifecycle.specs.declared.TrackLifecycleState.TheVariants.{Tentative}
use Rattle.detections.specs.declared.Detection.{Detection}
use Rattle.detections.specs.declared.pairs.PairConfig.{PairConfig}
use Rattle.detections.specs.declared.pairs.Target.{Target}
use Rattle.detections.specs.declared.pairs.Ruling.{Ruling}
use Rattle.detections.specs.declared.pairs.Ruling.TheVariants.{Allowed, Forbidden}
use Rattle.detections.specs.Far.{MayPair, Far}
use Rattle.detections.proofs.Verdicts.{forbidden_pair, refused_pair}
use Rattle.types.specs.declared.track.Track3D.{Track3D}
use Rattle.types.specs.declared.batch.ObservationBatch3D.{ObservationBatch3D}
use Rattle.types.specs.declared.batch.ObservationAssociation.{ObservationAssociation}
use Rattle.types.specs.declared.tracker.Cartesian3DTracker.{Cartesian3DTracker}
use Rattle.types.specs.Refusals.{reply_of}
use Rattle.types.specs.Batches.{batch_of}
use Rattle.types.specs.States.{State, state_of}
use Rattle.calls.specs.Pairing.{pair_config, target_for, verdict}
use Rattle.calls.specs.Process.{Done, process_reply}
use Rattle.calls.specs.Run.{Call, predict_to, process_batch, set_class_prior, state_given, state_reply, run}
use Rattle.calls.specs.Numbers.{track_of}
use Rattle.calls.specs.Answers.{verdict_on, tracker_after, report_after, BatchAnswers, done_of, Step, Steps}
use Rattle.guarantee.specs.Claim.{Last, FarAt, DifferByFar, birth_of, UndisturbedFrom, Guaranteed}
use Rattle.guarantee.proofs.Whole.{demand3_whole}
use Rattle.recorded.specs.Edges.{state_in, told, standing}
use Rattle.recorded.specs.Instance.{after_call, after_calls, verdicts_on, forbids, all_forbid, far_among, is_far, calls, outcomes, start, before, reply_to, now, near, away, far_first, far_last, far_none, near_struck, mark_of, number_twice, one, nothing, Facts}
use Rattle.recorded.proofs.Opened.{opened}

facts : Facts
unfolding opened
facts =
    record {
      answered = refl;
      far = refl;
      told_first = refl;
      told_last = refl;
      marked = refl;
      unmarked = refl;
      far_one = refl;
      kept_one = refl;
      accepted_nothing = refl;
      dropped_nothing = refl;
    }

-- ---- calls that are answered so keep their contracts

step_after : (t : Cartesian3DTracker) (call : Call) (o : Result (Unit {0}) Refusal) → reply_of o ≡ verdict_on (state_reply t.config (state_of t) call) → Step t call (after_call t call)
unfolding Step state_reply
step_after t (predict_to now) o e = (o, record { is = e; whole = refl })
step_after t (process_batch b) o e = (o, report_after (process_reply t.config (state_of t) b), record { tracker = record { is = e; whole = refl }; reported = refl })
step_after t (set_class_prior n label confidence) o e = (o, record { is = e; whole = refl })

steps_after : (t : Cartesian3DTracker) (calls : List Call) (os : List (Result (Unit {0}) Refusal)) → map reply_of os ≡ verdicts_on t calls → Steps t calls (after_calls t calls)
unfolding Steps after_calls verdicts_on
steps_after t [] os e = refl
steps_after t (call ∷ calls) [] e = absurd (let z : ◌≡◌ {A = ℕ} 0 1 = cc in omega arith)
steps_after t (call ∷ calls) (o ∷ os) e = (after_call t call, step_after t call o cc, steps_after (after_call t call) calls os cc)

told_given : (r : Reply Done) (x : ObservationAssociation) (l : List ObservationAssociation) → told r ≡ x ∷ l → verdict_on r ≡ given tt
told_given (refused n) x l e = absurd (let z : ◌≡◌ {A = ℕ} 0 1 = cc in omega arith)
told_given (given d) x l e = refl

-- a fresh tracker has no track
track_given : (r : Reply Done) (n : ℕ) (mark : Bool) → mark_of (track_of n (state_in r).tracks) ≡ Some mark → verdict_on r ≡ given tt
unfolding first_of
track_given (refused k) n mark e = absurd (let z : ◌≡◌ {A = ℕ} 0 1 = cc in omega arith)
track_given (given d) n mark e = refl

carried : (u : Cartesian3DTracker) (b : ObservationBatch3D) → let r = process_reply u.config (state_of u) b in verdict_on r ≡ given tt → BatchAnswers u b (tracker_after u (state_given r)) (Ok tt) (report_after r)
carried u b e = record { tracker = record { is = go (process_reply u.config (state_of u) b) e; whole = refl }; reported = refl }
  where
    go : (r : Reply Done) → verdict_on r ≡ given tt → given tt ≡ verdict_on (state_given r)
    go (refused n) e = sym e
    go (given d) e = refl

-- ---- far, by computing

module _ (c : PairConfig) (d : Detection) where
  forbids_pair : (t : Track3D) (r : Reply Ruling) → verdict c t d ≡ r → forbids r ≡ true → ¬ MayPair c (target_for t) d
  forbids_pair t (refused n) p e = refused_pair c (target_for t) d n p
  forbids_pair t (given (Forbidden rule)) p e = forbidden_pair c (target_for t) d rule p
  forbids_pair t (given (Allowed cost)) p e = absurd (let z : ◌≡◌ {A = ℕ} 0 1 = cc in omega arith)

  both : (a b : Bool) → (a && b) ≡ true → (a ≡ true) × (b ≡ true)
  both true b e = (refl, e)
  both false b e = absurd (let z : ◌≡◌ {A = ℕ} 0 1 = cc in omega arith)

  all_far : (ts : List Track3D) → all_forbid c ts d ≡ true → Far c (map target_for ts) d
  unfolding all_forbid
  all_far [] e u m = absurd (Memᴰ.not-nil m)
  all_far (t ∷ ts) e u m =
      let p = both (forbids (verdict c t d)) (all_forbid c ts d) e in
      go (Memᴰ.cases_cons m) (forbids_pair t (verdict c t d) refl p.0) (all_far ts p.1 u)
    where
      go : (u ≡ target_for t) ⊎ Memᴰ u (map target_for ts) → ¬ MayPair c (target_for t) d → (Memᴰ u (map target_for ts) → ¬ MayPair c u d) → ¬ MayPair c u d
      go (inl q) f g = subst (λ (v : Target). ¬ MayPair c v d) (sym q) f
      go (inr m) f g = g m

is_far_lem : (c : Cartesian3DTrackerConfig) (s : State) (now : ℤ) (d : Detection) → is_far c s now d ≡ true → FarAt c s now d
is_far_lem c s now d e ts p = all_far (pair_config c) d ts (subst (λ (r : Reply (List Track3D)). far_among (pair_config c) r d ≡ true) p e)

-- ---- the premises of the guarantee hold, and so does what it says

reached : Steps start calls before
reached = steps_after start calls outcomes facts.answered

far_away : FarAt start.config (state_of before) now away
far_away = is_far_lem start.config (state_of before) now away facts.far

-- a far one first in one batch, and last in the other
pub first_and_last : DifferByFar start.config (state_of before) far_first far_last
unfolding batch_of left_by Struck
first_and_last =
    record {
      sensor = refl;
      sequence = refl;
      time = refl;
      frame = refl;
      in_a = false ∷ true ∷ true ∷ [];
      in_b = true ∷ true ∷ false ∷ [];
      far_a = (far_away, tt);
      far_b = (far_away, tt);
      common = refl;
    }

-- a far one last in one batch, and none in the other
pub last_and_none : DifferByFar start.config (state_of before) far_last far_none
unfolding batch_of left_by Struck
last_and_none =
    record {
      sensor = refl;
      sequence = refl;
      time = refl;
      frame = refl;
      in_a = true ∷ true ∷ false ∷ [];
      in_b = true ∷ true ∷ [];
      far_a = (far_away, tt);
      far_b = tt;
      common = refl;
    }

abbrev pub done_on : ObservationBatch3D → Done
done_on b = done_of (tracker_after before (state_given (reply_to b))) (report_after (reply_to b))

guaranteed : (a b : ObservationBatch3D) (d : DifferByFar start.config (state_of before) a b) → verdict_on (reply_to a) ≡ given tt → verdict_on (reply_to b) ≡ given tt
    → Guaranteed start.config (state_of start) calls (state_of before) a b d (done_on a) (done_on b)
guaranteed a b d x y =
    demand3_whole default_settings (Ok _) start (record { is = sym default_accepted; whole = refl })
    calls before _ _ a b _ _ reached (carried before a x) (carried before b y) d

pub guaranteed_first_and_last : Guaranteed start.config (state_of start) calls (state_of before) far_first far_last first_and_last (done_on far_first) (done_on far_last)
guaranteed_first_and_last = guaranteed far_first far_last first_and_last (told_given (reply_to far_first) _ _ facts.told_first) (told_given (reply_to far_last) _ _ facts.told_last)

-- here those that aren't common stand last in each
pub guaranteed_last_and_none : Guaranteed start.config (state_of start) calls (state_of before) far_last far_none last_and_none (done_on far_last) (done_on far_none)
guaranteed_last_and_none = guaranteed far_last far_none last_and_none (told_given (reply_to far_last) _ _ facts.told_last) (track_given (reply_to far_none) 1 true facts.marked)

pub last_in_each : Last last_and_none.in_a × Last last_and_none.in_b
unfolding last_and_none Last Every
last_in_each = (tt, tt)

-- ---- each condition is needed

-- far: with a near detection struck in place of a far one, the track that it updates ends otherwise
pub near_matters : ¬ (track_of 1 (state_in (reply_to far_none)).tracks ≡ track_of 1 (state_in (reply_to near_struck)).tracks)
near_matters e =
    let same : Some true ≡ Some false = sym facts.marked ∙ ap mark_of e ∙ facts.unmarked in
    let z : ◌≡◌ {A = ℕ} 0 1 = cc in omega arith

-- last: a far one before a common one takes the number of the track that this one begins
pub order_matters : ¬ (map birth_of (left_by first_and_last.in_a (told (reply_to far_first))) ≡ map birth_of (left_by first_and_last.in_b (told (reply_to far_last))))
unfolding first_and_last birth_of left_by
order_matters e =
    let same : ◌≡◌ {A = List (Option ℕ)} (None ∷ Some 3 ∷ []) (None ∷ Some 2 ∷ []) = rw (facts.told_first, facts.told_last) at e in
    let z : ◌≡◌ {A = ℕ} 3 2 = cc in omega arith

-- ---- numbers that ascend are needed: where an expired track has the next number, a far detection's new track is taken for it

one_and_nothing : DifferByFar default_settings number_twice one nothing
unfolding batch_of left_by Struck
one_and_nothing =
    record {
      sensor = refl;
      sequence = refl;
      time = refl;
      frame = refl;
      in_a = false ∷ [];
      in_b = [];
      far_a = (is_far_lem default_settings number_twice (pos 9000000000) near facts.far_one, tt);
      far_b = tt;
      common = refl;
    }

given_what : (r : Reply Done) → verdict_on r ≡ given tt → (d : Done) × (r ≡ given d)
given_what (refused n) e = never_given n tt e
given_what (given d) e = (d, refl)

pub numbers_matter : ¬ UndisturbedFrom default_settings number_twice
unfolding run
numbers_matter claim =
    let p = given_what (process_reply default_settings number_twice one) (track_given (process_reply default_settings number_twice one) 5 true facts.kept_one) in
    let q = given_what (process_reply default_settings number_twice nothing) facts.accepted_nothing in
    let e = (claim [] one nothing p.0 q.0 one_and_nothing p.1 q.1).standing (standing Tentative (pos 200) 0 5) (Memᴰ.head refl) in
    let kept : mark_of (track_of 5 p.0.state.tracks) ≡ Some true = subst (λ (r : Reply Done). mark_of (track_of 5 (state_in r).tracks) ≡ Some true) p.1 facts.kept_one in
    let dropped : mark_of (track_of 5 q.0.state.tracks) ≡ None = subst (λ (r : Reply Done). mark_of (track_of 5 (state_in r).tracks) ≡ None) q.1 facts.dropped_nothing in
    let same : Some true ≡ None = sym kept ∙ ap mark_of e ∙ dropped in
    let z : ◌≡◌ {A = ℕ} 0 1 = cc in omega arith
