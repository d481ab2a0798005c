-- What a call of the tracker answers and leaves, laid over the record that a C program holds. Assumes nothing.
use Rattle.std.specs.Prelude.{Err, Ok, Result}
use mathlib.Core.Path.{◌≡◌, refl, sym, ap, subst, ◌∙◌}
use Prim.Native.Nat.{ℕ, ◌<◌}
use native.Mathlib.Omega.{arith}
use Rattle.number.specs.Reply.{Reply, refused, given, and_then, code_of}
use Rattle.number.proofs.Replies.{never_given, given_same, bound}
use Rattle.types.specs.declared.refusal.Refusal.{Refusal}
use Rattle.types.specs.declared.tracker.Cartesian3DTracker.{Cartesian3DTracker}
use Rattle.types.specs.Refusals.{number_of, reply_of}
use Rattle.types.specs.States.{State}
use Rattle.types.specs.Batches.{blank_report, whole_report}
use Rattle.calls.specs.Process.{Done}
use Rattle.calls.specs.Answers.{Answers, verdict_on}
use Rattle.records.specs.declared.tracker.PkTracker.{PkTracker}
use Rattle.records.specs.Trackers.{tracker_of, pk_over, pk_after}
use Rattle.records.proofs.Overs.{laid_over_lem}
use Rattle.batch_records.specs.Batches.{report_to}
use Rattle.owner.specs.Owner.{after_call}
use Rattle.owner.specs.declared.batch.Ran.{Ran}
use Rattle.owner.specs.Processes.{after_batch}
use Rattle.owner.proofs.Predicting.{number_above}
use Rattle.c_tracker.specs.Calls.{Heeded, settled, answer_of, processed_by}

verdict_code : {A : Type 0} (reply : Reply A) → code_of (verdict_on reply) ≡ code_of reply
verdict_code (refused n) = refl
verdict_code (given v) = refl

-- a refusal that is named has its number, which is above 0
named : {A : Type 0} (r : Reply A) (why : Refusal) → r ≡ refused (number_of why) → Heeded r
named r why e n w = let f : refused (number_of why) ≡ refused n = sym e ∙ w in let same : number_of why ≡ n = cc in subst (λ (k : ℕ). 0 < k) same (number_above why)

carried : {A : Type 0} (r : Reply A) (v : A) → r ≡ given v → Heeded r
carried r v e n w = never_given n v (sym w ∙ e)

-- a refusal that stands after a step was there before it
refused_first : {A B : Type 0} (r : Reply A) (f : A → B) (n : ℕ) → refused n ≡ and_then r (λ x. given (f x)) → r ≡ refused n
refused_first (refused m) f n e = sym (let same : n ≡ m = cc in ap refused same)
refused_first (given x) f n e = never_given n (f x) e

-- ---- a call that was worked out in the record itself

module _ (t : PkTracker) (reply : Reply State) where
  pub call_carried : (u : PkTracker) → given u ≡ after_call t reply → (record { tracker = u; code = 0 } ≡ answer_of t reply) × Heeded reply
  unfolding pk_after
  call_carried u e =
      let b = bound reply (λ s. given (pk_over t s)) u (sym e) in
      (ap (λ (x : PkTracker). record { tracker = x; code = 0 }) (sym (given_same _ u b.2)) ∙ ap (answer_of t) (sym b.1), carried reply b.0 b.1)

  pub call_refused : (why : Refusal) → refused (number_of why) ≡ after_call t reply → (record { tracker = t; code = number_of why } ≡ answer_of t reply) × Heeded reply
  unfolding pk_after
  call_refused why e = let w = refused_first reply (pk_over t) (number_of why) e in (ap (answer_of t) (sym w), named reply why w)

-- ---- a batch that was worked out in the record itself

module _ (t : PkTracker) (reply : Reply Done) where
  pub batch_carried : (r : Ran) → given r ≡ after_batch t reply → (record { tracker = r.tracker; report = report_to 0 r.report } ≡ processed_by t reply) × Heeded reply
  unfolding pk_after
  batch_carried r e =
      let b = bound reply (λ d. given (record { tracker = pk_over t d.state; report = whole_report d.report })) r (sym e) in
      (ap (λ (x : Ran). record { tracker = x.tracker; report = report_to 0 x.report }) (sym (given_same _ r b.2)) ∙ ap (processed_by t) (sym b.1), carried reply b.0 b.1)

  pub batch_refused : (why : Refusal) → refused (number_of why) ≡ after_batch t reply → (record { tracker = t; report = report_to (number_of why) blank_report } ≡ processed_by t reply) × Heeded reply
  unfolding pk_after
  batch_refused why e = let w = refused_first reply (λ d. record { tracker = pk_over t d.state; report = whole_report d.report }) (number_of why) e in (ap (processed_by t) (sym w), named reply why w)

-- ---- a call of the tracker

module _ (t : PkTracker) (u : Cartesian3DTracker) where
  -- a refusal that an outcome names has its number
  pub heeded : (o : Result (Unit {0}) Refusal) (reply : Reply State) → Answers (tracker_of t) u o reply → Heeded reply
  heeded (Ok _) reply h n e = absurd (let f = h.is ∙ ap verdict_on e in let z : ◌≡◌ {A = ℕ} 0 1 = cc in omega arith)
  heeded (Err why) reply h n e = let f : refused (number_of why) ≡ refused n = h.is ∙ ap verdict_on e in let same : number_of why ≡ n = cc in subst (λ (k : ℕ). 0 < k) same (number_above why)

  -- the number that is answered
  code_is : (o : Result (Unit {0}) Refusal) (reply : Reply State) → Answers (tracker_of t) u o reply → code_of (reply_of o) ≡ code_of reply
  code_is o reply h = ap (code_of {A = Unit {0}}) h.is ∙ verdict_code reply

  -- the record that is left
  settled_is : (o : Result (Unit {0}) Refusal) (reply : Reply State) → Answers (tracker_of t) u o reply → settled t o u ≡ pk_after t reply
  unfolding pk_after
  settled_is (Ok _) (refused n) h = absurd (let e = h.is in let z : ◌≡◌ {A = ℕ} 0 1 = cc in omega arith)
  settled_is (Ok _) (given s) h = laid_over_lem t s u h.whole
  settled_is (Err why) (refused n) h = refl
  settled_is (Err why) (given s) h = absurd (let e = h.is in let z : ◌≡◌ {A = ℕ} 0 1 = cc in omega arith)

  -- both
  pub answer_is : (o : Result (Unit {0}) Refusal) (reply : Reply State) → Answers (tracker_of t) u o reply → record { tracker = settled t o u; code = code_of (reply_of o) } ≡ answer_of t reply
  answer_is o reply h = λ i. record { tracker = settled_is o reply h i; code = code_is o reply h i }
