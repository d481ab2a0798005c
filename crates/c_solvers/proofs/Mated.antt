-- The whole reply of the call, from the assignment's answer. Assumes nothing.
use mathlib.Core.Path.{◌≡◌, refl, sym, ap, ◌∙◌, subst}
use mathlib.Core.List.{List}
use Prim.Native.Nat.{ℕ, ◌≤◌, ◌<◌}
use native.Mathlib.Omega.{arith}
use borrow.Author.Tests.{lt-leb, le-leb}
use lib.ListN.{length, take}
use lib.Ieee.{Float}
use Rattle.std.specs.Prelude.{Ok, Err, Option}
use Rattle.number.specs.Reply.{Reply, refused, given, and_then}
use Rattle.lists.specs.Lay.{lay}
use Rattle.lists.proofs.Laying.{take_lay}
use Rattle.whole.specs.Integer.{◌≤Z◌}
use Rattle.kuhn_munkres.specs.Assignment.{Pair, Pairs, pairs_of, pairs_from, takers_reply, assignment_reply}
use Rattle.least.specs.Least.{Pairing, total, allowed_in}
use Rattle.least.proofs.Answer.{assignment_least}
use Rattle.assignment.specs.Listing.{assignment_of, assignment_for, pairs_in, AssignmentAnswer}
use Rattle.assignment.specs.Replies.{number_of}
use Rattle.assignment.specs.declared.Assignment.{Assignment}
use Rattle.assignment.specs.declared.AssignmentError.{AssignmentError}
use Rattle.assignment.proofs.Answers.{few, takers_few}
use Rattle.c_solvers.specs.Mates.{mates_of, mates_reply, pairs_told, AssignmentCall, PairsHeld, MatesWritten}
use Rattle.c_solvers.proofs.Walks.{length_mates, few_pairs}
use Rattle.c_solvers.proofs.Told.{told_mates}

cc_pairs : (a b : Pairs) → given a ≡ given b → a.pairs ≡ b.pairs
cc_pairs a b e = let z : a ≡ b = cc in ap (λ (x : Pairs). x.pairs) z

module _ (costs : List Float) (n m : ℕ) (rowCost columnCost : Float) where
  abbrev reply : Reply Pairs
  reply = assignment_reply costs n m rowCost columnCost

  -- pairs that are given are those of some takers, of few rows
  record Answered (a : Pairs) : Type 0 where
    takers : List (Option ℕ)
    is : a ≡ pairs_of n takers
    rows_few : n ≤ 64
    columns_few : length takers ≤ 64

  answered : (a : Pairs) → given a ≡ reply → Answered a
  unfolding assignment_reply
  answered a e = go (takers_reply costs n m rowCost columnCost) refl e
    where
      go : (x : Reply (List (Option ℕ))) → x ≡ takers_reply costs n m rowCost columnCost → given a ≡ and_then x (λ t. given (pairs_of n t)) → Answered a
      go (refused k) q w = absurd (let z : ◌≡◌ {A = ℕ} 0 1 = cc in omega arith)
      go (given t) q w = record { takers = t; is = cc; rows_few = (few costs n m rowCost columnCost t q).0; columns_few = takers_few costs n m rowCost columnCost t q }

  -- the answer's arrays hold the pairs of some takers
  pub record Paired (a : Assignment) : Type 0 where
    pub takers : List (Option ℕ)
    pub is : reply ≡ given (pairs_of n takers)
    pub held : PairsHeld takers n a.pair_rows a.pair_columns a.pair_count
    pub count_few : a.pair_count ≤ 64
    pub columns_few : length takers ≤ 64

  pub paired : (a : Assignment) → AssignmentAnswer costs n m rowCost columnCost (Ok a) → Paired a
  unfolding pairs_of
  paired a w =
      let A = answered (pairs_in a) w.is in
      let e : reply ≡ given (pairs_of n A.takers) = sym w.is ∙ ap given A.is in
      let q : a ≡ assignment_of (pairs_of n A.takers) = w.whole ∙ ap assignment_for e in
      let c : a.pair_count ≡ length (pairs_from A.takers 0 n) = ap (λ (x : Assignment). x.pair_count) q in
      record {
        takers = A.takers;
        is = e;
        held = record { rows_are = ap (λ (x : Assignment). x.pair_rows) q; columns_are = ap (λ (x : Assignment). x.pair_columns) q; count_is = c };
        count_few = omega (arith, c, few_pairs A.takers 0 n, A.rows_few);
        columns_few = A.columns_few;
      }

  module _ (before : List ℕ) where
    enough : n ≤ length before → mates_reply costs n m rowCost columnCost (length before) ≡ reply
    unfolding mates_reply
    enough h = rw (le-leb n (length before) h)

    -- a refusal by its number: on whole costs there is none
    declined : (k : ℕ) → mates_reply costs n m rowCost columnCost (length before) ≡ refused k → AssignmentCall costs n m rowCost columnCost k before before
    declined k e =
        record {
          code = rw e;
          mates = rw e;
          least = λ h cost row column w.
              let T = assignment_least costs n m rowCost columnCost cost row column w in
              let q : refused k ≡ given T.answer = sym e ∙ enough h ∙ T.given_it in
              absurd (let z : ◌≡◌ {A = ℕ} 0 1 = cc in omega arith);
        }

    -- no room
    pub call_short : length before < n → AssignmentCall costs n m rowCost columnCost 11 before before
    call_short h = declined 11 (unfold mates_reply in (rw (lt-leb n (length before) h)))

    pub call_refused : (why : AssignmentError) → n ≤ length before → AssignmentAnswer costs n m rowCost columnCost (Err why) → AssignmentCall costs n m rowCost columnCost (number_of why) before before
    call_refused why h w = declined (number_of why) (enough h ∙ sym w.is)

    -- the mates tell the pairs that are given
    told_pairs : (t : List (Option ℕ)) (after : List ℕ) → length t ≤ 64 → after ≡ lay (mates_of (pairs_from t 0 n) n) before → pairs_told 0 (take n after) ≡ pairs_from t 0 n
    told_pairs t after few e =
        let l = mates_of (pairs_from t 0 n) n in
        ap (λ (x : List ℕ). pairs_told 0 (take n x)) e
        ∙ ap (λ (k : ℕ). pairs_told 0 (take k (lay l before))) (sym (length_mates (pairs_from t 0 n) n))
        ∙ ap (λ (x : List ℕ). pairs_told 0 x) (take_lay l before)
        ∙ told_mates t few n n (omega arith)

    pub call_given : (a : Assignment) (after : List ℕ) → n ≤ length before → Paired a → MatesWritten n a.pair_rows a.pair_columns a.pair_count before after → AssignmentCall costs n m rowCost columnCost 0 before after
    unfolding pairs_of
    call_given found after h p w =
        let e : mates_reply costs n m rowCost columnCost (length before) ≡ given (pairs_of n p.takers) = enough h ∙ p.is in
        let a : after ≡ lay (mates_of (pairs_from p.takers 0 n) n) before = w.is p.takers p.held in
        record {
          code = rw e;
          mates = rw e a;
          least = λ g cost row column v.
              let T = assignment_least costs n m rowCost columnCost cost row column v in
              let q : given T.answer ≡ given (pairs_of n p.takers) = sym T.given_it ∙ p.is in
              let x : T.answer.pairs ≡ pairs_told 0 (take n after) = cc_pairs T.answer (pairs_of n p.takers) q ∙ sym (told_pairs p.takers after p.columns_few a) in
              record {
                answered = refl;
                pairing = subst (Pairing (allowed_in costs m) n m) x T.pairing;
                least = λ other o. subst (λ (l : List Pair). total cost row column n m l ≤Z total cost row column n m other) x (T.least other o);
              };
        }
