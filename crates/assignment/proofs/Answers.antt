-- The whole reply, from the takers' reply.
use mathlib.Core.Path.{◌≡◌, refl, sym, ap, ap₂, ◌∙◌, subst}
use mathlib.Core.List.{List, [], ◌∷◌, map}
use Prim.Native.Nat.{ℕ, ◌*◌, ◌≤◌, ◌<◌}
use mathlib.Core.Bool.{Bool, true, false}
use native.Mathlib.Decide.{ℕ_discrete, dec_lt}
use native.Mathlib.Omega.{arith}
use lib.ListN.{length, take, length-map}
use lib.Ieee.{Float}
use lib.Ieee.Scale.{finite}
use Rattle.std.specs.Prelude.{Ok, Err, Option}
use Rattle.number.specs.Reply.{Reply, refused, given, and_then}
use Rattle.lists.specs.Masks.{zipped}
use Rattle.kuhn_munkres.specs.Assignment.{Pair, Pairs, rows_of, pairing, pairs_of, takers_reply, assignment_reply}
use Rattle.groups.proofs.Once.{pairing_sound}
use Rattle.least.specs.Least.{LeastOnWholes}
use Rattle.least.proofs.Answer.{assignment_least}
use Rattle.assignment.specs.Listing.{padded, row_of, column_in, pair_of, assignment_of, assignment_for, pairs_in, Once, AssignmentAnswer}
use Rattle.assignment.specs.Replies.{number_of}
use Rattle.assignment.specs.declared.Assignment.{Assignment}
use Rattle.assignment.specs.declared.AssignmentError.{AssignmentError}
use Rattle.assignment.proofs.Calls.{rows_over, columns_over, row_cost_bad, column_cost_bad, size_bad, checked}
use Rattle.assignment.proofs.EachOnce.{each_once}
use Rattle.assignment.proofs.Listings.{front}

zip_pairs : (l : List Pair) → zipped pair_of (map row_of l) (map column_in l) ≡ l
unfolding zipped
zip_pairs [] = refl
zip_pairs (p ∷ l) = ap (λ (t : List Pair). p ∷ t) (zip_pairs l)

-- the struct holds what it was made of
pub holds : (a : Pairs) → pairs_in (assignment_of a) ≡ a
holds a =
    let r : take (length a.pairs) (padded (map row_of a.pairs)) ≡ map row_of a.pairs = ap (λ (k : ℕ). take k (padded (map row_of a.pairs))) (sym (length-map a.pairs row_of)) ∙ front (map row_of a.pairs) in
    let c : take (length a.pairs) (padded (map column_in a.pairs)) ≡ map column_in a.pairs = ap (λ (k : ℕ). take k (padded (map column_in a.pairs))) (sym (length-map a.pairs column_in)) ∙ front (map column_in a.pairs) in
    let p : zipped pair_of (take (length a.pairs) (padded (map row_of a.pairs))) (take (length a.pairs) (padded (map column_in a.pairs))) ≡ a.pairs = ap₂ (λ (x y : List ℕ). zipped pair_of x y) r c ∙ zip_pairs a.pairs in
    λ i. record { pairs = p i; rows = front a.rows i; columns = front a.columns i }

module _ (costs : List Float) (n m : ℕ) (rowCost columnCost : Float) where
  never : {A : Type 0} (k : ℕ) (t : A) (x : Reply A) → refused k ≡ x → given t ≡ x → ⊥
  never k t x p q = let z : ◌≡◌ {A = ℕ} 0 1 = cc in omega arith

  -- a call that is answered has few rows and columns
  pub few : (t : List (Option ℕ)) → given t ≡ takers_reply costs n m rowCost columnCost → (n ≤ 64) × (m ≤ 64)
  few t e = go (dec_lt 64 n) (dec_lt 64 m)
    where
      go : Dec (64 < n) → Dec (64 < m) → (n ≤ 64) × (m ≤ 64)
      go (yes h) d = absurd (never 11 t (takers_reply costs n m rowCost columnCost) (rows_over costs n m rowCost columnCost h) e)
      go (no h) (yes g) = absurd (never 11 t (takers_reply costs n m rowCost columnCost) (columns_over costs n m rowCost columnCost (omega arith) g) e)
      go (no h) (no g) = (omega arith, omega arith)

  -- an answered call passed every check
  record Passed (t : List (Option ℕ)) : Type 0 where
    rows_few : n ≤ 64
    columns_few : m ≤ 64
    size : length costs ≡ n * m
    is : pairing rowCost columnCost (rows_of n m costs) m ≡ given t

  passed : (t : List (Option ℕ)) → given t ≡ takers_reply costs n m rowCost columnCost → Passed t
  passed t e = rows_ok (few t e).0 (few t e).1 (finite rowCost) refl (finite columnCost) refl (ℕ_discrete (length costs) (n * m))
    where
      rows_ok : n ≤ 64 → m ≤ 64 → (c : Bool) → finite rowCost ≡ c → (d : Bool) → finite columnCost ≡ d → Dec (length costs ≡ n * m) → Passed t
      rows_ok hn hm false p d q z = absurd (never 9 t (takers_reply costs n m rowCost columnCost) (row_cost_bad costs n m rowCost columnCost hn hm p) e)
      rows_ok hn hm true p false q z = absurd (never 9 t (takers_reply costs n m rowCost columnCost) (column_cost_bad costs n m rowCost columnCost hn hm p q) e)
      rows_ok hn hm true p true q (no z) = absurd (never 10 t (takers_reply costs n m rowCost columnCost) (size_bad costs n m rowCost columnCost hn hm p q z) e)
      rows_ok hn hm true p true q (yes z) = record { rows_few = hn; columns_few = hm; size = z; is = sym (checked costs n m rowCost columnCost hn hm p q z) ∙ sym e }

  -- as many takers as columns
  pub takers_few : (t : List (Option ℕ)) → given t ≡ takers_reply costs n m rowCost columnCost → length t ≤ 64
  takers_few t e =
      let p = passed t e in
      omega (arith, p.columns_few, (pairing_sound costs n m p.rows_few p.columns_few p.size rowCost columnCost t p.is).long)

  -- each row and column once
  pub once_all : (a : Pairs) → assignment_reply costs n m rowCost columnCost ≡ given a → Once n m a
  unfolding assignment_reply
  once_all a e = go (takers_reply costs n m rowCost columnCost) refl e
    where
      go : (x : Reply (List (Option ℕ))) → takers_reply costs n m rowCost columnCost ≡ x → and_then (takers_reply costs n m rowCost columnCost) (λ t. given (pairs_of n t)) ≡ given a → Once n m a
      go (refused k) q w = let v : refused k ≡ given a = (rw q at w) in absurd (let z : ◌≡◌ {A = ℕ} 0 1 = cc in omega arith)
      go (given t) q w =
          let v : given (pairs_of n t) ≡ given a = (rw q at w) in
          let p = passed t (sym q) in
          let S = pairing_sound costs n m p.rows_few p.columns_few p.size rowCost columnCost t p.is in
          let z : pairs_of n t ≡ a = cc in
          subst (Once n m) z (each_once t n S.low S.inj m S.long)

  -- what the answer holds, from the definition's reply
  pub answer_given : (t : List (Option ℕ)) (a : Assignment) → given t ≡ takers_reply costs n m rowCost columnCost → a ≡ assignment_of (pairs_of n t) → AssignmentAnswer costs n m rowCost columnCost (Ok a)
  unfolding assignment_reply
  answer_given t a e h =
      let w : given (pairs_of n t) ≡ assignment_reply costs n m rowCost columnCost = ap (λ (x : Reply (List (Option ℕ))). and_then x (λ y. given (pairs_of n y))) e in
      let is : given (pairs_in a) ≡ assignment_reply costs n m rowCost columnCost = ap (λ (x : Assignment). given (pairs_in x)) h ∙ ap given (holds (pairs_of n t)) ∙ w in
      record {
        is = is;
        whole = h ∙ ap assignment_for w;
        once = once_all (pairs_in a) (sym is);
        least = subst (LeastOnWholes costs n m rowCost columnCost) (sym is) (assignment_least costs n m rowCost columnCost);
      }

  pub answer_refused : (why : AssignmentError) → refused (number_of why) ≡ takers_reply costs n m rowCost columnCost → AssignmentAnswer costs n m rowCost columnCost (Err why)
  unfolding assignment_reply
  answer_refused why e =
      let is : refused (number_of why) ≡ assignment_reply costs n m rowCost columnCost = ap (λ (x : Reply (List (Option ℕ))). and_then x (λ y. given (pairs_of n y))) e in
      record { is = is; whole = tt; once = tt; least = subst (LeastOnWholes costs n m rowCost columnCost) (sym is) (assignment_least costs n m rowCost columnCost) }
