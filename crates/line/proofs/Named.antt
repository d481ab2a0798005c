-- Which numbers are written: rows and columns below 64, and refusals below 100, so each as its decimal (text's proofs/Digits, `digits-read`).
use Rattle.std.specs.Prelude.{None, Option, Some}
use mathlib.Core.Path.{◌≡◌, refl, sym}
use mathlib.Core.Bool.{Bool, true, false, cond, ◌&&◌}
use mathlib.Core.List.{List, [], ◌∷◌, map}
use Prim.Native.Nat.{ℕ, zero, ◌+◌, ◌*◌, ◌<◌, ◌≤◌}
use native.Mathlib.Omega.{arith}
use native.Mathlib.Decide.{dec_lt}
use borrow.Author.Tests.{eq-eqb, le-ltb, leb-true}
use lib.Dec.{eqb, ltb, leb}
use lib.ListN.{length}
use lib.Ieee.Scale.{finite}
use lib.Ieee.{Float, binary64, of_bits}
use Rattle.number.specs.Reply.{Reply, refused, given, and_then, refuse_unless}
use Rattle.number.proofs.Replies.{never_given}
use Rattle.lists.specs.First.{any}
use Rattle.lists.specs.Masks.{left_by, up_from}
use Rattle.kuhn_munkres.specs.Groups.{Labels, is_label}
use Rattle.kuhn_munkres.specs.Ops.{Ops}
use Rattle.kuhn_munkres.specs.Square.{Square, entry}
use Rattle.kuhn_munkres.specs.Steps.{Search, found, stopped, spent, rows}
use Rattle.kuhn_munkres.specs.Assignment.{Pairs, in_one, rows_of, same, group_in, groups, takers_in, solved, pairing, takers_reply, assignment_reply}
use Rattle.assignment.specs.Listing.{row_of, column_in, times, Once}
use Rattle.assignment.proofs.Answers.{once_all}
use Rattle.request.specs.Request.{Request, request_of, shaped}
use Rattle.line.specs.Line.{formed, decided, reply_to}

abbrev pub Below : ℕ → List ℕ → Type 0
Below n [] = Unit {0}
Below n (x ∷ l) = (x < n) × Below n l

pub record Named (a : Pairs) : Type 0 where
  pub pair_rows : Below 64 (map row_of a.pairs)
  pub pair_columns : Below 64 (map column_in a.pairs)
  pub rows : Below 64 a.rows
  pub columns : Below 64 a.columns

-- ---- an answer: each of its numbers stands once, for a row or a column that there is
once_below : (n : ℕ) (l : List ℕ) → n ≤ 64 → ((x : ℕ) → times x l ≤ cond (ltb x n) 1 0) → Below 64 l
unfolding times
once_below n [] h f = tt
once_below n (y ∷ l) h f = (go (dec_lt y n) (f y), once_below n l h (λ x. omega (arith, f x)))
  where
    go : Dec (y < n) → cond (eqb y y) 1 0 + times y l ≤ cond (ltb y n) 1 0 → y < 64
    go (yes k) e = omega arith
    go (no k) e = let u : 1 + times y l ≤ 0 = rw (eq-eqb y y refl, le-ltb y n (omega arith)) at e in omega arith

once_named : (n m : ℕ) (a : Pairs) → n ≤ 64 → m ≤ 64 → Once n m a → Named a
once_named n m a h g o =
    record {
      pair_rows = once_below n (map row_of a.pairs) h (λ x. omega (arith, o.rows_once x));
      pair_columns = once_below m (map column_in a.pairs) g (λ x. omega (arith, o.columns_once x));
      rows = once_below n a.rows h (λ x. omega (arith, o.rows_once x));
      columns = once_below m a.columns g (λ x. omega (arith, o.columns_once x));
    }

pub answer_named : (l : List ℕ) (a : Pairs) → reply_to l ≡ given a → Named a
unfolding reply_to decided
answer_named l a e = shape (formed l) (request_of l) e
  where
    answered : (q : Request) (r c s : Bool) → leb q.sizes.rows 64 ≡ r → leb q.sizes.columns 64 ≡ c
        → refuse_unless (r && c) 11 (refuse_unless s 10 (assignment_reply (in_one q.table) q.sizes.rows q.sizes.columns q.sizes.cost (of_bits binary64 0))) ≡ given a → Named a
    answered q false c s f g e = never_given 11 a e
    answered q true false s f g e = never_given 11 a e
    answered q true true false f g e = never_given 10 a e
    answered q true true true f g e = once_named q.sizes.rows q.sizes.columns a (leb-true q.sizes.rows 64 f) (leb-true q.sizes.columns 64 g)
        (once_all (in_one q.table) q.sizes.rows q.sizes.columns q.sizes.cost (of_bits binary64 0) a e)

    shape : (b : Bool) (o : Option Request) → refuse_unless b 13 (decided o) ≡ given a → Named a
    shape false o e = never_given 13 a e
    shape true None e = never_given 13 a e
    shape true (Some q) e = answered q (leb q.sizes.rows 64) (leb q.sizes.columns 64) (shaped q) refl refl e

-- ---- a refusal: 13, 11, 10 or 9
small : {A : Type 0} (n k : ℕ) → n < 100 → ◌≡◌ {A = Reply A} (refused n) (refused k) → k < 100
small n k h e = let z : n ≡ k = cc in omega arith

given_small : {A : Type 0} (k : ℕ) (a : A) → given a ≡ refused k → k < 100
given_small k a e = never_given k a (sym e)

then_small : {A B : Type 0} (k : ℕ) (x : Reply A) (f : A → Reply B) → ((n : ℕ) → x ≡ refused n → n < 100) → ((a : A) → x ≡ given a → f a ≡ refused k → k < 100) → and_then x f ≡ refused k → k < 100
then_small k (refused n) f h g e = small n k (h n refl) e
then_small k (given a) f h g e = g a refl e

solved_small : {N : Type 0} (O : Ops N) (q : Square N) (k : ℕ) → solved O q ≡ refused k → k < 100
unfolding solved takers_in
solved_small {N} O q k e = go (rows O (entry O q) (q.rows + q.cols) (q.rows + q.cols)) e
  where
    go : (x : Search N) → takers_in q x ≡ refused k → k < 100
    go (found s) e = given_small k _ e
    go stopped e = small 10 k (omega arith) e
    go spent e = small 10 k (omega arith) e

module _ {F : Type 0} (dense : List (List F) → Reply (List (Option ℕ))) (own : (table : List (List F)) (n : ℕ) → dense table ≡ refused n → n < 100) where
  group_small : (b : Bool) (table : List (List F)) (names : List ℕ) (rm cm : List Bool) (t : List (Option ℕ)) (k : ℕ) → group_in dense b table names rm cm t ≡ refused k → k < 100
  unfolding group_in
  group_small false table names rm cm t k e = given_small k t e
  group_small true table names rm cm t k e = then_small k (dense (map (left_by cm) (left_by rm table))) _ (own _) (λ a q f. given_small k _ f) e

  groups_small : (table : List (List F)) (s : Labels) (gs : List ℕ) (t : List (Option ℕ)) (k : ℕ) → groups dense table s gs t ≡ refused k → k < 100
  unfolding groups
  groups_small table s [] t k e = given_small k t e
  groups_small table s (g ∷ gs) t k e =
      let cm = map (is_label g) s.of_columns in
      then_small k (group_in dense (any same cm) table (up_from zero table) (map (eqb g) s.of_rows) cm t) _ (λ n q. group_small (any same cm) table (up_from zero table) (map (eqb g) s.of_rows) cm t n q) (λ u q f. groups_small table s gs u k f) e

call_small : (costs : List Float) (n m : ℕ) (rowCost columnCost : Float) (k : ℕ) → assignment_reply costs n m rowCost columnCost ≡ refused k → k < 100
unfolding assignment_reply takers_reply pairing
call_small costs n m rowCost columnCost k e = then_small k (takers_reply costs n m rowCost columnCost) _ (λ j. go j (leb n 64 && leb m 64) (finite rowCost && finite columnCost) (eqb (length costs) (n * m))) (λ a q f. given_small k _ f) e
  where
    go : (j : ℕ) (a b c : Bool) → refuse_unless a 11 (refuse_unless b 9 (refuse_unless c 10 (pairing rowCost columnCost (rows_of n m costs) m))) ≡ refused j → j < 100
    go j false b c e = small 11 j (omega arith) e
    go j true false c e = small 9 j (omega arith) e
    go j true true false e = small 10 j (omega arith) e
    go j true true true e = groups_small _ (λ table i q. solved_small _ _ i q) _ _ _ _ j e

pub refusal_small : (l : List ℕ) (k : ℕ) → reply_to l ≡ refused k → k < 100
unfolding reply_to decided
refusal_small l k e = shape (formed l) (request_of l) e
  where
    asked : (q : Request) (a b : Bool) → refuse_unless a 11 (refuse_unless b 10 (assignment_reply (in_one q.table) q.sizes.rows q.sizes.columns q.sizes.cost (of_bits binary64 0))) ≡ refused k → k < 100
    asked q false b e = small 11 k (omega arith) e
    asked q true false e = small 10 k (omega arith) e
    asked q true true e = call_small (in_one q.table) q.sizes.rows q.sizes.columns q.sizes.cost (of_bits binary64 0) k e

    shape : (b : Bool) (o : Option Request) → refuse_unless b 13 (decided o) ≡ refused k → k < 100
    shape false o e = small 13 k (omega arith) e
    shape true None e = small 13 k (omega arith) e
    shape true (Some q) e = asked q (leb q.sizes.rows 64 && leb q.sizes.columns 64) (shaped q) e
