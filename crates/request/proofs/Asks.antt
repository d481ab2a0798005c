-- The request: what head, table and end make of the line, and where its costs stand.
use Rattle.std.specs.Prelude.{Option}
use mathlib.Core.Path.{◌≡◌, refl, ap, sym, ◌∙◌}
use mathlib.Core.Bool.{Bool, true, false, cond, ◌&&◌}
use mathlib.Core.List.{List, [], ◌∷◌, ◌++◌}
use Prim.Native.Nat.{ℕ, suc, ◌+◌, ◌-◌, ◌≤◌}
use native.Mathlib.Omega.{arith}
use lib.Dec.{eqb}
use lib.IntN.{ℤ, pos, negsuc}
use lib.ListN.{length, take, drop, set}
use lib.Seq.{sets}
use lib.Ieee.{Float}
use Rattle.kuhn_munkres.specs.Assignment.{in_one}
use Rattle.forms.proofs.Shapes.{never, Tail, on, inner}
use Rattle.request.specs.Listed.{after, told}
use Rattle.request.specs.Request.{argument_of, begins, opening, Sizes, costed, columned, rowed, head_of, head_in, head_answer, Request, closing, closed, table_of, tabled, request_of, even, Stored, store_one, Filled, fill_row, rows_answer, TableRead, table_told, row_of}
use Rattle.request.specs.Asking.{over, no_costs, ReadingAnswer}
use Rattle.request.specs.declared.words.Found.{Found}
use Rattle.request.specs.declared.head.Head.{Head}
use Rattle.request.specs.declared.table.Rows.{Rows}
use Rattle.std.proofs.Common.{Some, None}
use Rattle.request.proofs.Lists.{rest_of, Leaves, Got, got, bracketed_leaves}
use Rattle.request.proofs.Heads.{argument_leaves}
use Rattle.request.proofs.Tables.{row_leaves}

-- ---- the head leaves a tail
cost_tail : (r c : ℕ) (l x : List ℕ) (h : Sizes) (o : Option (ℤ × List ℕ)) → ((m : List ℕ) (z : ℤ) → o ≡ Some (z, m) → Tail l m) → costed r c o ≡ Some (h, x) → Tail l x
unfolding costed rest_of
cost_tail r c l x h None f e = never e
cost_tail r c l x h (Some (z, m)) f e = let u : m ≡ x = ap rest_of e in rw u at (f m z refl)

columns_tail : (r : ℕ) (l x : List ℕ) (h : Sizes) (o : Option (ℤ × List ℕ)) → ((m : List ℕ) (z : ℤ) → o ≡ Some (z, m) → Tail l m) → columned r o ≡ Some (h, x) → Tail l x
unfolding columned
columns_tail r l x h None f e = never e
columns_tail r l x h (Some (negsuc c, m)) f e = never e
columns_tail r l x h (Some (pos c, m)) f e = on (f m (pos c) refl) (cost_tail r c m x h (argument_of m) (λ n z q. argument_leaves m n z q) e)

rows_tail : (l x : List ℕ) (h : Sizes) (o : Option (ℤ × List ℕ)) → ((m : List ℕ) (z : ℤ) → o ≡ Some (z, m) → Tail l m) → rowed o ≡ Some (h, x) → Tail l x
unfolding rowed
rows_tail l x h None f e = never e
rows_tail l x h (Some (negsuc c, m)) f e = never e
rows_tail l x h (Some (pos c, m)) f e = on (f m (pos c) refl) (columns_tail c m x h (argument_of m) (λ n z q. argument_leaves m n z q) e)

pub head_leaves : Leaves head_of
unfolding head_of
head_leaves l x h e = go (begins opening l) e
  where
    go : (t : Bool) → cond t (rowed (argument_of (drop 8 l))) None ≡ Some (h, x) → Tail l x
    go true k = inner 8 l (rows_tail (drop 8 l) x h (argument_of (drop 8 l)) (λ n z q. argument_leaves (drop 8 l) n z q) k)
    go false k = never k

abbrev pub sizes : ℕ → ℕ → Float → Sizes
sizes r c k = record { rows = r; columns = c; cost = k }

pub head_got : (s : List ℕ) (f : Found Head) → Some f ≡ head_answer s (head_of s) → Got head_of s 0 (sizes f.value.rows f.value.columns f.value.cost) f.end
head_got s f h = go (head_of s) refl h
  where
    go : (o : Option (Sizes × List ℕ)) → head_of s ≡ o → Some f ≡ head_answer s o → Got head_of s 0 (sizes f.value.rows f.value.columns f.value.cost) f.end
    go None q g = absurd (let z : ◌≡◌ {A = ℕ} 0 1 = cc in omega arith)
    go (Some (x, l)) q g =
        let u : f ≡ record { value = head_in x; end = length s - length l } = cc in
        let v : x ≡ sizes f.value.rows f.value.columns f.value.cost = ap (λ (k : Found Head). sizes k.value.rows k.value.columns k.value.cost) (sym u) in
        got head_of head_leaves s 0 (sizes f.value.rows f.value.columns f.value.cost) l f.end (q ∙ ap (λ (y : Sizes). Some (y, l)) v) (ap (λ (k : Found Head). k.end) u)

pub no_head : (s : List ℕ) → None ≡ head_answer s (head_of s) → head_of s ≡ None
no_head s h = go (head_of s) h
  where
    go : (o : Option (Sizes × List ℕ)) → None ≡ head_answer s o → o ≡ None
    go None g = refl
    go (Some (x, l)) g = absurd (let z : ◌≡◌ {A = ℕ} 0 1 = cc in omega arith)

-- ---- what a walk over the table stores
sets_append : (a b o : List Float) (k : ℕ) → sets (sets o k a) (k + length a) b ≡ sets o k (a ++ b)
sets_append [] b o k = let e : k + 0 ≡ k = omega arith in rw e
sets_append (x ∷ a) b o k = let e : k + suc (length a) ≡ suc k + length a = omega arith in rw e (sets_append a b (set o k x) (suc k))

count_all : (k : ℕ) (a : Stored) (xs : List Float) → (after (store_one k) a xs).count ≡ a.count + length xs
unfolding after
count_all k a [] = omega arith
count_all k a (x ∷ xs) = let e = count_all k (store_one k a x) xs in omega arith

costs_all : (k : ℕ) (a : Stored) (xs : List Float) → (after (store_one k) a xs).costs ≡ sets a.costs (k + a.count) xs
unfolding after
costs_all k a [] = refl
costs_all k a (x ∷ xs) = costs_all k (store_one k a x) xs ∙ ap (λ (n : ℕ). sets (set a.costs (k + a.count) x) n xs) (omega arith)

module _ (w : ℕ) where
  rows_all : (a : Filled) (t : List (List Float)) → (after (fill_row w) a t).rows ≡ a.rows + length t
  unfolding after
  rows_all a [] = omega arith
  rows_all a (r ∷ t) = let e = rows_all (fill_row w a r) t in omega arith

  and_assoc : (a b c : Bool) → (a && b) && c ≡ a && (b && c)
  and_assoc true b c = refl
  and_assoc false b c = refl

  same_all : (a : Filled) (t : List (List Float)) → (after (fill_row w) a t).same ≡ a.same && even w t
  unfolding after even
  same_all a [] = go a.same
    where
      go : (b : Bool) → b ≡ b && true
      go true = refl
      go false = refl
  same_all a (r ∷ t) =
      same_all (fill_row w a r) t
      ∙ ap (λ (n : ℕ). (a.same && eqb n w) && even w t) (count_all a.next (record { count = 0; costs = a.costs }) r ∙ omega arith)
      ∙ and_assoc a.same (eqb (length r) w) (even w t)

  filled_all : (a : Filled) (t : List (List Float)) → (after (fill_row w) a t).costs ≡ sets a.costs a.next (in_one t)
  unfolding after in_one
  filled_all a [] = refl
  filled_all a (r ∷ t) =
      let p : Stored = record { count = 0; costs = a.costs } in
      let c : (after (store_one a.next) p r).count ≡ length r = count_all a.next p r ∙ omega arith in
      let o : (after (store_one a.next) p r).costs ≡ sets a.costs a.next r = costs_all a.next p r ∙ ap (λ (n : ℕ). sets a.costs n r) (omega arith) in
      filled_all (fill_row w a r) t
      ∙ ap (λ (n : ℕ). sets (after (store_one a.next) p r).costs (a.next + n) (in_one t)) c
      ∙ ap (λ (l : List Float). sets l (a.next + length r) (in_one t)) o
      ∙ sets_append r (in_one t) a.costs a.next

-- from the front on, that is the table's costs over what was there
sets_none : (k : ℕ) (l : List Float) → sets [] k l ≡ []
sets_none k [] = refl
sets_none k (x ∷ l) = sets_none (suc k) l

sets_behind : (k : ℕ) (l o : List Float) (y : Float) → sets (y ∷ o) (suc k) l ≡ y ∷ sets o k l
sets_behind k [] o y = refl
sets_behind k (x ∷ l) o y = sets_behind (suc k) l (set o k x) y

sets_over : (l o : List Float) → sets o 0 l ≡ over l o
unfolding over
sets_over [] o = refl
sets_over (x ∷ l) [] = sets_none 1 l
sets_over (x ∷ l) (y ∷ o) = sets_behind 0 l o x ∙ ap (λ (m : List Float). x ∷ m) (sets_over l o)

pub over_front : (l o : List Float) → length l ≤ length o → take (length l) (over l o) ≡ l
unfolding over
over_front [] o h = refl
over_front (x ∷ l) [] h = absurd (omega arith)
over_front (x ∷ l) (y ∷ o) h = ap (λ (m : List Float). x ∷ m) (over_front l o (omega arith))

-- ---- the table's answer
table_leaves : Leaves table_of
unfolding table_of
table_leaves = bracketed_leaves row_of row_leaves

-- a table that was read, by its stated columns w
pub record TableGot (s : List ℕ) (at w : ℕ) (o : List Float) (n : ℕ) (same : Bool) (e : ℕ) (o' : List Float) : Type 0 where
  pub table : List (List Float)
  pub stands : Got table_of s at table e
  pub rows_are : n ≡ length table
  pub same_is : same ≡ even w table
  pub stored : o' ≡ sets o 0 (in_one table)

pub no_table : (s : List ℕ) (at w : ℕ) (o : List Float) → None ≡ rows_answer (table_told w o s (table_of (drop at s))) → table_of (drop at s) ≡ None
unfolding told
no_table s at w o h = go (table_of (drop at s)) h
  where
    go : (x : Option (List (List Float) × List ℕ)) → None ≡ rows_answer (table_told w o s x) → x ≡ None
    go None g = refl
    go (Some (t, l)) g = absurd (let z : ◌≡◌ {A = ℕ} 0 1 = cc in omega arith)

pub table_got : (s : List ℕ) (at w : ℕ) (o : List Float) (f : Found Rows) (o' : List Float) → TableRead (table_told w o s (table_of (drop at s))) (Some f) o' → TableGot s at w o f.value.count f.value.even f.end o'
unfolding told
table_got s at w o f o' x = go (table_of (drop at s)) refl x.is x.holds
  where
    go : (y : Option (List (List Float) × List ℕ)) → table_of (drop at s) ≡ y → Some f ≡ rows_answer (table_told w o s y) → ((a : Filled) (e : ℕ) → table_told w o s y ≡ Some (a, e) → o' ≡ a.costs) → TableGot s at w o f.value.count f.value.even f.end o'
    go None q g h = absurd (let z : ◌≡◌ {A = ℕ} 0 1 = cc in omega arith)
    go (Some (t, l)) q g h =
        let a : Filled = record { rows = 0; same = true; next = 0; costs = o } in
        let b : Filled = after (fill_row w) a t in
        let u : f ≡ record { value = record { count = b.rows; even = b.same }; end = length s - length l } = cc in
        record {
          table = t;
          stands = got table_of table_leaves s at t l f.end q (ap (λ (k : Found Rows). k.end) u);
          rows_are = ap (λ (k : Found Rows). k.value.count) u ∙ rows_all w a t ∙ omega arith;
          same_is = ap (λ (k : Found Rows). k.value.even) u ∙ same_all w a t;
          stored = h b (length s - length l) refl ∙ filled_all w a t;
        }

-- ---- the request
pub asked_refused : (read : Option Request) → read ≡ None → ReadingAnswer read None
asked_refused read q = record { is = rw q; costs_are = tt }

module _ (s : List ℕ) where
  pub ask_no_head : head_of s ≡ None → request_of s ≡ None
  unfolding request_of tabled
  ask_no_head h = rw h

  module _ (r c : ℕ) (k : Float) (at : ℕ) (g : Got head_of s 0 (sizes r c k) at) where
    ask_is : request_of s ≡ closed (sizes r c k) (table_of (drop at s))
    unfolding request_of tabled
    ask_is = rw g.left

    pub ask_no_table : table_of (drop at s) ≡ None → request_of s ≡ None
    unfolding closed
    ask_no_table h = rw (ask_is, h)

    module _ (n : ℕ) (same : Bool) (e : ℕ) (o : List Float) (t : TableGot s at c no_costs n same e o) where
      pub ask_open : closing (drop e s) ≡ false → request_of s ≡ None
      unfolding closed
      ask_open h = rw (ask_is, t.stands.left, h)

      ask_all : closing (drop e s) ≡ true → request_of s ≡ Some (record { sizes = sizes r c k; table = t.table })
      unfolding closed
      ask_all h = rw (ask_is, t.stands.left, h)

      pub asked : closing (drop e s) ≡ true → ReadingAnswer (request_of s) (Some (record { rows = r; columns = c; cost = k; shaped = eqb n r && same; costs = o }))
      asked h =
          record {
            is = rw (ask_all h, t.rows_are, t.same_is);
            costs_are = rw (ask_all h) (t.stored ∙ sets_over (in_one t.table) no_costs);
          }
