-- What a loop over the rows of a table has laid by row i. Assumes nothing.
use Rattle.std.specs.Prelude.{Err, Ok, Result}
use mathlib.Core.Path.{◌≡◌, refl, sym, ap, ◌∙◌, subst}
use mathlib.Core.List.{List, [], ◌∷◌, ◌++◌, append_assoc, append-nil}
use Prim.Native.Nat.{ℕ, suc, ◌+◌, ◌*◌, ◌≤◌, ◌<◌}
use native.Mathlib.Nat.{suc-mul, zero-mul}
use native.Mathlib.Omega.{arith}
use lib.Ieee.{Float}
use lib.ListN.{length, take, drop, get_or, set, length-append, take-append-drop}
use lib.Seq.{sets, sets-eq, length-sets, drop-cons, length-take-le, take_all, take_at, drop_at}
use Rattle.number.specs.Reply.{Reply, refused, given, and_then}
use Rattle.kuhn_munkres.specs.Assignment.{rows_of, in_one}
use Rattle.lists.specs.Each.{each}
use Rattle.lists.proofs.Each.{each_at_all, each_cons, each_nil, each_long, each_more, each_stops}
use Rattle.number.proofs.Replies.{never_given}
use Rattle.detections.specs.declared.Detection.{Detection}
use Rattle.detections.specs.declared.pairs.PairConfig.{PairConfig}
use Rattle.types.specs.declared.refusal.Refusal.{Refusal}
use Rattle.types.specs.Refusals.{number_of, reply_of}
use Rattle.pairing.specs.declared.Row.{Row}
use Rattle.pairing.specs.Rows.{price_reply, row_costs}
use Rattle.pairing.specs.Laid.{front, Laid}
use Rattle.pairing.proofs.Laying.{front_all}
use Rattle.pairing.proofs.Ties.{laid_given, laid_refused}
use Rattle.cost_table.specs.Table.{front_rows, Tabled}

-- one run of stores behind another
sets_append : {B : Type 0} (l r m : List B) (k : ℕ) → sets m k (l ++ r) ≡ sets (sets m k l) (k + length l) r
sets_append [] r m k = let e : k + 0 ≡ k = omega arith in rw e
sets_append (x ∷ l) r m k = let e : k + suc (length l) ≡ suc k + length l = omega arith in rw e (sets_append l r (set m k x) (suc k))

in_one_snoc : {C : Type 0} (rows : List (List C)) (r : List C) → in_one (rows ++ (r ∷ [])) ≡ in_one rows ++ r
unfolding in_one
in_one_snoc [] r = append-nil r
in_one_snoc {C} (x ∷ rows) r = ap (λ (l : List C). x ++ l) (in_one_snoc rows r) ∙ sym (append_assoc x (in_one rows) r)

module _ {A B C : Type 0} (f : A → B → Reply C) (ds : List B) where
  abbrev row : A → Reply (List C)
  row t = each (f t) ds

  -- each row has a place for each column
  pub table_size : (ts : List A) (rows : List (List C)) → each row ts ≡ given rows → length (in_one rows) ≡ length ts * length ds
  unfolding in_one
  table_size [] rows e = rw (each_nil row rows e, in_one, zero-mul (length ds))
  table_size (t ∷ ts) rows e =
      let p = each_cons row t ts rows e in
      rw (p.whole, in_one, length-append p.head (in_one p.tail))
      (omega (arith, each_long (f t) ds p.head p.first, table_size ts p.tail p.rest, suc-mul (length ts) (length ds)))

  -- and is cut out of the array again
  pub table_rows : (ts : List A) (rows : List (List C)) → each row ts ≡ given rows → rows_of (length ts) (length ds) (in_one rows) ≡ rows
  unfolding in_one rows_of
  table_rows [] rows e = sym (each_nil row rows e)
  table_rows (t ∷ ts) rows e =
      let p = each_cons row t ts rows e in
      let long = each_long (f t) ds p.head p.first in
      rw (p.whole, in_one, take_at p.head (in_one p.tail) (length ds) long, drop_at p.head (in_one p.tail) (length ds) long)
      (ap {B = List (List C)} (λ r. p.head ∷ r) (table_rows ts p.tail p.rest))

  -- nothing is refused
  front_rows_lem : (ts : List A) (rows : List (List C)) → each row ts ≡ given rows → front_rows f ts ds ≡ in_one rows
  unfolding front_rows in_one
  front_rows_lem [] rows e = rw (each_nil row rows e, in_one)
  front_rows_lem (t ∷ ts) rows e =
      let p = each_cons row t ts rows e in
      rw (p.whole, in_one, p.first, front_all (f t) ds p.head p.first, front_rows_lem ts p.tail p.rest)

  -- the first refusal ends it
  front_rows_stop : (ts : List A) (x : A) (r : List A) (rows : List (List C)) (n : ℕ) → each row ts ≡ given rows → row x ≡ refused n → front_rows f (ts ++ (x ∷ r)) ds ≡ in_one rows ++ front (f x) ds
  unfolding front_rows in_one
  front_rows_stop [] x r rows n e g = rw (each_nil row rows e, in_one, g)
  front_rows_stop (t ∷ ts) x r rows n e g =
      let p = each_cons row t ts rows e in
      rw (p.whole, in_one, p.first, front_all (f t) ds p.head p.first, front_rows_stop ts x r p.tail n p.rest g, append_assoc p.head (in_one p.tail) (front (f x) ds))

-- the rows of l's first i elements were laid from the array's start on
pub record Tabling {A B C : Type 0} (f : A → B → Reply C) (l : List A) (ds : List B) (i : ℕ) (before after : List C) : Type 0 where
  pub done : List (List C)
  pub read : i ≤ length l
  pub gives : each (row f ds) (take i l) ≡ given done
  pub slots : after ≡ sets before 0 (in_one done)

module _ {A B C : Type 0} (f : A → B → Reply C) (l : List A) (ds : List B) (before : List C) where
  pub tabling_none : Tabling f l ds 0 before before
  tabling_none = record { done = []; read = omega arith; gives = unfold each in refl; slots = unfold in_one in refl }

  size : (i : ℕ) (after : List C) (s : Tabling f l ds i before after) → length (in_one s.done) ≡ i * length ds
  size i after s = table_size f ds (take i l) s.done s.gives ∙ ap (λ (k : ℕ). k * length ds) (length-take-le i l s.read)

  behind : (i k : ℕ) (mid : List C) (more : List C) (s : Tabling f l ds i before mid) → k ≡ i * length ds → sets mid k more ≡ sets before 0 (in_one s.done ++ more)
  behind i k mid more s w =
      ap (λ (r : List C). sets r k more) s.slots
      ∙ ap (λ (j : ℕ). sets (sets before 0 (in_one s.done)) j more) (w ∙ (let q = size i mid s in omega arith))
      ∙ sym (sets_append (in_one s.done) more before 0)

  pub tabling_more : (i k : ℕ) (mid after : List C) (a : A) → Tabling f l ds i before mid → i < length l → k ≡ i * length ds → Laid (f (get_or l i a)) ds k (given tt) mid after → Tabling f l ds (i + 1) before after
  tabling_more i k mid after a s h w p =
      let g = laid_given (f (get_or l i a)) ds k mid after p in
      record {
        done = s.done ++ (g.0 ∷ []);
        read = omega arith;
        gives = sym (each_at_all (row f ds) 0 (take (i + 1) l)) ∙ each_more (λ j x. row f ds x) l i a s.done g.0 h (each_at_all (row f ds) 0 (take i l) ∙ s.gives) g.1;
        slots = g.2 ∙ behind i k mid g.0 s w ∙ ap (sets before 0) (sym (in_one_snoc s.done g.0));
      }

  -- the reply and the array, where a row is refused
  pub tabling_stops : (i k : ℕ) (mid after : List C) (a : A) (r : ℕ) → Tabling f l ds i before mid → i < length l → k ≡ i * length ds → Laid (f (get_or l i a)) ds k (refused r) mid after
      → (each (row f ds) l ≡ refused r) × (after ≡ sets before 0 (front_rows f l ds))
  tabling_stops i k mid after a r s h e p =
      let stop = laid_refused (f (get_or l i a)) ds k r mid after p in
      let whole : take (length l) l ≡ l = take_all (length l) l (omega arith) in
      let split : l ≡ take i l ++ (get_or l i a ∷ drop (suc i) l) = sym (take-append-drop i l) ∙ rw (drop-cons l i a h) in (
        ap (each (row f ds)) (sym whole)
            ∙ sym (each_at_all (row f ds) 0 (take (length l) l))
            ∙ each_stops (λ j x. row f ds x) l (length l) i a s.done r h (omega arith) (each_at_all (row f ds) 0 (take i l) ∙ s.gives) stop,
        p.content ∙ behind i k mid (front (f (get_or l i a)) ds) s e
            ∙ ap (sets before 0) (sym (ap (λ (q : List A). front_rows f q ds) split ∙ front_rows_stop f ds (take i l) (get_or l i a) (drop (suc i) l) s.done r s.gives stop)),
      )

-- ---- the cost table

abbrev row_price : PairConfig → Row → Detection → Reply Float
row_price c r d = price_reply c r.target d

pub table_long : (c : PairConfig) (rows : List Row) (ds : List Detection) (r : Reply (Unit {0})) (before after : List Float) → Tabled c rows ds r before after → length after ≡ length before
table_long c rows ds r before after t = ap length t.content ∙ length-sets before 0 (front_rows (row_price c) rows ds)

module _ (c : PairConfig) (all : List Row) (ds : List Detection) (before : List Float) where
  -- the rows of the first i
  abbrev pub Rows : ℕ → List Float → Type 0
  Rows i after = Tabling (row_price c) all ds i before after

  module _ (i k : ℕ) (mid after : List Float) (a : Row) (s : Rows i mid) (w : k ≡ i * length ds) where
    pub table_more : (o : Result (Unit {0}) Refusal) → i < length all → o ≡ Ok tt → Laid (price_reply c (get_or all i a).target) ds k (reply_of o) mid after → Rows (i + 1) after
    table_more o h q p = tabling_more (row_price c) all ds before i k mid after a s h w (subst (λ (z : Result (Unit {0}) Refusal). Laid (row_price c (get_or all i a)) ds k (reply_of z) mid after) q p)

    pub table_stops : (o : Result (Unit {0}) Refusal) (why : Refusal) → i < length all → o ≡ Err why → Laid (price_reply c (get_or all i a).target) ds k (reply_of o) mid after → Tabled c all ds (refused (number_of why)) before after
    unfolding row_costs
    table_stops o why h q p =
        let z = tabling_stops (row_price c) all ds before i k mid after a (number_of why) s h w (subst (λ (z : Result (Unit {0}) Refusal). Laid (row_price c (get_or all i a)) ds k (reply_of z) mid after) q p) in
        record { is = sym (ap (λ (x : Reply (List (List Float))). and_then x (λ rows. given tt)) z.0); content = z.1 }

  pub table_all : (i : ℕ) (after : List Float) → i ≡ length all → Rows i after → Tabled c all ds (given tt) before after
  unfolding row_costs
  table_all i after e s =
      let gives : each (row (row_price c) ds) all ≡ given s.done = ap (each (row (row_price c) ds)) (sym (take_all i all (omega arith))) ∙ s.gives in
      record {
        is = sym (ap (λ (x : Reply (List (List Float))). and_then x (λ rows. given tt)) gives);
        content = s.slots ∙ ap (sets before 0) (sym (front_rows_lem (row_price c) ds all s.done gives));
      }

  -- where no pair is refused the array begins with the table
  pub table_given : (rows : List Row) (after : List Float) → length rows * length ds ≤ length before → Tabled c rows ds (given tt) before after
      → (costs : List (List Float)) × (row_costs c rows ds ≡ given costs) × (take (length rows * length ds) after ≡ in_one costs)
  unfolding row_costs
  table_given rows after h t = go (row_costs c rows ds) refl
    where
      go : (r : Reply (List (List Float))) → row_costs c rows ds ≡ r → (costs : List (List Float)) × (row_costs c rows ds ≡ given costs) × (take (length rows * length ds) after ≡ in_one costs)
      go (refused n) e = never_given n tt (sym (t.is ∙ ap (λ (x : Reply (List (List Float))). and_then x (λ costs. given tt)) e))
      go (given costs) e =
          let long = table_size (row_price c) ds rows costs e in
          let at : after ≡ take 0 before ++ in_one costs ++ drop (0 + length (in_one costs)) before =
          t.content ∙ ap (sets before 0) (front_rows_lem (row_price c) ds rows costs e) ∙ sets-eq (in_one costs) before 0 (omega arith) in
          (costs, e, ap (take (length rows * length ds)) at ∙ take_at (in_one costs) (drop (0 + length (in_one costs)) before) (length rows * length ds) long)
