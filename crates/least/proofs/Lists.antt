-- Lists of pairs, and the row that takes each column: a list's total is the weight of its columns and the row cost of every row. So takers of the least
-- weight give a list of the least total.
use Rattle.std.specs.Prelude.{None, Option, Some}
use mathlib.Core.Path.{◌≡◌, refl, sym, ap, ◌∙◌, subst}
use mathlib.Core.Bool.{Bool, true, false, cond}
use mathlib.Core.List.{List, [], ◌∷◌, map}
use Prim.Native.Nat.{ℕ, zero, suc, ◌+◌, ◌≤◌, ◌<◌}
use native.Mathlib.Decide.{ℕ_discrete}
use native.Mathlib.Omega.{arith}
use borrow.Author.Tests.{eq-eqb, ne_eqb}
use lib.Dec.{eqb}
use lib.ListN.{get_or, length}
use Rattle.whole.specs.Integer.{Integer, ◌+Z◌, ◌≤Z◌, ◌≈◌, sum, times}
use Rattle.whole.specs.Takers.{weight_of, weight, Takes, LeastTakes}
use Rattle.whole.proofs.OneOne.{sum_same, sum_but}
use Rattle.lists.specs.First.{any}
use Rattle.lists.specs.Masks.{Every}
use Rattle.kuhn_munkres.specs.Assignment.{Pair, column_of, pair_at, pairs_from, pairs_of}
use Rattle.kuhn_munkres.proofs.Labels.{none_some, some_same, some_in}
use Rattle.kuhn_munkres.proofs.Columns.{column_takes, column_is}
use Rattle.least.specs.Least.{Distinct, rows_in, columns_in, Pairing, costs_of, unmatched, total}

-- ---- all of a list, and all of its map
module _ {A B : Type 0} (f : A → B) (P : B → Type 0) where
  of_map : (l : List A) → Every P (map f l) → Every (λ x. P (f x)) l
  unfolding Every
  of_map [] h = tt
  of_map (x ∷ l) h = (h.0, of_map l h.1)

  to_map : (l : List A) → Every (λ x. P (f x)) l → Every P (map f l)
  unfolding Every
  to_map [] h = tt
  to_map (x ∷ l) h = (h.0, to_map l h.1)

-- ---- the row that a list pairs with column j
unfoldable pub taker_in : List Pair → ℕ → Option ℕ
taker_in [] j = None
taker_in (x ∷ l) j = let rest = taker_in l j in cond (eqb x.column j) (Some x.row) rest

module _ (x : Pair) (l : List Pair) (j : ℕ) where
  taker_here : x.column ≡ j → taker_in (x ∷ l) j ≡ Some x.row
  unfolding taker_in
  taker_here e = rw (eq-eqb x.column j e)

  taker_there : (x.column ≡ j → ⊥) → taker_in (x ∷ l) j ≡ taker_in l j
  unfolding taker_in
  taker_there d = rw (ne_eqb x.column j d)

abbrev pair : ℕ → ℕ → Pair
pair i j = record { row = i; column = j }

-- it is in a pair of the list
taker_every : (P : Pair → Type 0) (l : List Pair) (i j : ℕ) → Every P l → taker_in l j ≡ Some i → P (pair i j)
unfolding taker_in Every
taker_every P [] i j h e = none_some e
taker_every P (x ∷ l) i j h e = go (ℕ_discrete x.column j) (taker_every P l i j h.1)
  where
    go : Dec (x.column ≡ j) → (taker_in l j ≡ Some i → P (pair i j)) → P (pair i j)
    go (yes z) ih = let w : x.row ≡ i = some_same (sym (taker_here x l j z) ∙ e) in subst P (λ k. record { row = w k; column = z k }) h.0
    go (no d) ih = ih (sym (taker_there x l j d) ∙ e)

taker_out : (l : List Pair) (j : ℕ) → Every (λ y. j ≡ y → ⊥) (columns_in l) → taker_in l j ≡ None
unfolding taker_in Every
taker_out [] j h = refl
taker_out (x ∷ l) j h = taker_there x l j (λ e. h.0 (sym e)) ∙ taker_out l j h.1

taker_once : (l : List Pair) (j k i : ℕ) → Distinct (rows_in l) → taker_in l j ≡ Some i → taker_in l k ≡ Some i → j ≡ k
unfolding taker_in Distinct
taker_once [] j k i D e d = none_some e
taker_once (x ∷ l) j k i D e d = go (ℕ_discrete x.column j) (ℕ_discrete x.column k) (taker_once l j k i D.1)
  where
    later : (a b : ℕ) → x.column ≡ a → taker_in (x ∷ l) a ≡ Some i → taker_in l b ≡ Some i → ⊥
    later a b z q w = taker_every (λ (y : Pair). x.row ≡ y.row → ⊥) l i b (of_map (λ (y : Pair). y.row) (λ y. x.row ≡ y → ⊥) l D.0) w (some_same (sym (taker_here x l a z) ∙ q))

    go : Dec (x.column ≡ j) → Dec (x.column ≡ k) → (taker_in l j ≡ Some i → taker_in l k ≡ Some i → j ≡ k) → j ≡ k
    go (yes y) (yes z) ih = sym y ∙ z
    go (yes y) (no z) ih = absurd (later j k y e (sym (taker_there x l k z) ∙ d))
    go (no y) (yes z) ih = absurd (later k j z d (sym (taker_there x l j y) ∙ e))
    go (no y) (no z) ih = ih (sym (taker_there x l j y) ∙ e) (sym (taker_there x l k z) ∙ d)

-- ---- how many are left
any_out : (x : ℕ) (l : List ℕ) → Every (λ y. x ≡ y → ⊥) l → any (eqb x) l ≡ false
unfolding Every any
any_out x [] h = refl
any_out x (y ∷ l) h = rw (ne_eqb x y h.0, any_out x l h.1)

left_of_none : (n : ℕ) → unmatched n [] ≡ n
unfolding unmatched any
left_of_none zero = refl
left_of_none (suc n) = ap suc (left_of_none n)

module _ (x : ℕ) (l : List ℕ) where
  left_beyond : (n : ℕ) → n ≤ x → unmatched n (x ∷ l) ≡ unmatched n l
  unfolding unmatched any
  left_beyond zero h = refl
  left_beyond (suc n) h = rw (ne_eqb n x (λ e. omega arith), left_beyond n (omega arith))

  -- one more that is not left
  left_more : (n : ℕ) → x < n → Every (λ y. x ≡ y → ⊥) l → unmatched n l ≡ suc (unmatched n (x ∷ l))
  unfolding unmatched any
  left_more zero h a = absurd (omega arith)
  left_more (suc n) h a = go (ℕ_discrete n x) (λ m. left_more n m a)
    where
      go : Dec (n ≡ x) → (x < n → unmatched n l ≡ suc (unmatched n (x ∷ l))) → unmatched (suc n) l ≡ suc (unmatched (suc n) (x ∷ l))
      go (yes e) ih = unfold unmatched any in rw (eq-eqb n x e, left_beyond n (omega arith), e, any_out x l a)
      go (no d) ih = unfold unmatched any in rw (ne_eqb n x d, ih (omega arith)) (by (any (eqb n) l))
        where
          by : (b : Bool) → cond b (suc (unmatched n (x ∷ l))) (suc (suc (unmatched n (x ∷ l)))) ≡ suc (cond b (unmatched n (x ∷ l)) (suc (unmatched n (x ∷ l))))
          by true = refl
          by false = refl

-- ---- the pairs that are read off takers
module _ (t : List (Option ℕ)) where
  from_every : (P : Pair → Type 0) (k i : ℕ) → ((a j : ℕ) → i ≤ a → a < i + k → column_of a 0 t ≡ Some j → P (pair a j)) → Every P (pairs_from t i k)
  unfolding Every pairs_from
  from_every P zero i h = tt
  from_every P (suc k) i h = go (column_of i 0 t) refl (from_every P k (suc i) (λ a j l m. h a j (omega arith) (omega arith)))
    where
      go : (o : Option ℕ) → column_of i 0 t ≡ o → Every P (pairs_from t (suc i) k) → Every P (pair_at i o (pairs_from t (suc i) k))
      go None e ih = unfold pair_at in ih
      go (Some j) e ih = unfold pair_at Every in (h i j (omega arith) (omega arith) e, ih)

  from_rows_once : (k i : ℕ) → Distinct (rows_in (pairs_from t i k))
  unfolding Distinct pairs_from
  from_rows_once zero i = tt
  from_rows_once (suc k) i = go (column_of i 0 t) (from_rows_once k (suc i))
    where
      go : (o : Option ℕ) → Distinct (rows_in (pairs_from t (suc i) k)) → Distinct (rows_in (pair_at i o (pairs_from t (suc i) k)))
      go None ih = unfold pair_at in ih
      go (Some j) ih = unfold pair_at Distinct in (to_map (λ (x : Pair). x.row) (λ y. i ≡ y → ⊥) (pairs_from t (suc i) k) (from_every (λ (x : Pair). i ≡ x.row → ⊥) k (suc i) (λ a j l m e z. omega arith)), ih)

  from_columns_once : (k i : ℕ) → Distinct (columns_in (pairs_from t i k))
  unfolding Distinct pairs_from
  from_columns_once zero i = tt
  from_columns_once (suc k) i = go (column_of i 0 t) refl (from_columns_once k (suc i))
    where
      other : (j a b : ℕ) → column_of i 0 t ≡ Some j → suc i ≤ a → column_of a 0 t ≡ Some b → j ≡ b → ⊥
      other j a b e l d z = let w : i ≡ a = some_same (sym (column_takes t i j e) ∙ ap (λ (x : ℕ). get_or t x None) z ∙ column_takes t a b d) in omega arith

      go : (o : Option ℕ) → column_of i 0 t ≡ o → Distinct (columns_in (pairs_from t (suc i) k)) → Distinct (columns_in (pair_at i o (pairs_from t (suc i) k)))
      go None e ih = unfold pair_at in ih
      go (Some j) e ih = unfold pair_at Distinct in (to_map (λ (x : Pair). x.column) (λ y. j ≡ y → ⊥) (pairs_from t (suc i) k) (from_every (λ (x : Pair). j ≡ x.column → ⊥) k (suc i) (λ a b l m d. other j a b e l d)), ih)

  -- a row that takes a column is in its pair
  from_found : (k a i j : ℕ) → a ≤ i → i < a + k → column_of i 0 t ≡ Some j → taker_in (pairs_from t a k) j ≡ None → ⊥
  unfolding pairs_from
  from_found zero a i j h l e = absurd (omega arith)
  from_found (suc k) a i j h l e = go (column_of a 0 t) refl (pairs_from t (suc a) k) (λ m. from_found k (suc a) i j m (omega arith) e)
    where
      after : (a ≡ i → ⊥) → suc a ≤ i
      after d = omega arith

      from_i : {o : Option ℕ} → column_of a 0 t ≡ o → a ≡ i → o ≡ Some j
      from_i q z = sym q ∙ ap (λ (x : ℕ). column_of x 0 t) z ∙ e

      go : (o : Option ℕ) → column_of a 0 t ≡ o → (rest : List Pair) → (suc a ≤ i → taker_in rest j ≡ None → ⊥) → taker_in (pair_at a o rest) j ≡ None → ⊥
      go None q rest ih f = ih (after (λ z. none_some (from_i q z))) (unfold pair_at in f)
      go (Some b) q rest ih f = by (ℕ_discrete b j) (unfold pair_at in f)
        where
          by : Dec (b ≡ j) → taker_in (pair a b ∷ rest) j ≡ None → ⊥
          by (yes w) g = none_some (sym g ∙ taker_here (pair a b) rest j w)
          by (no w) g = ih (after (λ z. w (some_same (from_i q z)))) (sym (taker_there (pair a b) rest j w) ∙ g)

module _ (allowed : ℕ → ℕ → Bool) (cost : ℕ → ℕ → Integer) (row column : Integer) (n m : ℕ) where
  pub list_takes : (l : List Pair) → Pairing allowed n m l → Takes allowed n m (taker_in l)
  list_takes l p = record {
    row_in_lem = λ j i h e. taker_every (λ (x : Pair). x.row < n) l i j (of_map (λ (x : Pair). x.row) (λ i. i < n) l p.rows_below) e;
    may = λ j i h e. taker_every (λ (x : Pair). allowed x.row x.column ≡ true) l i j p.all_allowed e;
    once = λ j k i h g e d. taker_once l j k i p.rows_once e d;
  }

  times_more : (d : Integer) (a b : ℕ) → a ≡ suc b → times a d ≈ times b d +Z d
  unfolding times sum
  times_more d a b e = rw e (omega arith)

  total_is : (l : List Pair) → Every (λ i. i < n) (rows_in l) → Every (λ j. j < m) (columns_in l) → Distinct (rows_in l) → Distinct (columns_in l) → total cost row column n m l ≈ weight cost row column (taker_in l) m +Z times n row
  unfolding total costs_of Every Distinct
  total_is [] rb cb ro co = rw (left_of_none n, left_of_none m) (unfold taker_in times in omega arith)
  total_is (x ∷ l) rb cb ro co =
      let ih = total_is l rb.1 cb.1 ro.1 co.1 in
      let w = sum_but (λ j. weight_of cost row column j (taker_in (x ∷ l) j)) (λ j. weight_of cost row column j (taker_in l j)) m x.column cb.0 (λ j h d. rw (taker_there x l j (λ e. d (sym e))) (omega arith)) in
      let v = rw (taker_out l x.column co.0, taker_here x l x.column refl) at w in
      let a = times_more row (unmatched n (rows_in l)) (unmatched n (rows_in (x ∷ l))) (left_more x.row (rows_in l) n rb.0 ro.0) in
      let b = times_more column (unmatched m (columns_in l)) (unmatched m (columns_in (x ∷ l))) (left_more x.column (columns_in l) m cb.0 co.0) in
      omega arith

  pub list_total : (l : List Pair) → Pairing allowed n m l → total cost row column n m l ≈ weight cost row column (taker_in l) m +Z times n row
  list_total l p = total_is l p.rows_below p.columns_below p.rows_once p.columns_once

  module _ (t : List (Option ℕ)) (long : length t ≡ m) (T : Takes allowed n m (λ j. get_or t j None)) where
    in_range : (j i : ℕ) → get_or t j None ≡ Some i → j < m
    in_range j i e = rw long at (some_in t j i e)

    once : (j k i : ℕ) → get_or t j None ≡ Some i → get_or t k None ≡ Some i → j ≡ k
    once j k i e d = T.once j k i (in_range j i e) (in_range k i d) e d

    pub pairs_pairing : Pairing allowed n m (pairs_of n t).pairs
    unfolding pairs_of
    pairs_pairing =
        let l = pairs_from t 0 n in
        record {
          rows_below = to_map (λ (x : Pair). x.row) (λ i. i < n) l (from_every t (λ (x : Pair). x.row < n) n 0 (λ i j a b e. omega arith));
          columns_below = to_map (λ (x : Pair). x.column) (λ j. j < m) l (from_every t (λ (x : Pair). x.column < m) n 0 (λ i j a b e. in_range j i (column_takes t i j e)));
          rows_once = from_rows_once t n 0;
          columns_once = from_columns_once t n 0;
          all_allowed = from_every t (λ (x : Pair). allowed x.row x.column ≡ true) n 0 (λ i j a b e. let q = column_takes t i j e in T.may j i (in_range j i q) q);
        }

    -- the row that the pairs give a column is the one that takes it
    pub pairs_taker : (j : ℕ) → taker_in (pairs_of n t).pairs j ≡ get_or t j None
    unfolding pairs_of
    pairs_taker j = go (taker_in (pairs_from t 0 n) j) (get_or t j None) refl refl
      where
        go : (o q : Option ℕ) → taker_in (pairs_from t 0 n) j ≡ o → get_or t j None ≡ q → taker_in (pairs_from t 0 n) j ≡ get_or t j None
        go (Some i) q e d = e ∙ sym (taker_every (λ (x : Pair). get_or t x.column None ≡ Some x.row) (pairs_from t 0 n) i j (from_every t (λ (x : Pair). get_or t x.column None ≡ Some x.row) n 0 (λ a b k l. column_takes t a b)) e)
        go None None e d = e ∙ sym d
        go None (Some i) e d = absurd (let h = T.row_in_lem j i (in_range j i d) d in from_found t n 0 i j (omega arith) (omega arith) (column_is t once i j d) e)

    pub pairs_weight : weight cost row column (taker_in (pairs_of n t).pairs) m ≈ weight cost row column (λ j. get_or t j None) m
    pairs_weight = sum_same (λ j. weight_of cost row column j (taker_in (pairs_of n t).pairs j)) (λ j. weight_of cost row column j (get_or t j None)) m (λ j l. rw (pairs_taker j) (omega arith))

  -- takers of the least weight give pairs of the least total
  pub least_pairs : (t : List (Option ℕ)) → length t ≡ m → LeastTakes allowed cost row column n m (λ j. get_or t j None)
      → Pairing allowed n m (pairs_of n t).pairs × ((other : List Pair) → Pairing allowed n m other → total cost row column n m (pairs_of n t).pairs ≤Z total cost row column n m other)
  least_pairs t long L = (mine, below)
    where
      mine : Pairing allowed n m (pairs_of n t).pairs
      mine = pairs_pairing t long L.takes

      below : (other : List Pair) → Pairing allowed n m other → total cost row column n m (pairs_of n t).pairs ≤Z total cost row column n m other
      below other p =
          let a = list_total (pairs_of n t).pairs mine in
          let b = pairs_weight t long L.takes in
          let d = L.least (taker_in other) (list_takes other p) in
          let e = list_total other p in
          omega arith
