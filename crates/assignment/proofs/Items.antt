-- Joining row i with its columns, one after the other, is the definition's join of row i.
use Rattle.std.specs.Prelude.{None, Option, Some}
use mathlib.Core.Path.{◌≡◌, refl, sym, ap, ◌∙◌, subst}
use mathlib.Core.Logic.{◌⊎◌, inl, inr}
use mathlib.Core.Bool.{Bool, true, false, cond, ◌&&◌, ◌||◌, true≢false}
use mathlib.Core.List.{List}
use Prim.Native.Nat.{ℕ, zero, suc, ◌+◌, ◌-◌, ◌*◌, ◌≤◌, ◌<◌}
use native.Mathlib.Decide.{ℕ_discrete, dec_lt}
use native.Mathlib.Numerals.{add-one}
use native.Mathlib.Nat.{suc-mul, mul-le-mul_right}
use native.Mathlib.Omega.{arith}
use borrow.Author.Tests.{eq-eqb, eqb-true, lt-ltb, le-ltb}
use lib.Dec.{eqb}
use lib.ListN.{get_or, length, take, drop, replicate, get_or-eq_default}
use lib.Seq.{get_or-take, get_or-drop}
use lib.Ieee.{Float, nan}
use lib.Ieee.Scale.{finite}
use Rattle.lists.specs.First.{any}
use Rattle.kuhn_munkres.specs.Groups.{Labels, hits, relabel, relabelled, joined_to, join, labels, joins, alone}
use Rattle.kuhn_munkres.specs.Assignment.{rows_of}
use Rattle.kuhn_munkres.proofs.Rows.{row_long}
use Rattle.kuhn_munkres.proofs.Labels.{nones_at, Named, Touching, named_all, labels_snoc, hit_in, hit_out, row_before, row_new, col_new, col_beyond, named_join}
use Rattle.groups.proofs.Masks.{not_true}
use Rattle.assignment.specs.Forest.{Forest, Labelled}
use Rattle.assignment.specs.Labelling.{allowed_at, touched, row_label, Roomy, RowJoined, or_item, item_label, Alone, Grouped}
use Rattle.assignment.proofs.Forests.{labels_same}

-- ---- which label is touched
pub touch_in : (allowed : ℕ → Bool) (label : ℕ → ℕ) (base k j l : ℕ) → j < k → allowed j ≡ true → label (base + j) ≡ l → touched allowed label base k l ≡ true
unfolding touched
touch_in allowed label base zero j l h a e = absurd (under j h)
  where
    under : (j : ℕ) → j < 0 → ⊥
    under j h = omega arith
touch_in allowed label base (suc k) j l h a e = go (ℕ_discrete j k) (λ q. touch_in allowed label base k j l q a e)
  where
    or_right : (b c : Bool) → c ≡ true → (b || c) ≡ true
    or_right true c q = refl
    or_right false c q = q

    go : Dec (j ≡ k) → (j < k → touched allowed label base k l ≡ true) → ((allowed k && eqb (label (base + k)) l) || touched allowed label base k l) ≡ true
    go (yes q) ih = rw (← q, a, eq-eqb (label (base + j)) l e)
    go (no n) ih = or_right (allowed k && eqb (label (base + k)) l) (touched allowed label base k l) (ih (omega arith))

pub record Toucher (allowed : ℕ → Bool) (label : ℕ → ℕ) (base k l : ℕ) : Type 0 where
  pub at : ℕ
  pub below : at < k
  pub may : allowed at ≡ true
  pub is : label (base + at) ≡ l

pub touch_out : (allowed : ℕ → Bool) (label : ℕ → ℕ) (base k l : ℕ) → touched allowed label base k l ≡ true → Toucher allowed label base k l
unfolding touched
touch_out allowed label base zero l e = absurd (true≢false (sym e))
touch_out allowed label base (suc k) l e = go (allowed k) (eqb (label (base + k)) l) refl refl (touch_out allowed label base k l) e
  where
    later : Toucher allowed label base k l → Toucher allowed label base (suc k) l
    later t = record { at = t.at; below = let h = t.below in omega arith; may = t.may; is = t.is }

    go : (a b : Bool) → allowed k ≡ a → eqb (label (base + k)) l ≡ b → (touched allowed label base k l ≡ true → Toucher allowed label base k l) → ((a && b) || touched allowed label base k l) ≡ true → Toucher allowed label base (suc k) l
    go true true p q ih r = record { at = k; below = omega arith; may = p; is = eqb-true (label (base + k)) l q }
    go true false p q ih r = later (ih r)
    go false b p q ih r = later (ih r)

-- ---- the labels of items
module _ (n : ℕ) (s : Labels) where
  pub item_row : (x : ℕ) → x < length s.of_rows → item_label n s x ≡ get_or s.of_rows x 0
  unfolding item_label
  item_row x h = rw (lt-ltb x (length s.of_rows) h)

  pub item_next : (x : ℕ) → length s.of_rows ≤ x → x < n → item_label n s x ≡ x
  unfolding item_label
  item_next x h l = rw (le-ltb x (length s.of_rows) h, lt-ltb x n l)

  pub item_col : (x : ℕ) → length s.of_rows ≤ x → n ≤ x → item_label n s x ≡ or_item x (get_or s.of_columns (x - n) None)
  unfolding item_label
  item_col x h l = rw (le-ltb x (length s.of_rows) h, le-ltb x n l)

same_bool : (a b : Bool) → (a ≡ true → b ≡ true) → (b ≡ true → a ≡ true) → a ≡ b
same_bool true b f g = sym (f refl)
same_bool false true f g = g refl
same_bool false false f g = refl

module _ (n m : ℕ) (costs : List Float) (i : ℕ) (hi : i < n) (fits : suc i * m ≤ length costs) where
  abbrev s : Labels
  s = labels finite (rows_of i m costs) m

  abbrev row : List Float
  row = take m (drop (i * m) costs)

  N : Named finite nan refl i m s
  N = named_all finite nan refl i m costs (omega (arith, suc-mul i m))

  long : length row ≡ m
  long = row_long i m costs fits

  abbrev A : ℕ → Bool
  A j = allowed_at costs (i * m) j

  abbrev Λ : ℕ → ℕ
  Λ x = item_label n s x

  row_at_lem : (j : ℕ) → j < m → get_or row j nan ≡ get_or costs (i * m + j) nan
  row_at_lem j h = get_or-take m (drop (i * m) costs) j nan h ∙ get_or-drop (i * m) costs j nan

  row_in_lem : (j : ℕ) → finite (get_or row j nan) ≡ true → j < m
  row_in_lem j e = go (dec_lt j m)
    where
      go : Dec (j < m) → j < m
      go (yes h) = h
      go (no h) = absurd (true≢false (sym e ∙ ap finite (get_or-eq_default row nan (rw long (omega arith)))))

  -- a column's item
  col_label : (j : ℕ) → Λ (n + j) ≡ or_item (n + j) (get_or s.of_columns j None)
  col_label j = let e : n + j - n ≡ j = omega arith in item_col n s (n + j) (rw N.rows_long (omega arith)) (omega arith) ∙ ap (λ (k : ℕ). or_item (n + j) (get_or s.of_columns k None)) e

  col_none : (j : ℕ) → get_or s.of_columns j None ≡ None → Λ (n + j) ≡ n + j
  col_none j e = col_label j ∙ ap (or_item (n + j)) e

  col_some : (j l : ℕ) → get_or s.of_columns j None ≡ Some l → Λ (n + j) ≡ l
  col_some j l e = col_label j ∙ ap (or_item (n + j)) e

  -- a label that a column bears is its item, or a row before i
  bears : (j l : ℕ) → Λ (n + j) ≡ l → ((n + j ≡ l) × (get_or s.of_columns j None ≡ None)) ⊎ ((l < i) × (get_or s.of_columns j None ≡ Some l))
  bears j l e = go (get_or s.of_columns j None) refl
    where
      go : (o : Option ℕ) → get_or s.of_columns j None ≡ o → ((n + j ≡ l) × (get_or s.of_columns j None ≡ None)) ⊎ ((l < i) × (get_or s.of_columns j None ≡ Some l))
      go None q = inl (sym (col_none j q) ∙ e, q)
      go (Some g) q = let w : g ≡ l = sym (col_some j g q) ∙ e in inr (rw w at (N.col_low j g q), q ∙ ap Some w)

  -- what a row's label is touched by is what the definition has as hit
  hit_is : (l : ℕ) → l < n → touched A Λ n m l ≡ any (eqb l) (hits finite row s.of_columns)
  hit_is l h = same_bool _ _ (λ e. into (touch_out A Λ n m l e)) (λ e. out (hit_out finite nan refl row s.of_columns l e))
    where
      into : Toucher A Λ n m l → any (eqb l) (hits finite row s.of_columns) ≡ true
      into t = by (bears t.at l t.is)
        where
          by : ((n + t.at ≡ l) × (get_or s.of_columns t.at None ≡ None)) ⊎ ((l < i) × (get_or s.of_columns t.at None ≡ Some l)) → any (eqb l) (hits finite row s.of_columns) ≡ true
          by (inl p) = absurd (let e = p.0 in omega arith)
          by (inr p) = hit_in finite nan refl row s.of_columns t.at l (ap finite (row_at_lem t.at t.below) ∙ t.may) p.1

      out : Touching finite nan refl row s.of_columns l → touched A Λ n m l ≡ true
      out t = let h = row_in_lem t.at t.allowed in touch_in A Λ n m t.at l h (ap finite (sym (row_at_lem t.at h)) ∙ t.allowed) (col_some t.at l t.label)

  -- a label that no column bears
  miss : (z : ℕ) → ((j : ℕ) → j < m → A j ≡ true → Λ (n + j) ≡ z → ⊥) → touched A Λ n m z ≡ false
  miss z f = not_true (touched A Λ n m z) (λ e. let t = touch_out A Λ n m z e in f t.at t.below t.may t.is)

  pub self : Λ i ≡ i
  self = item_next n s i (rw N.rows_long (omega arith)) hi

  abbrev s' : Labels
  s' = join finite i row s

  N' : Named finite nan refl (suc i) m s'
  N' = named_join finite nan refl i m s N row long

  keep : (b : Bool) (x y z : ℕ) → x ≡ z → b ≡ false → cond b y x ≡ z
  keep b x y z e h = rw h e

  before : (z : ℕ) → z < i → row_label A Λ n i m z ≡ item_label n s' z
  unfolding relabel
  before z h =
      let e : Λ z ≡ get_or s.of_rows z 0 = item_row n s z (rw N.rows_long h) in
      let l : get_or s.of_rows z 0 < n = let q = N.row_low z h in omega arith in
      ap (λ (x : ℕ). cond (touched A Λ n m x) i x) e
      ∙ ap (λ (b : Bool). cond b i (get_or s.of_rows z 0)) (hit_is (get_or s.of_rows z 0) l)
      ∙ sym (item_row n s' z (rw N'.rows_long (omega arith)) ∙ row_before finite nan refl i m s N row long z h)

  at_i : row_label A Λ n i m i ≡ item_label n s' i
  at_i = pick (touched A Λ n m (Λ i)) ∙ sym (item_row n s' i (rw N'.rows_long (omega arith)) ∙ row_new finite nan refl i m s N row long)
    where
      pick : (b : Bool) → cond b i (Λ i) ≡ i
      pick true = refl
      pick false = self

  between : (z : ℕ) → i < z → z < n → row_label A Λ n i m z ≡ item_label n s' z
  between z h l =
      let e : Λ z ≡ z = item_next n s z (rw N.rows_long (omega arith)) l in
      keep (touched A Λ n m (Λ z)) (Λ z) i z e (ap (touched A Λ n m) e ∙ miss z (λ j q a w. elim (bears j z w) [ inl p ↦ (let r = p.0 in omega arith) | inr p ↦ (let r = p.0 in omega arith) ]))
      ∙ sym (item_next n s' z (rw N'.rows_long (omega arith)) l)

  -- the item of column j
  col_label' : (j : ℕ) → item_label n s' (n + j) ≡ or_item (n + j) (get_or s'.of_columns j None)
  col_label' j = let e : n + j - n ≡ j = omega arith in item_col n s' (n + j) (rw N'.rows_long (omega arith)) (omega arith) ∙ ap (λ (k : ℕ). or_item (n + j) (get_or s'.of_columns k None)) e

  alone_stays : (j : ℕ) → get_or s.of_columns j None ≡ None → (j < m → A j ≡ false) → get_or s'.of_columns j None ≡ None → row_label A Λ n i m (n + j) ≡ item_label n s' (n + j)
  alone_stays j e f e' =
      let q : Λ (n + j) ≡ n + j = col_none j e in
      keep (touched A Λ n m (Λ (n + j))) (Λ (n + j)) i (n + j) q (ap (touched A Λ n m) q ∙ miss (n + j) (λ k h a w. elim (bears k (n + j) w) [ inl p ↦ other k h a p.0 | inr p ↦ (let r = p.0 in omega arith) ]))
      ∙ sym (col_label' j ∙ ap (or_item (n + j)) e')
    where
      other : (k : ℕ) → k < m → A k ≡ true → n + k ≡ n + j → ⊥
      other k h a w = let z : k ≡ j = omega arith in true≢false (sym a ∙ subst (λ (x : ℕ). A x ≡ false) (sym z) (f (omega arith)))

  column : (j : ℕ) → row_label A Λ n i m (n + j) ≡ item_label n s' (n + j)
  unfolding joined_to relabelled relabel
  column j = go (dec_lt j m)
    where
      in_row : (h : j < m) (b : Bool) (o : Option ℕ) → finite (get_or row j nan) ≡ b → get_or s.of_columns j None ≡ o → row_label A Λ n i m (n + j) ≡ item_label n s' (n + j)
      in_row h true o p q =
          let t = touch_in A Λ n m j (Λ (n + j)) h (ap finite (sym (row_at_lem j h)) ∙ p) refl in
          let w : get_or s'.of_columns j None ≡ Some i = col_new finite nan refl i m s N row long j h ∙ rw p in
          ap (λ (b : Bool). cond b i (Λ (n + j))) t ∙ sym (col_label' j ∙ ap (or_item (n + j)) w)
      in_row h false None p q = alone_stays j q (λ _. ap finite (sym (row_at_lem j h)) ∙ p) (col_new finite nan refl i m s N row long j h ∙ rw (p, q))
      in_row h false (Some l) p q =
          let e : Λ (n + j) ≡ l = col_some j l q in
          let w : get_or s'.of_columns j None ≡ Some (relabel (hits finite row s.of_columns) i l) = col_new finite nan refl i m s N row long j h ∙ rw (p, q) in
          ap (λ (x : ℕ). cond (touched A Λ n m x) i x) e
          ∙ ap (λ (b : Bool). cond b i l) (hit_is l (let r = N.col_low j l q in omega arith))
          ∙ sym (col_label' j ∙ ap (or_item (n + j)) w)

      go : Dec (j < m) → row_label A Λ n i m (n + j) ≡ item_label n s' (n + j)
      go (yes h) = in_row h (finite (get_or row j nan)) (get_or s.of_columns j None) refl refl
      go (no h) = alone_stays j (get_or-eq_default s.of_columns None (rw N.cols_long (omega arith))) (λ g. absurd (h g)) (col_beyond finite nan refl i m s N row long j (omega arith))

  pub row_is : (z : ℕ) → row_label A Λ n i m z ≡ item_label n s' z
  row_is z = go (dec_lt z i) (ℕ_discrete z i) (dec_lt z n)
    where
      go : Dec (z < i) → Dec (z ≡ i) → Dec (z < n) → row_label A Λ n i m z ≡ item_label n s' z
      go (yes h) e l = before z h
      go (no h) (yes e) l = subst (λ (x : ℕ). row_label A Λ n i m x ≡ item_label n s' x) (sym e) at_i
      go (no h) (no e) (yes l) = between z (omega arith) l
      go (no h) (no e) (no l) = let q : n + (z - n) ≡ z = omega arith in subst (λ (x : ℕ). row_label A Λ n i m x ≡ item_label n s' x) q (column (z - n))

  -- the same for the table's next row
  pub next_is : (z : ℕ) → item_label n (labels finite (rows_of (suc i) m costs) m) z ≡ row_label A Λ n i m z
  next_is z = ap (λ (t : Labels). item_label n t z) (labels_snoc finite nan refl i m costs) ∙ sym (row_is z)

-- ---- row after row
pub record Stage (costs : List Float) (n m i : ℕ) (par rank : List ℕ) : Type 0 where
  pub forest : Forest (i * m) par rank
  pub labelled : Labelled (item_label n (labels finite (rows_of i m costs) m)) par

pub stage_first : (costs : List Float) (n m : ℕ) (par : List ℕ) → Alone par → Stage costs n m 0 par (replicate 128 0)
stage_first costs n m par a =
    record {
      forest = record { long = a.long; ranks = refl; within = λ x h. rw (a.own x h) h; up = λ x h g. absurd (g (a.own x h)); cap = λ x. rw (zeros 128 x) (omega arith) };
      labelled = record { same = λ x h. ap (item_label n (labels finite (rows_of 0 m costs) m)) (a.own x h); one = λ x y h l p q e. sym (own x) ∙ e ∙ own y };
    }
  where
    zeros : (k x : ℕ) → ◌≡◌ {A = ℕ} (get_or (replicate k 0) x 0) 0
    zeros zero x = refl
    zeros (suc k) zero = refl
    zeros (suc k) (suc x) = zeros k x

    empty : labels finite (rows_of 0 m costs) m ≡ alone finite m
    empty = unfold labels rows_of joins in refl

    own : (x : ℕ) → item_label n (labels finite (rows_of 0 m costs) m) x ≡ x
    own x = ap (λ (t : Labels). item_label n t x) empty ∙ go (dec_lt x n)
      where
        go : Dec (x < n) → item_label n (alone finite m) x ≡ x
        go (yes h) = item_next n (alone finite m) x (omega arith) h
        go (no h) = item_col n (alone finite m) x (omega arith) (omega arith) ∙ ap (or_item x) (nones_at m (x - n))

module _ (costs : List Float) (n m i : ℕ) (par rank : List ℕ) (hn : n ≤ 64) (hm : m ≤ 64) (size : length costs ≡ n * m) (hi : i < n) (g : Stage costs n m i par rank) where
  pub row_end : i * m + m ≤ length costs
  row_end = omega (arith, suc-mul i m, mul-le-mul_right m hi, size)

  few : n * m ≤ 4096
  few = omega (arith, mul-le-mul_right m hn)

  pub stage_roomy : Roomy m par rank
  stage_roomy = record { k = i * m; forest = g.forest; room = omega (arith, row_end, few, size) }

  pub stage_next : (par' rank' : List ℕ) → RowJoined costs (i * m) n i m par rank par' rank' → Stage costs n m (i + 1) par' rank'
  stage_next par' rank' r =
      let f : suc i * m ≤ length costs = omega (arith, row_end, suc-mul i m) in
      let e : i * m + m ≡ suc i * m = omega (arith, suc-mul i m) in
      let F : Forest (suc i * m) par' rank' = rw e at (r.forest (i * m) g.forest) in
      rw (add-one i) (record {
        forest = F;
        labelled = labels_same _ _ par' F.within (λ z l. next_is n m costs i hi f z) (r.joined _ g.labelled (self n m costs i hi f));
      })

pub stage_done : (costs : List Float) (n m : ℕ) (par rank : List ℕ) → n ≤ 64 → m ≤ 64 → Stage costs n m n par rank → Grouped costs n m par rank
stage_done costs n m par rank hn hm g = record { ranked = record { k = n * m; forest = g.forest; room = omega (arith, mul-le-mul_right m hn) }; labelled = g.labelled }
