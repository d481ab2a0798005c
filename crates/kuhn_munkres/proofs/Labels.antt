-- The labels name groups by their last rows: a label is a row of its own group, and no row of the group is after it. What a row's join does, place by place.
use Rattle.std.specs.Prelude.{None, Option, Some}
use mathlib.Core.Path.{◌≡◌, refl, sym, ap, ◌∙◌, subst}
use mathlib.Core.Logic.{◌⊎◌, inl, inr}
use mathlib.Core.Bool.{Bool, true, false, cond, true≢false}
use mathlib.Core.List.{List, [], ◌∷◌, ◌++◌, map}
use Prim.Native.Nat.{ℕ, zero, suc, ◌+◌, ◌*◌, ◌≤◌, ◌<◌}
use native.Mathlib.Decide.{ℕ_discrete}
use native.Mathlib.Nat.{suc-mul}
use native.Mathlib.Omega.{arith}
use borrow.Author.Tests.{eq-eqb, eqb-true}
use lib.Dec.{eqb}
use lib.ListN.{get_or, length, take, drop, replicate, length-append, length-replicate, length-map, get_or-append, get_or-eq_default}
use lib.Seq.{get_or-append_seam}
use Rattle.lists.specs.First.{any}
use Rattle.lists.specs.Masks.{zipped}
use Rattle.lists.proofs.Masks.{zipped_at, zipped_long}
use Rattle.kuhn_munkres.specs.Groups.{Labels, relabel, relabelled, hit, hits, joined_to, join, joins, alone, labels}
use Rattle.kuhn_munkres.specs.Assignment.{rows_of}
use Rattle.kuhn_munkres.proofs.Rows.{rows_snoc, rows_count, row_long}

-- ---- lists
pub map_at : {A B : Type 0} (f : A → B) (l : List A) (j : ℕ) (a : A) (b : B) → j < length l → get_or (map f l) j b ≡ f (get_or l j a)
map_at f [] j a b h = absurd (omega arith)
map_at f (x ∷ l) zero a b h = refl
map_at f (x ∷ l) (suc j) a b h = map_at f l j a b (omega arith)

pub none_some : {A : Type 0} {x : A} {B : Type 0} → None ≡ Some x → B
none_some e = absurd (let z : ◌≡◌ {A = ℕ} 0 1 = cc in omega arith)

pub some_same : {A : Type 0} {a b : A} → Some a ≡ Some b → a ≡ b
some_same e = cc

pub some_in : (l : List (Option ℕ)) (j x : ℕ) → get_or l j None ≡ Some x → j < length l
some_in [] j x e = none_some e
some_in (o ∷ l) zero x e = omega arith
some_in (o ∷ l) (suc j) x e = let r = some_in l j x e in omega arith

pub nones_at : (w j : ℕ) → ◌≡◌ {A = Option ℕ} (get_or (replicate w None) j None) None
nones_at zero j = refl
nones_at (suc w) zero = refl
nones_at (suc w) (suc j) = nones_at w j

-- ---- what a row touches
module _ {F : Type 0} (finite : F → Bool) (d : F) (no_cost : finite d ≡ false) where
  or_true : (b c : Bool) → c ≡ true → cond b true c ≡ true
  or_true true c e = refl
  or_true false c e = e

  pub hit_in : (row : List F) (cols : List (Option ℕ)) (j l : ℕ) → finite (get_or row j d) ≡ true → get_or cols j None ≡ Some l → any (eqb l) (hits finite row cols) ≡ true
  unfolding hits hit any
  hit_in [] cols j l h e = absurd (true≢false (sym h ∙ no_cost))
  hit_in (x ∷ row) [] j l h e = none_some e
  hit_in (x ∷ row) (o ∷ cols) zero l h e = rw (h, e, eq-eqb l l refl)
  hit_in (x ∷ row) (o ∷ cols) (suc j) l h e = go (finite x) o (hit_in row cols j l h e)
    where
      go : (b : Bool) (p : Option ℕ) → any (eqb l) (hits finite row cols) ≡ true → any (eqb l) (hit b p (hits finite row cols)) ≡ true
      go false p q = q
      go true None q = q
      go true (Some g) q = or_true (eqb l g) (any (eqb l) (hits finite row cols)) q

  pub record Touching (row : List F) (cols : List (Option ℕ)) (l : ℕ) : Type 0 where
    pub at : ℕ
    pub allowed : finite (get_or row at d) ≡ true
    pub label : get_or cols at None ≡ Some l

  pub hit_out : (row : List F) (cols : List (Option ℕ)) (l : ℕ) → any (eqb l) (hits finite row cols) ≡ true → Touching row cols l
  unfolding hits hit any
  hit_out [] cols l e = absurd (true≢false (sym e))
  hit_out (x ∷ row) [] l e = absurd (true≢false (sym e))
  hit_out (x ∷ row) (o ∷ cols) l e = go (finite x) o refl refl (hit_out row cols l) e
    where
      later : Touching row cols l → Touching (x ∷ row) (o ∷ cols) l
      later t = record { at = suc t.at; allowed = t.allowed; label = t.label }

      first : (b : Bool) (g : ℕ) → finite x ≡ true → o ≡ Some g → eqb l g ≡ b → (any (eqb l) (hits finite row cols) ≡ true → Touching row cols l) → cond b true (any (eqb l) (hits finite row cols)) ≡ true → Touching (x ∷ row) (o ∷ cols) l
      first true g h q r ih e' = record { at = zero; allowed = h; label = q ∙ ap Some (sym (eqb-true l g r)) }
      first false g h q r ih e' = later (ih e')

      go : (b : Bool) (p : Option ℕ) → finite x ≡ b → o ≡ p → (any (eqb l) (hits finite row cols) ≡ true → Touching row cols l) → any (eqb l) (hit b p (hits finite row cols)) ≡ true → Touching (x ∷ row) (o ∷ cols) l
      go false p h q ih e' = later (ih e')
      go true None h q ih e' = later (ih e')
      go true (Some g) h q ih e' = first (eqb l g) g h q refl ih e'

  -- ---- one row
  pub relabel_is : (hs : List ℕ) (i l : ℕ) → ((any (eqb l) hs ≡ true) × (relabel hs i l ≡ i)) ⊎ ((any (eqb l) hs ≡ false) × (relabel hs i l ≡ l))
  unfolding relabel
  relabel_is hs i l = go (any (eqb l) hs) refl
    where
      go : (b : Bool) → any (eqb l) hs ≡ b → ((any (eqb l) hs ≡ true) × (cond (any (eqb l) hs) i l ≡ i)) ⊎ ((any (eqb l) hs ≡ false) × (cond (any (eqb l) hs) i l ≡ l))
      go true e = inl (e, rw e)
      go false e = inr (e, rw e)

  -- labels of i rows and w columns
  pub record Named (i w : ℕ) (s : Labels) : Type 0 where
    pub rows_long : length s.of_rows ≡ i
    pub cols_long : length s.of_columns ≡ w
    pub row_low : (x : ℕ) → x < i → get_or s.of_rows x 0 < i
    pub row_up : (x : ℕ) → x < i → x ≤ get_or s.of_rows x 0
    pub row_own : (x : ℕ) → x < i → get_or s.of_rows (get_or s.of_rows x 0) 0 ≡ get_or s.of_rows x 0
    pub col_low : (j l : ℕ) → get_or s.of_columns j None ≡ Some l → l < i
    pub col_own : (j l : ℕ) → get_or s.of_columns j None ≡ Some l → get_or s.of_rows l 0 ≡ l

  module _ (i w : ℕ) (s : Labels) (n : Named i w s) (row : List F) (long : length row ≡ w) where
    abbrev pub hs : List ℕ
    hs = hits finite row s.of_columns

    pub row_before : (x : ℕ) → x < i → get_or (join finite i row s).of_rows x 0 ≡ relabel hs i (get_or s.of_rows x 0)
    unfolding join
    row_before x h = get_or-append (map (relabel hs i) s.of_rows) (i ∷ []) 0 x (rw (length-map, n.rows_long) h) ∙ map_at (relabel hs i) s.of_rows x 0 0 (rw n.rows_long h)

    pub row_new : get_or (join finite i row s).of_rows i 0 ≡ i
    unfolding join
    row_new = subst (λ (k : ℕ). get_or (map (relabel hs i) s.of_rows ++ (i ∷ [])) k 0 ≡ i) (length-map s.of_rows (relabel hs i) ∙ n.rows_long) (get_or-append_seam (map (relabel hs i) s.of_rows) i [] 0)

    pub col_new : (j : ℕ) → j < w → get_or (join finite i row s).of_columns j None ≡ joined_to finite hs i (get_or row j d) (get_or s.of_columns j None)
    unfolding join
    col_new j h = zipped_at (joined_to finite hs i) row s.of_columns j d None None (rw long h) (rw n.cols_long h)

    pub col_beyond : (j : ℕ) → w ≤ j → get_or (join finite i row s).of_columns j None ≡ None
    unfolding join
    col_beyond j h = get_or-eq_default (zipped (joined_to finite hs i) row s.of_columns) None (rw (zipped_long (joined_to finite hs i) row s.of_columns (long ∙ sym n.cols_long), n.cols_long) h)

    -- a label that stays, or the new row: each is a row that bears its own name
    own : (l : ℕ) → l < i → get_or s.of_rows l 0 ≡ l → (relabel hs i l < suc i) × (get_or (join finite i row s).of_rows (relabel hs i l) 0 ≡ relabel hs i l)
    own l h e = go (relabel_is hs i l)
      where
        go : ((any (eqb l) hs ≡ true) × (relabel hs i l ≡ i)) ⊎ ((any (eqb l) hs ≡ false) × (relabel hs i l ≡ l)) → (relabel hs i l < suc i) × (get_or (join finite i row s).of_rows (relabel hs i l) 0 ≡ relabel hs i l)
        go (inl p) = rw p.1 (omega arith, row_new)
        go (inr p) = (rw p.1 (omega arith), ap (λ (k : ℕ). get_or (join finite i row s).of_rows k 0) p.1 ∙ row_before l h ∙ ap (relabel hs i) e)

    pub named_join : Named (suc i) w (join finite i row s)
    unfolding joined_to relabelled
    named_join = record {
      rows_long = long_rows;
      cols_long = long_cols;
      row_low = λ x h. low x h (ℕ_discrete x i);
      row_up = λ x h. up x h (ℕ_discrete x i);
      row_own = λ x h. owns x h (ℕ_discrete x i);
      col_low = λ j l e. (col j l (j_in j l e) e).0;
      col_own = λ j l e. (col j l (j_in j l e) e).1;
    }
      where
        long_rows : length (join finite i row s).of_rows ≡ suc i
        long_rows = unfold join in (length-append (map (relabel hs i) s.of_rows) (i ∷ []) ∙ rw (length-map, n.rows_long) (omega arith))

        long_cols : length (join finite i row s).of_columns ≡ w
        long_cols = unfold join in (zipped_long (joined_to finite hs i) row s.of_columns (long ∙ sym n.cols_long) ∙ n.cols_long)

        j_in : (j l : ℕ) → get_or (join finite i row s).of_columns j None ≡ Some l → j < w
        j_in j l e = rw long_cols at (some_in (join finite i row s).of_columns j l e)

        low : (x : ℕ) → x < suc i → Dec (x ≡ i) → get_or (join finite i row s).of_rows x 0 < suc i
        low x h (yes e) = rw (e, row_new) (omega arith)
        low x h (no g) = let q : x < i = omega arith in rw (row_before x q) (own (get_or s.of_rows x 0) (n.row_low x q) (n.row_own x q)).0

        up : (x : ℕ) → x < suc i → Dec (x ≡ i) → x ≤ get_or (join finite i row s).of_rows x 0
        up x h (yes e) = rw (e, row_new) (omega arith)
        up x h (no g) = let q : x < i = omega arith in rw (row_before x q) (by (relabel_is hs i (get_or s.of_rows x 0)))
          where
            by : ((any (eqb (get_or s.of_rows x 0)) hs ≡ true) × (relabel hs i (get_or s.of_rows x 0) ≡ i)) ⊎ ((any (eqb (get_or s.of_rows x 0)) hs ≡ false) × (relabel hs i (get_or s.of_rows x 0) ≡ get_or s.of_rows x 0)) → x ≤ relabel hs i (get_or s.of_rows x 0)
            by (inl p) = rw p.1 (omega arith)
            by (inr p) = rw p.1 (n.row_up x (omega arith))

        owns : (x : ℕ) → x < suc i → Dec (x ≡ i) → get_or (join finite i row s).of_rows (get_or (join finite i row s).of_rows x 0) 0 ≡ get_or (join finite i row s).of_rows x 0
        owns x h (yes e) = rw (e, row_new, row_new)
        owns x h (no g) = let q : x < i = omega arith in rw (row_before x q) (own (get_or s.of_rows x 0) (n.row_low x q) (n.row_own x q)).1

        col : (j l : ℕ) → j < w → get_or (join finite i row s).of_columns j None ≡ Some l → (l < suc i) × (get_or (join finite i row s).of_rows l 0 ≡ l)
        col j l h e = go (finite (get_or row j d)) (get_or s.of_columns j None) refl refl (sym (col_new j h) ∙ e)
          where
            go : (b : Bool) (o : Option ℕ) → finite (get_or row j d) ≡ b → get_or s.of_columns j None ≡ o → joined_to finite hs i (get_or row j d) (get_or s.of_columns j None) ≡ Some l → (l < suc i) × (get_or (join finite i row s).of_rows l 0 ≡ l)
            go true o q r z = let a : i ≡ l = some_same (rw q at z) in rw (← a) (omega arith, row_new)
            go false None q r z = none_some (rw (q, r) at z)
            go false (Some m) q r z = let a : relabel hs i m ≡ l = some_same (rw (q, r) at z) in rw (← a) (own m (n.col_low j m r) (n.col_own j m r))

  -- ---- all rows
  pub named_alone : (w : ℕ) → Named 0 w (alone finite w)
  named_alone w = record {
    rows_long = refl;
    cols_long = length-replicate w None;
    row_low = λ x h. absurd (under x h);
    row_up = λ x h. absurd (under x h);
    row_own = λ x h. absurd (under x h);
    col_low = λ j l e. none_some (sym (nones_at w j) ∙ e);
    col_own = λ j l e. none_some (sym (nones_at w j) ∙ e);
  }
    where
      under : (x : ℕ) → x < 0 → ⊥
      under x h = omega arith

  joins_snoc : (k : ℕ) (rows : List (List F)) (r : List F) (s : Labels) → joins finite k (rows ++ (r ∷ [])) s ≡ join finite (k + length rows) r (joins finite k rows s)
  unfolding joins
  joins_snoc k [] r s = let e : k ≡ k + 0 = omega arith in ap (λ (i : ℕ). join finite i r s) e
  joins_snoc k (q ∷ rows) r s = let e : suc k + length rows ≡ k + suc (length rows) = omega arith in joins_snoc (suc k) rows r (join finite k q s) ∙ ap (λ (i : ℕ). join finite i r (joins finite (suc k) rows (join finite k q s))) e

module _ {F : Type 0} (finite : F → Bool) (d : F) (no_cost : finite d ≡ false) where
  -- one row more
  pub labels_snoc : (n w : ℕ) (l : List F) → labels finite (rows_of (suc n) w l) w ≡ join finite n (take w (drop (n * w) l)) (labels finite (rows_of n w l) w)
  unfolding labels
  labels_snoc n w l =
      ap (λ (r : List (List F)). joins finite zero r (alone finite w)) (rows_snoc n w l)
      ∙ joins_snoc finite d no_cost zero (rows_of n w l) (take w (drop (n * w) l)) (alone finite w)
      ∙ ap (λ (i : ℕ). join finite i (take w (drop (n * w) l)) (joins finite zero (rows_of n w l) (alone finite w))) (let e = rows_count n w l in omega arith)

  pub named_all : (n w : ℕ) (l : List F) → n * w ≤ length l → Named finite d no_cost n w (labels finite (rows_of n w l) w)
  unfolding rows_of labels joins
  named_all zero w l h = named_alone finite d no_cost w
  named_all (suc n) w l h = rw (labels_snoc n w l) (named_join finite d no_cost n w (labels finite (rows_of n w l) w) (named_all n w l (omega (arith, suc-mul n w))) (take w (drop (n * w) l)) (row_long n w l h))
