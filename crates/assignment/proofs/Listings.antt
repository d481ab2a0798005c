-- One row or column more of the lists.
use Rattle.std.specs.Prelude.{None, Option, Some, position, ◌==◌}
use Rattle.std.specs.List.{position_from}
use Rattle.std.proofs.lemmas.Iterator.Adapters.{position_from-zero}
use mathlib.Core.Path.{◌≡◌, refl, sym, ap, ap₂, ◌∙◌}
use mathlib.Core.Bool.{Bool, cond}
use mathlib.Core.List.{List, [], ◌∷◌, ◌++◌, map, append-nil}
use Prim.Native.Nat.{ℕ, suc, ◌+◌, ◌-◌, ◌≤◌, ◌<◌}
use native.Mathlib.Numerals.{add-one}
use native.Mathlib.Omega.{arith}
use borrow.Author.Tests.{lt-ltb, le-ltb}
use lib.ListN.{get_or, set, length, take, drop, replicate, length-append, length-map}
use lib.Seq.{set-append_seam, append_snoc, drop-cons, drop-length, get_or-take, length-take-le, take-append_seam}
use Rattle.kuhn_munkres.specs.Assignment.{Pair, column_of, pair_at, free_at, pairs_from, free_rows, free_columns}
use Rattle.kuhn_munkres.proofs.Labels.{map_at}
use Rattle.assignment.specs.Labelling.{row_or}
use Rattle.assignment.specs.Taking.{takers_of}
use Rattle.assignment.specs.Listing.{padded, row_of, column_in, pair_of, RowsListed, ColumnsListed}
use Rattle.assignment.proofs.Groupings.{label_bears}

-- ---- one more in front of the zeros
pub push : (l : List ℕ) (x k : ℕ) → k ≡ length l → length l < 64 → set (padded l) k x ≡ padded (l ++ (x ∷ []))
unfolding padded
push l x k e h =
    let a : 64 - length l ≡ suc (64 - (length l + 1)) = omega arith in
    let b : length (l ++ (x ∷ [])) ≡ length l + 1 = length-append l (x ∷ []) in
    rw (e, a, b) (set-append_seam l 0 (replicate (64 - (length l + 1)) 0) x ∙ sym (append_snoc l x (replicate (64 - (length l + 1)) 0)))

pub front : (l : List ℕ) → take (length l) (padded l) ≡ l
unfolding padded
front l = take-append_seam l (replicate (64 - length l) 0)

map_snoc : {A B : Type 0} (f : A → B) (l : List A) (x : A) → map f (l ++ (x ∷ [])) ≡ map f l ++ (f x ∷ [])
map_snoc f [] x = refl
map_snoc f (y ∷ l) x = ap (λ (t : List _). f y ∷ t) (map_snoc f l x)

-- ---- the column of a row
found_from : (i k : ℕ) → i < 64 → (l : List ℕ) → column_of i k (map row_or l) ≡ position_from (λ (x : ℕ). x == i) k l
unfolding column_of
found_from i k h [] = refl
found_from i k h (x ∷ l) =
    ap₂ (λ (b : Bool) (o : Option ℕ). cond b (Some k) o) (label_bears i x h)
    (found_from i (suc k) h l ∙ ap (λ (j : ℕ). position_from (λ (y : ℕ). y == i) j l) (sym (add-one k)))

pub found : (i : ℕ) → i < 64 → (l : List ℕ) → column_of i 0 (map row_or l) ≡ position (λ (x : ℕ). x == i) l
found i h l = found_from i 0 h l ∙ sym (position_from-zero (λ (x : ℕ). x == i) l)

-- ---- the columns as they stand
module _ (m : ℕ) (takers : List ℕ) (hm : m ≤ 64) (long : m ≤ length takers) where
  abbrev T : List (Option ℕ)
  T = takers_of m takers

  T-long : length T ≡ m
  T-long = length-map (take m takers) row_or ∙ length-take-le m takers long

  T-at : (j : ℕ) → j < m → drop j T ≡ row_or (get_or takers j 0) ∷ drop (j + 1) T
  T-at j h =
      drop-cons T j None (rw T-long h)
      ∙ ap₂ (λ (o : Option ℕ) (k : ℕ). o ∷ drop k T) (map_at row_or (take m takers) j 0 None (rw (length-take-le m takers long) h) ∙ ap row_or (get_or-take m takers j 0 h)) (sym (add-one j))

  T-end : drop m T ≡ []
  T-end = ap (λ (k : ℕ). drop k T) (sym T-long) ∙ drop-length T

  -- ---- the columns that are left
  pub record Freeing (j : ℕ) (free : List ℕ) (k : ℕ) : Type 0 where
    pub l : List ℕ
    pub rest : l ++ free_columns j (drop j T) ≡ free_columns 0 T
    pub free_is : free ≡ padded l
    pub count : k ≡ length l
    pub few : length l ≤ j

  pub freeing_none : (free : List ℕ) → free ≡ replicate 64 0 → Freeing 0 free 0
  unfolding padded
  freeing_none free e = record { l = []; rest = refl; free_is = e; count = refl; few = omega arith }

  module _ (j : ℕ) (free : List ℕ) (k : ℕ) (h : j < m) (f : Freeing j free k) where
    next : free_columns j (drop j T) ≡ free_at j (row_or (get_or takers j 0)) (free_columns (j + 1) (drop (j + 1) T))
    unfolding free_columns
    next = ap (free_columns j) (T-at j h) ∙ ap (λ (i : ℕ). free_at j (row_or (get_or takers j 0)) (free_columns i (drop (j + 1) T))) (sym (add-one j))

    pub free_room : k < 64
    free_room = let a = f.few in let b = f.count in omega arith

    pub freeing_skip : get_or takers j 0 < 64 → Freeing (j + 1) free k
    unfolding free_at
    freeing_skip q =
        let e : free_columns j (drop j T) ≡ free_columns (j + 1) (drop (j + 1) T) = next ∙ ap (λ (b : Bool). free_at j (cond b (Some (get_or takers j 0)) None) (free_columns (j + 1) (drop (j + 1) T))) (lt-ltb (get_or takers j 0) 64 q) in
        record { l = f.l; rest = ap (λ (t : List ℕ). f.l ++ t) (sym e) ∙ f.rest; free_is = f.free_is; count = f.count; few = let a = f.few in omega arith }

    pub freeing_take : 64 ≤ get_or takers j 0 → Freeing (j + 1) (set free k j) (k + 1)
    unfolding free_at
    freeing_take q =
        let e : free_columns j (drop j T) ≡ j ∷ free_columns (j + 1) (drop (j + 1) T) = next ∙ ap (λ (b : Bool). free_at j (cond b (Some (get_or takers j 0)) None) (free_columns (j + 1) (drop (j + 1) T))) (le-ltb (get_or takers j 0) 64 q) in
        let a = f.few in
        record {
          l = f.l ++ (j ∷ []);
          rest = append_snoc f.l j (free_columns (j + 1) (drop (j + 1) T)) ∙ ap (λ (t : List ℕ). f.l ++ t) (sym e) ∙ f.rest;
          free_is = ap (λ (t : List ℕ). set t k j) f.free_is ∙ push f.l j k f.count (omega arith);
          count = ap (λ (x : ℕ). x + 1) f.count ∙ sym (length-append f.l (j ∷ []));
          few = rw (length-append f.l (j ∷ [])) (omega arith);
        }

  pub freeing_done : (free : List ℕ) (k : ℕ) → Freeing m free k → ColumnsListed T free k
  unfolding free_columns
  freeing_done free k f =
      let e : f.l ≡ free_columns 0 T = sym (append-nil f.l) ∙ ap (λ (t : List (Option ℕ)). f.l ++ free_columns m t) (sym T-end) ∙ f.rest in
      record { free_are = f.free_is ∙ ap padded e; count_is = f.count ∙ ap length e }

-- ---- the rows
module _ (T : List (Option ℕ)) (n : ℕ) where
  pub record Listing (i : ℕ) (pairRows pairColumns free : List ℕ) (k left : ℕ) : Type 0 where
    pub p : List Pair
    pub l : List ℕ
    pub pairs_rest : p ++ pairs_from T i (n - i) ≡ pairs_from T 0 n
    pub free_rest : l ++ free_rows T i (n - i) ≡ free_rows T 0 n
    pub rows_is : pairRows ≡ padded (map row_of p)
    pub columns_is : pairColumns ≡ padded (map column_in p)
    pub free_is : free ≡ padded l
    pub count : k ≡ length p
    pub left_is : left ≡ length l
    pub all : length p + length l ≡ i

  pub listing_none : (a b c : List ℕ) → a ≡ replicate 64 0 → b ≡ replicate 64 0 → c ≡ replicate 64 0 → Listing 0 a b c 0 0
  unfolding padded
  listing_none a b c ea eb ec =
      let z : n - 0 ≡ n = omega arith in
      record { p = []; l = []; pairs_rest = ap (pairs_from T 0) z; free_rest = ap (free_rows T 0) z; rows_is = ea; columns_is = eb; free_is = ec; count = refl; left_is = refl; all = omega arith }

  module _ (i : ℕ) (a b c : List ℕ) (k left : ℕ) (hn : n ≤ 64) (h : i < n) (t : Listing i a b c k left) where
    fuel : n - i ≡ suc (n - (i + 1))
    fuel = omega arith

    pairs_next : pairs_from T i (n - i) ≡ pair_at i (column_of i 0 T) (pairs_from T (i + 1) (n - (i + 1)))
    unfolding pairs_from
    pairs_next = ap (pairs_from T i) fuel ∙ ap (λ (x : ℕ). pair_at i (column_of i 0 T) (pairs_from T x (n - (i + 1)))) (sym (add-one i))

    free_next : free_rows T i (n - i) ≡ free_at i (column_of i 0 T) (free_rows T (i + 1) (n - (i + 1)))
    unfolding free_rows
    free_next = ap (free_rows T i) fuel ∙ ap (λ (x : ℕ). free_at i (column_of i 0 T) (free_rows T x (n - (i + 1)))) (sym (add-one i))

    pub listing_pair : (j : ℕ) → column_of i 0 T ≡ Some j → Listing (i + 1) (set a k i) (set b k j) c (k + 1) left
    unfolding pair_at free_at
    listing_pair j e =
        let x = pair_of i j in
        let pn : pairs_from T i (n - i) ≡ x ∷ pairs_from T (i + 1) (n - (i + 1)) = pairs_next ∙ ap (λ (o : Option ℕ). pair_at i o (pairs_from T (i + 1) (n - (i + 1)))) e in
        let fn : free_rows T i (n - i) ≡ free_rows T (i + 1) (n - (i + 1)) = free_next ∙ ap (λ (o : Option ℕ). free_at i o (free_rows T (i + 1) (n - (i + 1)))) e in
        let all = t.all in
        let few : length t.p < 64 = omega arith in
        record {
          p = t.p ++ (x ∷ []);
          l = t.l;
          pairs_rest = append_snoc t.p x (pairs_from T (i + 1) (n - (i + 1))) ∙ ap (λ (y : List Pair). t.p ++ y) (sym pn) ∙ t.pairs_rest;
          free_rest = ap (λ (y : List ℕ). t.l ++ y) (sym fn) ∙ t.free_rest;
          rows_is = ap (λ (y : List ℕ). set y k i) t.rows_is ∙ push (map row_of t.p) i k (t.count ∙ sym (length-map t.p row_of)) (rw (length-map t.p row_of) few) ∙ ap padded (sym (map_snoc row_of t.p x));
          columns_is = ap (λ (y : List ℕ). set y k j) t.columns_is ∙ push (map column_in t.p) j k (t.count ∙ sym (length-map t.p column_in)) (rw (length-map t.p column_in) few) ∙ ap padded (sym (map_snoc column_in t.p x));
          free_is = t.free_is;
          count = ap (λ (y : ℕ). y + 1) t.count ∙ sym (length-append t.p (x ∷ []));
          left_is = t.left_is;
          all = rw (length-append t.p (x ∷ [])) (omega arith);
        }

    pub listing_free : column_of i 0 T ≡ None → Listing (i + 1) a b (set c left i) k (left + 1)
    unfolding pair_at free_at
    listing_free e =
        let pn : pairs_from T i (n - i) ≡ pairs_from T (i + 1) (n - (i + 1)) = pairs_next ∙ ap (λ (o : Option ℕ). pair_at i o (pairs_from T (i + 1) (n - (i + 1)))) e in
        let fn : free_rows T i (n - i) ≡ i ∷ free_rows T (i + 1) (n - (i + 1)) = free_next ∙ ap (λ (o : Option ℕ). free_at i o (free_rows T (i + 1) (n - (i + 1)))) e in
        let all = t.all in
        record {
          p = t.p;
          l = t.l ++ (i ∷ []);
          pairs_rest = ap (λ (y : List Pair). t.p ++ y) (sym pn) ∙ t.pairs_rest;
          free_rest = append_snoc t.l i (free_rows T (i + 1) (n - (i + 1))) ∙ ap (λ (y : List ℕ). t.l ++ y) (sym fn) ∙ t.free_rest;
          rows_is = t.rows_is;
          columns_is = t.columns_is;
          free_is = ap (λ (y : List ℕ). set y left i) t.free_is ∙ push t.l i left t.left_is (omega arith);
          count = t.count;
          left_is = ap (λ (y : ℕ). y + 1) t.left_is ∙ sym (length-append t.l (i ∷ []));
          all = rw (length-append t.l (i ∷ [])) (omega arith);
        }

  pub listing_done : (a b c : List ℕ) (k left : ℕ) → Listing n a b c k left → RowsListed T n a b c k
  unfolding pairs_from free_rows
  listing_done a b c k left t =
      let z : n - n ≡ 0 = omega arith in
      let ep : t.p ≡ pairs_from T 0 n = sym (append-nil t.p) ∙ ap (λ (x : ℕ). t.p ++ pairs_from T n x) (sym z) ∙ t.pairs_rest in
      let el : t.l ≡ free_rows T 0 n = sym (append-nil t.l) ∙ ap (λ (x : ℕ). t.l ++ free_rows T n x) (sym z) ∙ t.free_rest in
      record {
        pairs_are = t.rows_is ∙ ap (λ (x : List Pair). padded (map row_of x)) ep;
        columns_are = t.columns_is ∙ ap (λ (x : List Pair). padded (map column_in x)) ep;
        free_are = t.free_is ∙ ap padded el;
        count_is = t.count ∙ ap length ep;
        all = ap₂ (λ (x : List Pair) (y : List ℕ). length x + length y) (sym ep) (sym el) ∙ t.all;
      }
