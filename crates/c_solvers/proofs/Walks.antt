-- The walk over the rows beside their pairs: each row's mate, one row more a turn. Assumes nothing.
use Rattle.std.specs.Prelude.{None, Option, Some}
use mathlib.Core.Path.{◌≡◌, refl, sym, ap, ◌∙◌}
use mathlib.Core.Bool.{Bool, true, false, ◌&&◌}
use mathlib.Core.List.{List, [], ◌∷◌, ◌++◌, map}
use Prim.Native.Nat.{ℕ, zero, suc, ◌+◌, ◌-◌, ◌≤◌, ◌<◌}
use native.Mathlib.Decide.{dec_lt}
use native.Mathlib.Numerals.{add-one}
use native.Mathlib.Omega.{arith}
use borrow.Author.Tests.{lt-ltb, le-ltb, eq-eqb, ne_eqb, eqb-true}
use lib.Dec.{ltb, eqb}
use lib.ListN.{get_or, set, length, take, drop, replicate, length-append, length-map, get_or-append, drop_of_length-le}
use lib.Seq.{drop-cons, get_or-take, length-take-le}
use Rattle.lists.specs.Lay.{lay}
use Rattle.lists.proofs.Laying.{set_lay}
use Rattle.kuhn_munkres.specs.Assignment.{Pair, column_of, pair_at, pairs_from}
use Rattle.kuhn_munkres.proofs.Labels.{map_at}
use Rattle.assignment.specs.Listing.{padded, row_of, column_in, pair_of}
use Rattle.c_solvers.specs.Mates.{alone, mate_of, mates_of, hits, PairsHeld}

-- ---- mates
pub length_mates : (l : List Pair) (n : ℕ) → length (mates_of l n) ≡ n
unfolding mates_of
length_mates l zero = refl
length_mates l (suc n) = length-append (mates_of l n) (mate_of l n ∷ []) ∙ rw (length_mates l n) (add-one n)

mates_more : (l : List Pair) (n : ℕ) → mates_of l (n + 1) ≡ mates_of l n ++ (mate_of l n ∷ [])
unfolding mates_of
mates_more l n = ap (mates_of l) (add-one n)

-- ---- pairs of the rows from i on
module _ (t : List (Option ℕ)) where
  -- a row before them has none
  pub late : (i j f : ℕ) → i < j → mate_of (pairs_from t j f) i ≡ alone
  unfolding mate_of pairs_from pair_at
  late i j zero h = refl
  late i j (suc f) h = go (column_of j 0 t) (late i (suc j) f (omega arith))
    where
      go : (o : Option ℕ) → mate_of (pairs_from t (suc j) f) i ≡ alone → mate_of (pair_at j o (pairs_from t (suc j) f)) i ≡ alone
      go None e = e
      go (Some c) e = rw (ne_eqb j i (λ q. omega arith)) e

  -- the first of them is row i's or a later one's
  first : (i f : ℕ) (p : Pair) (l : List Pair) → pairs_from t i f ≡ p ∷ l → i ≤ p.row
  unfolding pairs_from pair_at
  first i zero p l e = absurd (let z : ◌≡◌ {A = ℕ} 0 1 = cc in omega arith)
  first i (suc f) p l e = go (column_of i 0 t) (first (suc i) f p l) e
    where
      go : (o : Option ℕ) → (pairs_from t (suc i) f ≡ p ∷ l → suc i ≤ p.row) → pair_at i o (pairs_from t (suc i) f) ≡ p ∷ l → i ≤ p.row
      go None r q = let h = r q in omega arith
      go (Some c) r q = let h : p ≡ pair_of i c = cc in let k : p.row ≡ i = ap row_of h in omega arith

  -- no more than the rows
  pub few_pairs : (i f : ℕ) → length (pairs_from t i f) ≤ f
  unfolding pairs_from pair_at
  few_pairs i zero = omega arith
  few_pairs i (suc f) = go (column_of i 0 t) (few_pairs (suc i) f)
    where
      go : (o : Option ℕ) → length (pairs_from t (suc i) f) ≤ f → length (pair_at i o (pairs_from t (suc i) f)) ≤ suc f
      go None h = omega arith
      go (Some c) h = omega arith

  -- row i's turn, where it has a pair
  record Hit (i f : ℕ) (x : Pair) (l : List Pair) : Type 0 where
    rest : l ≡ pairs_from t (suc i) f
    mate : mate_of (pairs_from t i (suc f)) i ≡ x.column
    others : (j : ℕ) → i < j → mate_of (pairs_from t i (suc f)) j ≡ mate_of (pairs_from t (suc i) f) j

  hit : (i f : ℕ) (x : Pair) (l : List Pair) → pairs_from t i (suc f) ≡ x ∷ l → x.row ≡ i → Hit i f x l
  unfolding pairs_from pair_at mate_of
  hit i f x l e r = go (column_of i 0 t) refl e
    where
      go : (o : Option ℕ) → column_of i 0 t ≡ o → pair_at i o (pairs_from t (suc i) f) ≡ x ∷ l → Hit i f x l
      go None c q = absurd (omega (arith, first (suc i) f x l q))
      go (Some c) s q =
          let h : x ≡ pair_of i c = cc in
          record {
            rest = cc;
            mate = rw (s, eq-eqb i i refl) (sym (ap column_in h));
            others = λ j k. rw (s, ne_eqb i j (λ w. omega arith));
          }

  -- row i's turn, where it has none
  record Miss (i f : ℕ) : Type 0 where
    rest : pairs_from t i (suc f) ≡ pairs_from t (suc i) f
    mate : mate_of (pairs_from t i (suc f)) i ≡ alone

  miss : (i f : ℕ) → ((c : ℕ) → pairs_from t i (suc f) ≡ pair_of i c ∷ pairs_from t (suc i) f → ⊥) → Miss i f
  unfolding pairs_from pair_at
  miss i f n = go (column_of i 0 t) refl
    where
      go : (o : Option ℕ) → column_of i 0 t ≡ o → Miss i f
      go None s = record { rest = rw s; mate = rw s (late i (suc i) f (omega arith)) }
      go (Some c) s = absurd (n c (rw s))

-- ---- the walk
-- the pairs stand in the front of their array
pub hits_front : (a : List ℕ) (c k i : ℕ) → c ≤ length a → hits (take c a) (length (take c a)) k i ≡ hits a c k i
hits_front a c k i h = ap (λ (n : ℕ). ltb k n && eqb (get_or (take c a) k 0) i) (length-take-le c a h) ∙ go (dec_lt k c)
  where
    go : Dec (k < c) → (ltb k c && eqb (get_or (take c a) k 0) i) ≡ hits a c k i
    go (yes l) = ap (λ (x : ℕ). ltb k c && eqb x i) (get_or-take c a k 0 l)
    go (no n) = rw (le-ltb k c (omega arith))

pub hit_below : (a : List ℕ) (c k i : ℕ) (b : Bool) → b ≡ hits a c k i → b ≡ true → k < c
hit_below a c k i b e q = go (dec_lt k c)
  where
    go : Dec (k < c) → k < c
    go (yes h) = h
    go (no h) = absurd (let z : false ≡ true = rw (le-ltb k c (omega arith)) at (sym e ∙ q) in let w : ◌≡◌ {A = ℕ} 0 1 = cc in omega arith)

hit_row : (a : List ℕ) (c k i : ℕ) → hits a c k i ≡ true → k < c → get_or a k 0 ≡ i
hit_row a c k i q h = eqb-true (get_or a k 0) i (rw (lt-ltb k c h) at q)

held : (f : Pair → ℕ) (l : List Pair) (k : ℕ) (d : Pair) → k < length l → get_or (padded (map f l)) k 0 ≡ f (get_or l k d)
unfolding padded
held f l k d h = get_or-append (map f l) (replicate (64 - length (map f l)) 0) 0 k (rw (length-map l f) h) ∙ map_at f l k d 0 h

-- the rows before i have their mates, and the pairs from k on are those of the others
pub record Walk (t : List (Option ℕ)) (n i k : ℕ) (before mates : List ℕ) : Type 0 where
  pub rest : drop k (pairs_from t 0 n) ≡ pairs_from t i (n - i)
  pub same : (j : ℕ) → i ≤ j → mate_of (pairs_from t 0 n) j ≡ mate_of (pairs_from t i (n - i)) j
  pub is : mates ≡ lay (mates_of (pairs_from t 0 n) i) before

pub walk_start : (t : List (Option ℕ)) (n : ℕ) (before : List ℕ) → Walk t n 0 0 before before
unfolding mates_of lay
walk_start t n before =
    let z : n ≡ n - 0 = omega arith in
    record { rest = ap (pairs_from t 0) z; same = λ j h. ap (λ (f : ℕ). mate_of (pairs_from t 0 f) j) z; is = refl }

pub walk_end : (t : List (Option ℕ)) (n i k : ℕ) (before mates : List ℕ) → i ≡ n → Walk t n i k before mates → mates ≡ lay (mates_of (pairs_from t 0 n) n) before
walk_end t n i k before mates e s = s.is ∙ ap (λ (f : ℕ). lay (mates_of (pairs_from t 0 n) f) before) e

put : (l : List Pair) (i v : ℕ) (before mates : List ℕ) → mates ≡ lay (mates_of l i) before → v ≡ mate_of l i → i < length before → set mates i v ≡ lay (mates_of l (i + 1)) before
put l i v before mates s e h =
    ap (λ (q : List ℕ). set q i v) s
    ∙ ap (λ (z : ℕ). set (lay (mates_of l i) before) z v) (sym (length_mates l i))
    ∙ set_lay (mates_of l i) before v (rw (length_mates l i) h)
    ∙ ap (λ (z : ℕ). lay (mates_of l i ++ (z ∷ [])) before) e
    ∙ ap (λ (q : List ℕ). lay q before) (sym (mates_more l i))

module _ (t : List (Option ℕ)) (n : ℕ) (a b : List ℕ) (c : ℕ) (w : PairsHeld t n a b c) (i k : ℕ) (before mates : List ℕ) (h : i < n) (room : n ≤ length before) (s : Walk t n i k before mates) where
  abbrev none_yet : Pair
  none_yet = pair_of 0 0

  fuel : n - i ≡ suc (n - (i + 1))
  fuel = omega arith

  -- the pairs from row i on
  from : pairs_from t i (suc (n - (i + 1))) ≡ drop k (pairs_from t 0 n)
  from = ap (pairs_from t i) (sym fuel) ∙ sym s.rest

  same_here : (j : ℕ) → i ≤ j → mate_of (pairs_from t 0 n) j ≡ mate_of (pairs_from t i (suc (n - (i + 1)))) j
  same_here j q = s.same j q ∙ ap (λ (f : ℕ). mate_of (pairs_from t i f) j) fuel

  next_row : pairs_from t (suc i) (n - (i + 1)) ≡ pairs_from t (i + 1) (n - (i + 1))
  next_row = ap (λ (z : ℕ). pairs_from t z (n - (i + 1))) (sym (add-one i))

  row_at_lem : k < length (pairs_from t 0 n) → get_or a k 0 ≡ (get_or (pairs_from t 0 n) k none_yet).row
  row_at_lem q = ap (λ (z : List ℕ). get_or z k 0) w.rows_are ∙ held row_of (pairs_from t 0 n) k none_yet q

  pub walk_hit : hits a c k i ≡ true → k < c → Walk t n (i + 1) (k + 1) before (set mates i (get_or b k 0))
  walk_hit e q =
      let q' : k < length (pairs_from t 0 n) = omega (arith, w.count_is) in
      let x = get_or (pairs_from t 0 n) k none_yet in
      let r : x.row ≡ i = sym (row_at_lem q') ∙ hit_row a c k i e q in
      let H = hit t i (n - (i + 1)) x (drop (suc k) (pairs_from t 0 n)) (from ∙ drop-cons (pairs_from t 0 n) k none_yet q') r in
      let v : get_or b k 0 ≡ mate_of (pairs_from t 0 n) i =
      ap (λ (z : List ℕ). get_or z k 0) w.columns_are ∙ held column_in (pairs_from t 0 n) k none_yet q' ∙ sym H.mate ∙ sym (same_here i (omega arith)) in
      record {
        rest = ap (λ (z : ℕ). drop z (pairs_from t 0 n)) (add-one k) ∙ H.rest ∙ next_row;
        same = λ j g. same_here j (omega arith) ∙ H.others j (omega arith) ∙ ap (λ (l : List Pair). mate_of l j) next_row;
        is = put (pairs_from t 0 n) i (get_or b k 0) before mates s.is v (omega arith);
      }

  -- a pair of row i would be the k-th
  no_pair_lem : hits a c k i ≡ false → (j : ℕ) → pairs_from t i (suc (n - (i + 1))) ≡ pair_of i j ∷ pairs_from t (suc i) (n - (i + 1)) → ⊥
  no_pair_lem e j p = go (dec_lt k (length (pairs_from t 0 n)))
    where
      d : drop k (pairs_from t 0 n) ≡ pair_of i j ∷ pairs_from t (suc i) (n - (i + 1))
      d = sym from ∙ p

      go : Dec (k < length (pairs_from t 0 n)) → ⊥
      go (no g) = let y = drop_of_length-le (pairs_from t 0 n) {i = k} (omega arith) in let z : ◌≡◌ {A = ℕ} 0 1 = cc d in omega arith
      go (yes g) =
          let y = drop-cons (pairs_from t 0 n) k none_yet g in
          let x : get_or (pairs_from t 0 n) k none_yet ≡ pair_of i j = cc d in
          let m : get_or a k 0 ≡ i = row_at_lem g ∙ ap row_of x in
          let u : true ≡ false = rw (lt-ltb k c (omega (arith, w.count_is)), eq-eqb (get_or a k 0) i m) at e in
          let z : ◌≡◌ {A = ℕ} 0 1 = cc in omega arith

  pub walk_miss : hits a c k i ≡ false → Walk t n (i + 1) k before (set mates i alone)
  walk_miss e =
      let M = miss t i (n - (i + 1)) (no_pair_lem e) in
      record {
        rest = sym from ∙ M.rest ∙ next_row;
        same = λ j g. same_here j (omega arith) ∙ ap (λ (l : List Pair). mate_of l j) (M.rest ∙ next_row);
        is = put (pairs_from t 0 n) i alone before mates s.is (sym M.mate ∙ sym (same_here i (omega arith))) (omega arith);
      }
