-- What is told of the columns is what the definitions tell of them. Assumes nothing.
use Rattle.std.proofs.lemmas.Option.{slice_get-get_or, slice_get_past}
use Rattle.std.specs.Prelude.{None, Option, Some, slice_get}
use mathlib.Core.Path.{◌≡◌, refl, sym, ap, ◌∙◌, subst}
use mathlib.Core.List.{List, [], ◌∷◌, map}
use Prim.Native.Nat.{ℕ, zero, suc, ◌+◌, ◌*◌, ◌≤◌, ◌<◌}
use native.Mathlib.Nat.{suc-mul, mul-le-mul_right}
use native.Mathlib.Decide.{dec_lt}
use native.Mathlib.Omega.{arith}
use borrow.Author.Tests.{lt-ltb, le-ltb}
use lib.Ieee.{Float, nan}
use lib.ListN.{length, take, drop, get_or, replicate, length-map, length-replicate, get_or-replicate, get_or-append}
use lib.Seq.{ext_get_or, get_or-take, get_or-drop, length-take-le}
use Rattle.number.specs.Reply.{given}
use Rattle.lists.specs.Lay.{lay}
use Rattle.lists.specs.Each.{each}
use Rattle.lists.proofs.Each.{each_entry}
use Rattle.lists.proofs.Laying.{length_lay, get_d_lay}
use Rattle.lists.specs.Masks.{zipped}
use Rattle.kuhn_munkres.specs.Takers.{free, taken_by}
use Rattle.kuhn_munkres.specs.Assignment.{rows_of}
use Rattle.kuhn_munkres.proofs.Labels.{map_at}
use Rattle.kuhn_munkres.proofs.Rows.{rows_at}
use Rattle.assignment.specs.Labelling.{row_or}
use Rattle.assignment.specs.Taking.{takers_of}
use Rattle.detections.specs.declared.Detection.{Detection}
use Rattle.detections.specs.declared.pairs.PairConfig.{PairConfig}
use Rattle.types.specs.declared.track.Track3D.{Track3D}
use Rattle.batches.proofs.Checks.{no_detection}
use Rattle.calls.specs.Pairing.{cost_reply}
use Rattle.calls.specs.Update.{entry_of, match_of, column_for}
use Rattle.pairing.specs.declared.Row.{Row}
use Rattle.pairing.specs.Rows.{Mates, row_of, ids_of, price_reply, row_costs}
use Rattle.pairing.proofs.Rows.{no_row, map_take}
use Rattle.pairing.proofs.Mating.{mate_some, mate_none}
use Rattle.association.specs.declared.Pair.{Pair}
use Rattle.association.specs.Told.{mate_of, alone, pair_for, pair_in, pair_with, pair_of, pair_at, PairsTold, unmatched_of, Listed}
use Rattle.association.proofs.Telling.{mate_taken, mate_free, unmatched_same}

-- ---- lists

zip_at : {A B C : Type 0} (f : A → B → C) (l : List A) (m : List B) (j : ℕ) (a : A) (b : B) (c : C) → j < length l → j < length m → get_or (zipped f l m) j c ≡ f (get_or l j a) (get_or m j b)
unfolding zipped
zip_at f [] m j a b c h g = absurd (omega arith)
zip_at f (x ∷ l) [] j a b c h g = absurd (omega arith)
zip_at f (x ∷ l) (y ∷ m) zero a b c h g = refl
zip_at f (x ∷ l) (y ∷ m) (suc j) a b c h g = zip_at f l m j a b c (omega arith) (omega arith)

pub zip_length : {A B C : Type 0} (f : A → B → C) (l : List A) (m : List B) → length l ≡ length m → length (zipped f l m) ≡ length l
unfolding zipped
zip_length f [] m e = refl
zip_length f (x ∷ l) [] e = absurd (omega arith)
zip_length f (x ∷ l) (y ∷ m) e = ap suc (zip_length f l m (omega arith))

-- ---- what is told of the first places of arrays

module _ (ids : List ℕ) (n m : ℕ) (costs : List Float) (takers : List ℕ) (pairs : List (Option Pair)) (h : n ≤ length ids) (g : m ≤ length takers) where
  id_at : (i j : ℕ) → Dec (i < n) → pair_at (take n ids) n m costs i j ≡ pair_at ids n m costs i j
  id_at i j (yes k) = rw (lt-ltb i n k, get_or-take n ids i 0 k)
  id_at i j (no k) = let w : n ≤ i = omega arith in rw (le-ltb i n w)

  pub told_front : PairsTold (take n ids) (length (take n ids)) (length (take m takers)) costs (take m takers) (length (take m takers)) pairs → PairsTold ids n m costs takers m pairs
  told_front p =
      let s : PairsTold (take n ids) n m costs (take m takers) m pairs =
      subst (λ (k : ℕ). PairsTold (take n ids) k m costs (take m takers) m pairs) (length-take-le n ids h)
      (subst (λ (k : ℕ). PairsTold (take n ids) (length (take n ids)) k costs (take m takers) k pairs) (length-take-le m takers g) p) in
      record {
        long = s.long;
        at = λ j k. s.at j k ∙ ap (λ (i : ℕ). pair_at (take n ids) n m costs i j) (get_or-take m takers j 0 k) ∙ id_at (get_or takers j 0) j (dec_lt (get_or takers j 0) n);
        rest = s.rest;
      }

-- ---- a table and its takers

module _ (rule : PairConfig) (all : List Row) (ids : List ℕ) (seen : List Detection) (n m : ℕ) (st : length all ≡ 64) (numbers : take n ids ≡ take n (ids_of all)) (sd : length seen ≡ 64) (hn : n ≤ 64) (hm : m ≤ 64) where
  abbrev rows : List Row
  rows = take n all

  abbrev ds : List Detection
  ds = take m seen

  rows_long : length rows ≡ n
  rows_long = length-take-le n all (omega arith)

  seen_long : length ds ≡ m
  seen_long = length-take-le m seen (omega arith)

  module _ (takers : List ℕ) (sk : length takers ≡ 64) where
    abbrev t : List (Option ℕ)
    t = takers_of m takers

    takers_long : length t ≡ m
    takers_long = length-map (take m takers) row_or ∙ length-take-le m takers (omega arith)

    taker_at : (j : ℕ) → j < m → get_or t j None ≡ row_or (get_or takers j 0)
    taker_at j h = map_at row_or (take m takers) j 0 None (let q = length-take-le m takers (omega arith) in omega arith) ∙ ap row_or (get_or-take m takers j 0 h)

    -- whether a track took a detection
    free_same : (mates : List ℕ) → Mates t mates → (k : ℕ) → k < 64 → free (mate_of mates [] k) ≡ free (taken_by t ds k)
    unfolding free
    free_same mates s k h = by (dec_lt (get_or mates k 0) 64)
      where
        few : length t ≤ 64
        few = let q = takers_long in omega arith

        by : Dec (get_or mates k 0 < 64) → free (mate_of mates [] k) ≡ free (taken_by t ds k)
        by (yes g) = mate_taken mates [] k g ∙ sym (ap free (mate_some t mates ds s (takers_long ∙ sym seen_long) few k h no_detection g))
        by (no g) = mate_free mates [] k (omega arith) ∙ sym (ap free (mate_none t mates ds s (takers_long ∙ sym seen_long) few k h (omega arith)))

    -- the numbers of the tracks that took none
    pub unmatched_all : (mates left : List ℕ) (count : ℕ) → Mates t mates → Listed (unmatched_of (mate_of mates []) 0 (take n ids)) left count → Listed (unmatched_of (taken_by t ds) 0 (ids_of rows)) left count
    unmatched_all mates left count s l =
        let same : take n ids ≡ ids_of rows = numbers ∙ map_take (λ (r : Row). r.id) n all in
        let few : length (ids_of rows) ≡ n = length-map rows (λ (r : Row). r.id) ∙ rows_long in
        subst (λ (q : List ℕ). Listed q left count)
        (ap (unmatched_of (mate_of mates []) 0) same ∙ unmatched_same (mate_of mates []) (taken_by t ds) 0 (ids_of rows) (λ k h. free_same mates s k (omega arith))) l

    -- ---- the pairs, where the array begins with the table

    module _ (table : List (List Float)) (costs : List Float) (e : row_costs rule rows ds ≡ given table) (cut : rows_of n m (take (n * m) costs) ≡ table) where
      -- the reported cost of a pair is the table's entry, and stands in the array
      cost_entry : (i j : ℕ) → i < n → j < m → entry_of (price_reply rule (get_or rows i no_row).target (get_or ds j no_detection)) ≡ get_or (get_or table i []) j nan
      unfolding row_costs
      cost_entry i j h k =
          ap entry_of
          (each_entry (price_reply rule (get_or rows i no_row).target) ds (get_or table i []) j no_detection nan
          (each_entry (λ r. each (price_reply rule r.target) ds) rows table i no_row [] e (rw rows_long h)) (rw seen_long k))

      entry_at : (i j : ℕ) → i < n → j < m → entry_of (price_reply rule (get_or rows i no_row).target (get_or ds j no_detection)) ≡ get_or costs (i * m + j) nan
      entry_at i j h k =
          let inside : i * m + j < n * m = omega (arith, suc-mul i m, mul-le-mul_right m (let x : i + 1 ≤ n = omega arith in x)) in
          cost_entry i j h k
          ∙ ap (λ (r : List (List Float)). get_or (get_or r i []) j nan) (sym cut)
          ∙ ap (λ (r : List Float). get_or r j nan) (rows_at n m (take (n * m) costs) i h)
          ∙ get_or-take m (drop (i * m) (take (n * m) costs)) j nan k
          ∙ get_or-drop (i * m) (take (n * m) costs) j nan
          ∙ get_or-take (n * m) costs (i * m + j) nan inside

      number_at : (i : ℕ) → i < n → (get_or rows i no_row).id ≡ get_or ids i 0
      number_at i h =
          ap (λ (r : Row). r.id) (get_or-take n all i no_row h)
          ∙ sym (map_at (λ (r : Row). r.id) all i no_row 0 (omega arith))
          ∙ sym (get_or-take n (ids_of all) i 0 h)
          ∙ ap (λ (l : List ℕ). get_or l i 0) (sym numbers)
          ∙ get_or-take n ids i 0 h

      -- what is told of a column is what the definition tells of it
      column_told : (i j : ℕ) → j < m → pair_of rule rows (row_or i) (get_or ds j no_detection) ≡ pair_at ids n m costs i j
      unfolding pair_of
      column_told i j k = by (dec_lt i n) (dec_lt i 64)
        where
          by : Dec (i < n) → Dec (i < 64) → pair_of rule rows (row_or i) (get_or ds j no_detection) ≡ pair_at ids n m costs i j
          by (yes h) (yes g) = rw (lt-ltb i 64 g, lt-ltb i n h, slice_get-get_or rows i no_row (rw rows_long h), entry_at i j h k, number_at i h)
          by (yes h) (no g) = absurd (omega arith)
          by (no h) (yes g) = let w : n ≤ i = omega arith in rw (lt-ltb i 64 g, le-ltb i n w, slice_get_past rows i (rw rows_long w))
          by (no h) (no g) = let w : n ≤ i = omega arith in let v : 64 ≤ i = omega arith in rw (le-ltb i 64 v, le-ltb i n w)

      abbrev told : List (Option Pair)
      told = zipped (pair_of rule rows) t ds

      told_long : length told ≡ m
      told_long = zip_length (pair_of rule rows) t ds (takers_long ∙ sym seen_long) ∙ takers_long

      pub pairs_all : (pairs : List (Option Pair)) → PairsTold ids n m costs takers m pairs → pairs ≡ lay told (replicate 64 alone)
      unfolding lay
      pairs_all pairs s =
          let whole : length (replicate {A = Option Pair} 64 alone) ≡ 64 = length-replicate {A = Option Pair} 64 alone in
          let q = told_long in
          let long : length (lay told (replicate 64 alone)) ≡ 64 = length_lay told (replicate 64 alone) (omega arith) ∙ whole in
          ext_get_or alone pairs (lay told (replicate 64 alone)) (s.long ∙ sym long) (λ j h. at j (rw s.long at h) (dec_lt j m))
        where
          at : (j : ℕ) → j < 64 → Dec (j < m) → get_or pairs j alone ≡ get_or (lay told (replicate 64 alone)) j alone
          at j h (yes k) =
              let q = told_long in
              s.at j k
              ∙ sym (get_or-append told (drop (length told) (replicate 64 alone)) alone j (omega arith)
              ∙ zip_at (pair_of rule rows) t ds j None no_detection alone (rw takers_long k) (rw seen_long k)
              ∙ ap (λ (o : Option ℕ). pair_of rule rows o (get_or ds j no_detection)) (taker_at j k)
              ∙ column_told (get_or takers j 0) j k)
          at j h (no k) = let q = told_long in s.rest j (omega arith) h ∙ sym (get_d_lay told (replicate 64 alone) j alone (omega arith) ∙ get_or-replicate 64 j alone alone h)

-- ---- the rows of tracks

abbrev mapped : {A B : Type 0} → (A → B) → Option A → Option B
mapped g None = None
mapped g (Some x) = Some (g x)

elem_map : {A B : Type 0} (g : A → B) (l : List A) (i : ℕ) → slice_get (map g l) i ≡ mapped g (slice_get l i)
elem_map g [] i = refl
elem_map g (x ∷ l) zero = refl
elem_map g (x ∷ l) (suc i) = elem_map g l i

module _ (rule : PairConfig) (ts : List Track3D) where
  pair_told : (o : Option Track3D) (d : Detection) → pair_with rule (mapped row_of o) d ≡ pair_for (match_of rule o d)
  unfolding match_of price_reply cost_reply
  pair_told None d = refl
  pair_told (Some x) d = refl

  pair_is : (o : Option ℕ) (d : Detection) → pair_of rule (map row_of ts) o d ≡ pair_in (column_for rule ts o d)
  unfolding pair_of column_for
  pair_is None d = refl
  pair_is (Some i) d = ap (λ (r : Option Row). pair_with rule r d) (elem_map row_of ts i) ∙ pair_told (slice_get ts i) d

  -- the pairs are those of the columns of calls
  pub pairs_of_tracks : (t : List (Option ℕ)) (ds : List Detection) → zipped (pair_of rule (map row_of ts)) t ds ≡ map pair_in (zipped (column_for rule ts) t ds)
  unfolding zipped
  pairs_of_tracks [] ds = refl
  pairs_of_tracks (o ∷ t) [] = refl
  pairs_of_tracks (o ∷ t) (d ∷ ds) = rw (pair_is o d, pairs_of_tracks t ds)
