-- Where no row takes two columns, each row and each column stands once in the pairs and lists, and the lists ascend.
use Rattle.std.specs.Prelude.{None, Option, Some}
use mathlib.Core.Path.{◌≡◌, refl, sym, ap, ◌∙◌}
use mathlib.Core.Logic.{◌⊎◌, inl, inr}
use mathlib.Core.Bool.{Bool, cond}
use mathlib.Core.List.{List, [], ◌∷◌, map}
use Prim.Native.Nat.{ℕ, zero, suc, ◌+◌, ◌-◌, ◌≤◌, ◌<◌}
use native.Mathlib.Decide.{ℕ_discrete, dec_lt}
use native.Mathlib.Omega.{arith}
use borrow.Author.Tests.{eq-eqb, ne_eqb, lt-ltb, le-ltb}
use lib.Dec.{eqb, ltb}
use lib.ListN.{get_or, length}
use Rattle.kuhn_munkres.specs.Assignment.{column_of, pair_at, free_at, pairs_from, free_rows, free_columns, pairs_of}
use Rattle.kuhn_munkres.proofs.Labels.{none_some, some_in}
use Rattle.kuhn_munkres.proofs.Columns.{column_takes, column_is}
use Rattle.assignment.specs.Listing.{row_of, column_in, times, Ascending, Once}

-- ---- ascending lists
ascend_less : (l : List ℕ) (k k' : ℕ) → k ≤ k' → Ascending k' l → Ascending k l
unfolding Ascending
ascend_less [] k k' h a = tt
ascend_less (x ∷ l) k k' h a = (let b = a.0 in omega arith, a.1)

rows_ascend : (t : List (Option ℕ)) (n i : ℕ) → Ascending i (map row_of (pairs_from t i n))
unfolding Ascending pairs_from
rows_ascend t zero i = tt
rows_ascend t (suc n) i = go (column_of i 0 t) (rows_ascend t n (suc i))
  where
    go : (o : Option ℕ) → Ascending (suc i) (map row_of (pairs_from t (suc i) n)) → Ascending i (map row_of (pair_at i o (pairs_from t (suc i) n)))
    go None h = unfold pair_at in ascend_less (map row_of (pairs_from t (suc i) n)) i (suc i) (omega arith) h
    go (Some j) h = unfold pair_at Ascending in (omega arith, h)

free_ascend : (t : List (Option ℕ)) (n i : ℕ) → Ascending i (free_rows t i n)
unfolding Ascending free_rows
free_ascend t zero i = tt
free_ascend t (suc n) i = go (column_of i 0 t) (free_ascend t n (suc i))
  where
    go : (o : Option ℕ) → Ascending (suc i) (free_rows t (suc i) n) → Ascending i (free_at i o (free_rows t (suc i) n))
    go None h = unfold free_at Ascending in (omega arith, h)
    go (Some j) h = unfold free_at in ascend_less (free_rows t (suc i) n) i (suc i) (omega arith) h

columns_ascend : (t : List (Option ℕ)) (k : ℕ) → Ascending k (free_columns k t)
unfolding Ascending free_columns
columns_ascend [] k = tt
columns_ascend (o ∷ t) k = go o (columns_ascend t (suc k))
  where
    go : (o : Option ℕ) → Ascending (suc k) (free_columns (suc k) t) → Ascending k (free_at k o (free_columns (suc k) t))
    go None h = unfold free_at Ascending in (omega arith, h)
    go (Some j) h = unfold free_at in ascend_less (free_columns (suc k) t) k (suc k) (omega arith) h

-- ---- one number of a range
hit : ℕ → ℕ → ℕ
hit x y = cond (eqb x y) 1 0

hit_same : (x : ℕ) → hit x x ≡ 1
unfolding hit
hit_same x = rw (eq-eqb x x refl)

hit_other : (x y : ℕ) → (x ≡ y → ⊥) → hit x y ≡ 0
unfolding hit
hit_other x y n = rw (ne_eqb x y n)

-- ---- rows: each is in the pairs or left
module _ (t : List (Option ℕ)) (x : ℕ) where
  pub total : ℕ → ℕ → ℕ
  total n i = times x (map row_of (pairs_from t i n)) + times x (free_rows t i n)

  total_next : (n i : ℕ) → total (suc n) i ≡ hit x i + total n (suc i)
  unfolding total pairs_from free_rows
  total_next n i = go (column_of i 0 t)
    where
      go : (o : Option ℕ) → times x (map row_of (pair_at i o (pairs_from t (suc i) n))) + times x (free_at i o (free_rows t (suc i) n)) ≡ hit x i + (times x (map row_of (pairs_from t (suc i) n)) + times x (free_rows t (suc i) n))
      go None = unfold pair_at free_at times hit in omega arith
      go (Some j) = unfold pair_at free_at times hit in omega arith

  total_none : (n i : ℕ) → (x < i) ⊎ (i + n ≤ x) → total n i ≡ 0
  unfolding total pairs_from free_rows times
  total_none zero i h = omega arith
  total_none (suc n) i h = total_next n i ∙ go h (total_none n (suc i))
    where
      go : (x < i) ⊎ (i + suc n ≤ x) → ((x < suc i) ⊎ (suc i + n ≤ x) → total n (suc i) ≡ 0) → hit x i + total n (suc i) ≡ 0
      go (inl l) ih = let a = ih (inl (omega arith)) in let b = hit_other x i (λ e. omega arith) in omega arith
      go (inr l) ih = let a = ih (inr (omega arith)) in let b = hit_other x i (λ e. omega arith) in omega arith

  total_one : (n i : ℕ) → i ≤ x → x < i + n → total n i ≡ 1
  total_one zero i h l = absurd (omega arith)
  total_one (suc n) i h l = total_next n i ∙ go (ℕ_discrete x i) (total_one n (suc i))
    where
      go : Dec (x ≡ i) → (suc i ≤ x → x < suc i + n → total n (suc i) ≡ 1) → hit x i + total n (suc i) ≡ 1
      go (yes e) ih = let a = total_none n (suc i) (inl (omega arith)) in let b : hit x i ≡ 1 = rw e (hit_same i) in omega arith
      go (no g) ih = let a = ih (omega arith) (omega arith) in let b = hit_other x i g in omega arith

  rows_total : (n : ℕ) → times x (map row_of (pairs_from t 0 n)) + times x (free_rows t 0 n) ≡ cond (ltb x n) 1 0
  unfolding total
  rows_total n = go (dec_lt x n)
    where
      go : Dec (x < n) → times x (map row_of (pairs_from t 0 n)) + times x (free_rows t 0 n) ≡ cond (ltb x n) 1 0
      go (yes h) = total_one n 0 (omega arith) (omega arith) ∙ sym (ap (λ (b : Bool). cond b 1 0) (lt-ltb x n h))
      go (no h) = total_none n 0 (inr (omega arith)) ∙ sym (ap (λ (b : Bool). cond b 1 0) (le-ltb x n (omega arith)))

-- ---- columns
module _ (t : List (Option ℕ)) (n : ℕ) (low : (j i : ℕ) → get_or t j None ≡ Some i → i < n) (inj : (j k i : ℕ) → get_or t j None ≡ Some i → get_or t k None ≡ Some i → j ≡ k) where
  module _ (j : ℕ) where
    pairs_none : (k i : ℕ) → ((r : ℕ) → i ≤ r → column_of r 0 t ≡ Some j → ⊥) → times j (map column_in (pairs_from t i k)) ≡ 0
    unfolding times pairs_from
    pairs_none zero i f = refl
    pairs_none (suc k) i f = go (column_of i 0 t) refl (pairs_none k (suc i) (λ r h. f r (omega arith)))
      where
        go : (o : Option ℕ) → column_of i 0 t ≡ o → times j (map column_in (pairs_from t (suc i) k)) ≡ 0 → times j (map column_in (pair_at i (column_of i 0 t) (pairs_from t (suc i) k))) ≡ 0
        go None e ih = rw e (unfold pair_at in ih)
        go (Some c) e ih = rw e (unfold pair_at times hit in (let b = hit_other j c (λ w. f i (omega arith) (e ∙ ap Some (sym w))) in omega arith))

    pairs_one : (k i r : ℕ) → i ≤ r → r < i + k → column_of r 0 t ≡ Some j → times j (map column_in (pairs_from t i k)) ≡ 1
    unfolding times pairs_from
    pairs_one zero i r h l e = absurd (omega arith)
    pairs_one (suc k) i r h l e = go (ℕ_discrete i r) (column_of i 0 t) refl (λ a b. pairs_one k (suc i) r a b e)
      where
        only : (q : ℕ) → column_of q 0 t ≡ Some j → q ≡ r
        only q w = let z : Some q ≡ Some r = sym (column_takes t q j w) ∙ column_takes t r j e in cc

        go : Dec (i ≡ r) → (o : Option ℕ) → column_of i 0 t ≡ o → (suc i ≤ r → r < suc i + k → times j (map column_in (pairs_from t (suc i) k)) ≡ 1) → times j (map column_in (pair_at i (column_of i 0 t) (pairs_from t (suc i) k))) ≡ 1
        go (yes q) o w ih =
            let z : column_of i 0 t ≡ Some j = rw q e in
            rw z (unfold pair_at times hit in (let a = pairs_none k (suc i) (λ y g v. later y g (only y v) q) in let b = hit_same j in omega arith))
          where
            later : (y : ℕ) → suc i ≤ y → y ≡ r → i ≡ r → ⊥
            later y g v q = omega arith
        go (no q) None w ih = rw w (unfold pair_at in ih (omega arith) (omega arith))
        go (no q) (Some c) w ih = rw w (unfold pair_at times hit in (let a = ih (omega arith) (omega arith) in let b = hit_other j c (λ v. q (only i (w ∙ ap Some (sym v)))) in omega arith))

  -- ---- the columns that are left
  free_below : (j : ℕ) (l : List (Option ℕ)) (k : ℕ) → j < k → times j (free_columns k l) ≡ 0
  unfolding times free_columns
  free_below j [] k h = refl
  free_below j (o ∷ l) k h = go o (free_below j l (suc k) (omega arith))
    where
      go : (p : Option ℕ) → times j (free_columns (suc k) l) ≡ 0 → times j (free_at k p (free_columns (suc k) l)) ≡ 0
      go None ih = unfold free_at times hit in (let b = hit_other j k (λ e. omega arith) in omega arith)
      go (Some i) ih = unfold free_at in ih

  free_at_lem : (j : ℕ) (l : List (Option ℕ)) (k : ℕ) → k ≤ j → j < k + length l → (get_or l (j - k) None ≡ None → times j (free_columns k l) ≡ 1) × ((i : ℕ) → get_or l (j - k) None ≡ Some i → times j (free_columns k l) ≡ 0)
  unfolding times free_columns
  free_at_lem j [] k h g = absurd (omega arith)
  free_at_lem j (o ∷ l) k h g = go (ℕ_discrete j k) (λ a b. free_at_lem j l (suc k) a b)
    where
      here : (p : Option ℕ) → j ≡ k → (p ≡ None → times j (free_at k p (free_columns (suc k) l)) ≡ 1) × ((i : ℕ) → p ≡ Some i → times j (free_at k p (free_columns (suc k) l)) ≡ 0)
      here None e = (λ q. (unfold free_at times hit in (let a = free_below j l (suc k) (omega arith) in let b : hit j k ≡ 1 = (rw e (hit_same k)) in omega arith)), λ i q. none_some q)
      here (Some x) e = (λ q. none_some (sym q), λ i q. unfold free_at in free_below j l (suc k) (omega arith))

      skip : (p : Option ℕ) → (j ≡ k → ⊥) → times j (free_at k p (free_columns (suc k) l)) ≡ times j (free_columns (suc k) l)
      skip None f = unfold free_at times hit in (let b = hit_other j k f in omega arith)
      skip (Some x) f = unfold free_at in refl

      go : Dec (j ≡ k) → (suc k ≤ j → j < suc k + length l → (get_or l (j - suc k) None ≡ None → times j (free_columns (suc k) l) ≡ 1) × ((i : ℕ) → get_or l (j - suc k) None ≡ Some i → times j (free_columns (suc k) l) ≡ 0))
          → (get_or (o ∷ l) (j - k) None ≡ None → times j (free_at k o (free_columns (suc k) l)) ≡ 1) × ((i : ℕ) → get_or (o ∷ l) (j - k) None ≡ Some i → times j (free_at k o (free_columns (suc k) l)) ≡ 0)
      go (yes e) ih = let v : j - k ≡ 0 = omega arith in rw v (here o e)
      go (no f) ih = let v : j - k ≡ suc (j - suc k) = omega arith in let r = ih (omega arith) (omega arith) in rw v (λ q. skip o f ∙ r.0 q, λ i q. skip o f ∙ r.1 i q)

  free_above : (j : ℕ) (l : List (Option ℕ)) (k : ℕ) → k + length l ≤ j → times j (free_columns k l) ≡ 0
  unfolding times free_columns
  free_above j [] k h = refl
  free_above j (o ∷ l) k h = go o (free_above j l (suc k) (omega arith))
    where
      go : (p : Option ℕ) → times j (free_columns (suc k) l) ≡ 0 → times j (free_at k p (free_columns (suc k) l)) ≡ 0
      go None ih = unfold free_at times hit in (let b = hit_other j k (λ e. omega arith) in omega arith)
      go (Some i) ih = unfold free_at in ih

  columns_total : (j : ℕ) → times j (map column_in (pairs_from t 0 n)) + times j (free_columns 0 t) ≡ cond (ltb j (length t)) 1 0
  columns_total j = go (dec_lt j (length t)) (get_or t j None) refl
    where
      z : j - 0 ≡ j
      z = omega arith

      go : Dec (j < length t) → (o : Option ℕ) → get_or t j None ≡ o → times j (map column_in (pairs_from t 0 n)) + times j (free_columns 0 t) ≡ cond (ltb j (length t)) 1 0
      go (yes h) None e =
          let a = pairs_none j n 0 (λ r q w. none_some (sym e ∙ column_takes t r j w)) in
          let b = (free_at_lem j t 0 (omega arith) (omega arith)).0 (rw z e) in
          rw (lt-ltb j (length t) h) (omega arith)
      go (yes h) (Some i) e =
          let a = pairs_one j n 0 i (omega arith) (let q = low j i e in omega arith) (column_is t inj i j e) in
          let b = (free_at_lem j t 0 (omega arith) (omega arith)).1 i (rw z e) in
          rw (lt-ltb j (length t) h) (omega arith)
      go (no h) o e =
          let a = pairs_none j n 0 (λ r q w. let b = some_in t j r (column_takes t r j w) in omega arith) in
          let b = free_above j t 0 (omega arith) in
          rw (le-ltb j (length t) (let c : length t ≤ j = omega arith in c)) (omega arith)

  pub each_once : (m : ℕ) → length t ≡ m → Once n m (pairs_of n t)
  unfolding pairs_of
  each_once m e = record {
    rows_once = λ i. rows_total t i n;
    columns_once = λ j. columns_total j ∙ ap (λ (k : ℕ). cond (ltb j k) 1 0) e;
    pairs_ascend = rows_ascend t n 0;
    rows_ascend = free_ascend t n 0;
    columns_ascend = columns_ascend t 0;
  }
