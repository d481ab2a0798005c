-- The mates that are written tell the pairs that they were made of.
use Rattle.std.specs.Prelude.{None, Option, Some}
use mathlib.Core.Path.{◌≡◌, refl, sym, ap, ◌∙◌}
use mathlib.Core.List.{List, [], ◌∷◌, ◌++◌}
use mathlib.Core.Bool.{Bool, true, false, cond}
use Prim.Native.Nat.{ℕ, zero, suc, ◌+◌, ◌≤◌, ◌<◌}
use native.Mathlib.Decide.{ℕ_discrete}
use native.Mathlib.Omega.{arith}
use borrow.Author.Tests.{eq-eqb, ne_eqb}
use lib.Dec.{eqb}
use lib.ListN.{length}
use Rattle.kuhn_munkres.specs.Groups.{is_label}
use Rattle.kuhn_munkres.specs.Assignment.{Pair, column_of, pair_at, pairs_from}
use Rattle.assignment.specs.Listing.{pair_of}
use Rattle.c_solvers.specs.Mates.{alone, mate_of, mates_of, pairs_told}
use Rattle.c_solvers.proofs.Walks.{length_mates, late}

-- ---- one row more
told_last_lem : (i : ℕ) (l : List ℕ) (c : ℕ) → pairs_told i (l ++ (c ∷ [])) ≡ pairs_told i l ++ pairs_told (i + length l) (c ∷ [])
unfolding pairs_told
told_last_lem i [] c = ap (λ (k : ℕ). pairs_told k (c ∷ [])) (omega arith)
told_last_lem i (b ∷ l) c =
    let e : suc i + length l ≡ i + suc (length l) = omega arith in
    go (eqb b alone) (told_last_lem (suc i) l c ∙ ap (λ (k : ℕ). pairs_told (suc i) l ++ pairs_told k (c ∷ [])) e)
  where
    go : (x : Bool) → pairs_told (suc i) (l ++ (c ∷ [])) ≡ pairs_told (suc i) l ++ pairs_told (i + suc (length l)) (c ∷ []) →
        cond x (pairs_told (suc i) (l ++ (c ∷ []))) (pair_of i b ∷ pairs_told (suc i) (l ++ (c ∷ []))) ≡ cond x (pairs_told (suc i) l) (pair_of i b ∷ pairs_told (suc i) l) ++ pairs_told (i + suc (length l)) (c ∷ [])
    go true q = q
    go false q = ap (λ (r : List Pair). pair_of i b ∷ r) q

module _ (t : List (Option ℕ)) where
  from_last : (i n : ℕ) → pairs_from t i (suc n) ≡ pairs_from t i n ++ pair_at (i + n) (column_of (i + n) 0 t) []
  unfolding pairs_from pair_at
  from_last i zero = ap (λ (k : ℕ). pair_at k (column_of k 0 t) []) (omega arith)
  from_last i (suc n) =
      let e : suc i + n ≡ i + suc n = omega arith in
      go (column_of i 0 t) (from_last (suc i) n ∙ ap (λ (k : ℕ). pairs_from t (suc i) n ++ pair_at k (column_of k 0 t) []) e)
    where
      go : (o : Option ℕ) → pairs_from t (suc i) (suc n) ≡ pairs_from t (suc i) n ++ pair_at (i + suc n) (column_of (i + suc n) 0 t) [] →
          pair_at i o (pairs_from t (suc i) (suc n)) ≡ pair_at i o (pairs_from t (suc i) n) ++ pair_at (i + suc n) (column_of (i + suc n) 0 t) []
      go None q = q
      go (Some c) q = ap (λ (r : List Pair). pair_of i c ∷ r) q

  -- ---- a row's mate is the column that it takes
  abbrev or_alone : Option ℕ → ℕ
  or_alone None = alone
  or_alone (Some c) = c

  -- row j's turn: it is row i, or row i is a later one
  mate_here : (i j f : ℕ) → j ≡ i → (o : Option ℕ) → o ≡ column_of i 0 t → mate_of (pair_at j o (pairs_from t (suc j) f)) i ≡ or_alone (column_of i 0 t)
  unfolding mate_of pair_at
  mate_here i j f e None q = late t i (suc j) f (omega arith) ∙ ap or_alone q
  mate_here i j f e (Some c) q = rw (eq-eqb j i e) (ap or_alone q)

  mate_later : (i j f : ℕ) → (j ≡ i → ⊥) → (o : Option ℕ) → mate_of (pairs_from t (suc j) f) i ≡ or_alone (column_of i 0 t) → mate_of (pair_at j o (pairs_from t (suc j) f)) i ≡ or_alone (column_of i 0 t)
  unfolding mate_of pair_at
  mate_later i j f d None q = q
  mate_later i j f d (Some c) q = rw (ne_eqb j i d) q

  mate_is : (i j f : ℕ) → j ≤ i → i < j + f → mate_of (pairs_from t j f) i ≡ or_alone (column_of i 0 t)
  unfolding pairs_from
  mate_is i j zero h g = absurd (omega arith)
  mate_is i j (suc f) h g = go (ℕ_discrete j i) (λ l. mate_is i (suc j) f l (omega arith))
    where
      go : Dec (j ≡ i) → (suc j ≤ i → mate_of (pairs_from t (suc j) f) i ≡ or_alone (column_of i 0 t)) → mate_of (pair_at j (column_of j 0 t) (pairs_from t (suc j) f)) i ≡ or_alone (column_of i 0 t)
      go (yes e) r = mate_here i j f e (column_of j 0 t) (ap (λ (k : ℕ). column_of k 0 t) e)
      go (no d) r = mate_later i j f d (column_of j 0 t) (r (omega arith))

column_below : (t : List (Option ℕ)) (i k c : ℕ) → column_of i k t ≡ Some c → c < k + length t
unfolding column_of
column_below [] i k c e = absurd (let z : ◌≡◌ {A = ℕ} 0 1 = cc in omega arith)
column_below (o ∷ t) i k c e = go (is_label i o) (column_below t i (suc k) c) e
  where
    go : (x : Bool) → (column_of i (suc k) t ≡ Some c → c < suc k + length t) → cond x (Some k) (column_of i (suc k) t) ≡ Some c → c < k + suc (length t)
    go true r q = let z : k ≡ c = cc in omega arith
    go false r q = let h = r q in omega arith

module _ (t : List (Option ℕ)) (few : length t ≤ 64) where
  told_one : (i : ℕ) → pairs_told i (or_alone t (column_of i 0 t) ∷ []) ≡ pair_at i (column_of i 0 t) []
  unfolding pairs_told pair_at
  told_one i = go (column_of i 0 t) refl
    where
      go : (o : Option ℕ) → column_of i 0 t ≡ o → pairs_told i (or_alone t o ∷ []) ≡ pair_at i o []
      go None e = refl
      go (Some c) e = let h = column_below t i 0 c e in rw (ne_eqb c alone (λ q. omega arith))

  pub told_mates : (n k : ℕ) → k ≤ n → pairs_told 0 (mates_of (pairs_from t 0 n) k) ≡ pairs_from t 0 k
  unfolding mates_of pairs_from pairs_told
  told_mates n zero h = refl
  told_mates n (suc k) h =
      let l = mates_of (pairs_from t 0 n) k in
      told_last_lem 0 l (mate_of (pairs_from t 0 n) k)
      ∙ ap (λ (r : List Pair). r ++ pairs_told (0 + length l) (mate_of (pairs_from t 0 n) k ∷ [])) (told_mates n k (omega arith))
      ∙ ap (λ (i : ℕ). pairs_from t 0 k ++ pairs_told (0 + i) (mate_of (pairs_from t 0 n) k ∷ [])) (length_mates (pairs_from t 0 n) k)
      ∙ ap (λ (c : ℕ). pairs_from t 0 k ++ pairs_told (0 + k) (c ∷ [])) (mate_is t k 0 n (omega arith) (omega arith))
      ∙ ap (λ (i : ℕ). pairs_from t 0 k ++ pairs_told i (or_alone t (column_of k 0 t) ∷ [])) (omega arith)
      ∙ ap (λ (r : List Pair). pairs_from t 0 k ++ r) (told_one k)
      ∙ ap (λ (i : ℕ). pairs_from t 0 k ++ pair_at i (column_of i 0 t) []) (omega arith)
      ∙ sym (from_last t 0 k)
