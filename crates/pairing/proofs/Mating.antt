-- The column of each row, from the last column to the first; what a row took by it. Assumes nothing.
use Rattle.std.specs.Prelude.{None, Option, Some}
use mathlib.Core.Path.{◌≡◌, refl, sym, ap, ◌∙◌}
use mathlib.Core.Bool.{Bool, true, false, cond}
use mathlib.Core.List.{List, [], ◌∷◌, map}
use Prim.Native.Nat.{ℕ, suc, ◌+◌, ◌≤◌, ◌<◌}
use native.Mathlib.Decide.{ℕ_discrete}
use native.Mathlib.Omega.{arith}
use borrow.Author.Tests.{lt-ltb, le-ltb, eq-eqb, ne_eqb}
use lib.ListN.{length, take, drop, get_or, set, replicate, length-set, get_or-replicate, length-replicate, drop_of_length-le}
use lib.Seq.{drop-cons, length-take-le, get_or-take, get_or-set_same, get_or-set_other}
use Rattle.kuhn_munkres.specs.Groups.{is_label}
use Rattle.kuhn_munkres.specs.Assignment.{column_of}
use Rattle.kuhn_munkres.specs.Takers.{taken_by}
use Rattle.kuhn_munkres.proofs.Takers.{taken_some, taken_none}
use Rattle.assignment.specs.Labelling.{row_or}
use Rattle.pairing.specs.Rows.{column_or, Mates}

module _ (takers : List ℕ) (m : ℕ) where
  -- the columns from j on are done
  pub record Mating (j : ℕ) (mates : List ℕ) : Type 0 where
    pub long : length mates ≡ 64
    pub at : (i : ℕ) → i < 64 → get_or mates i 0 ≡ column_or (column_of i j (map row_or (drop j (take m takers))))

  pub mating_none : (mates : List ℕ) → m ≤ length takers → mates ≡ replicate 64 64 → Mating m mates
  mating_none mates w e = record { long = ap length e ∙ length-replicate {A = ℕ} 64 64; at = λ i h. ap (λ (l : List ℕ). get_or l i 0) e ∙ get_or-replicate 64 i 64 0 h ∙ sym (none_yet i) }
    where
      none_yet : (i : ℕ) → column_or (column_of i m (map row_or (drop m (take m takers)))) ≡ 64
      none_yet i = let q = length-take-le m takers w in rw (drop_of_length-le (take m takers) {i = m} (omega arith)) (unfold column_of in refl)

  module _ (j : ℕ) (mates : List ℕ) (h : j < m) (w : m ≤ length takers) (s : Mating (suc j) mates) where
    abbrev rest : List (Option ℕ)
    rest = map row_or (drop (suc j) (take m takers))

    one : (o : Option ℕ) → row_or (get_or takers j 0) ≡ o → (i : ℕ) → column_of i j (map row_or (drop j (take m takers))) ≡ column_of i j (o ∷ rest)
    one o e i = let q = length-take-le m takers w in rw (drop-cons (take m takers) j 0 (omega arith), get_or-take m takers j 0 h, e)

    past : (i : ℕ) → column_of i j (None ∷ rest) ≡ column_of i (suc j) rest
    unfolding column_of is_label
    past i = refl

    pub mating_skip : 64 ≤ get_or takers j 0 → Mating j mates
    mating_skip g = record { long = s.long; at = λ i l. s.at i l ∙ ap column_or (sym (one None (rw (le-ltb (get_or takers j 0) 64 g)) i ∙ past i)) }

    pub mating_take : get_or takers j 0 < 64 → Mating j (set mates (get_or takers j 0) j)
    unfolding column_of is_label
    mating_take g =
        record {
          long = length-set mates (get_or takers j 0) j ∙ s.long;
          at = λ i l. at i l (ℕ_discrete i (get_or takers j 0)) ∙ ap column_or (sym (one (Some (get_or takers j 0)) (rw (lt-ltb (get_or takers j 0) 64 g)) i));
        }
      where
        at : (i : ℕ) → i < 64 → Dec (i ≡ get_or takers j 0) → get_or (set mates (get_or takers j 0) j) i 0 ≡ column_or (column_of i j (Some (get_or takers j 0) ∷ rest))
        at i l (yes q) = rw (eq-eqb i (get_or takers j 0) q) (ap (λ (x : ℕ). get_or (set mates (get_or takers j 0) j) x 0) q ∙ get_or-set_same mates (get_or takers j 0) j 0 (rw s.long g))
        at i l (no n) = rw (ne_eqb i (get_or takers j 0) n) (get_or-set_other mates (get_or takers j 0) i j 0 n ∙ s.at i l)

-- ---- the column of a row and what the row took

-- a column that is found is one of the list's
column_in_lem : (i k j : ℕ) (t : List (Option ℕ)) → column_of i k t ≡ Some j → j < k + length t
unfolding column_of
column_in_lem i k j [] e = absurd (let z : ◌≡◌ {A = ℕ} 0 1 = cc in omega arith)
column_in_lem i k j (o ∷ t) e = go (is_label i o) e (column_in_lem i (suc k) j t)
  where
    go : (b : Bool) → cond b (Some k) (column_of i (suc k) t) ≡ Some j → (column_of i (suc k) t ≡ Some j → j < suc k + length t) → j < k + suc (length t)
    go true e f = let same : k ≡ j = cc in omega arith
    go false e f = let g = f e in omega (arith, g)

module _ {A : Type 0} (t : List (Option ℕ)) (mates : List ℕ) (l : List A) (s : Mates t mates) (long : length t ≡ length l) (few : length t ≤ 64) (i : ℕ) (h : i < 64) where
  -- a mate below 64 is the column that the row took
  pub mate_some : (a : A) → get_or mates i 0 < 64 → taken_by t l i ≡ Some (get_or l (get_or mates i 0) a)
  mate_some a g = go (column_of i 0 t) refl
    where
      go : (o : Option ℕ) → column_of i 0 t ≡ o → taken_by t l i ≡ Some (get_or l (get_or mates i 0) a)
      go None e = absurd (let q : get_or mates i 0 ≡ 64 = s.at i h ∙ ap column_or e in omega arith)
      go (Some j) e = let q : get_or mates i 0 ≡ j = s.at i h ∙ ap column_or e in rw q (taken_some t l i j a long e)

  pub mate_none : 64 ≤ get_or mates i 0 → taken_by t l i ≡ None
  mate_none g = go (column_of i 0 t) refl
    where
      go : (o : Option ℕ) → column_of i 0 t ≡ o → taken_by t l i ≡ None
      go None e = taken_none t l i e
      go (Some j) e = absurd (let q : get_or mates i 0 ≡ j = s.at i h ∙ ap column_or e in let r = column_in_lem i 0 j t e in omega arith)

  -- and it is one of the columns
  pub mate_in : get_or mates i 0 < 64 → get_or mates i 0 < length l
  mate_in g = go (column_of i 0 t) refl
    where
      go : (o : Option ℕ) → column_of i 0 t ≡ o → get_or mates i 0 < length l
      go None e = absurd (let q : get_or mates i 0 ≡ 64 = s.at i h ∙ ap column_or e in omega arith)
      go (Some j) e = let q : get_or mates i 0 ≡ j = s.at i h ∙ ap column_or e in let r = column_in_lem i 0 j t e in omega arith
