-- Laws of takers by column: what a row took, under a mask too, and the takers of two pairings together. Assumes nothing.
use Rattle.std.specs.Prelude.{None, Option, Some}
use mathlib.Core.Path.{◌≡◌, refl, sym, ap, ◌∙◌}
use mathlib.Core.List.{List, [], ◌∷◌, map}
use mathlib.Core.Bool.{Bool, true, false, cond}
use Prim.Native.Nat.{ℕ, suc, ◌-◌, ◌≤◌}
use native.Mathlib.Omega.{arith}
use lib.Dec.{eqb}
use lib.ListN.{length, get_or}
use Rattle.lists.specs.Masks.{left_by, Struck, Absent}
use Rattle.lists.proofs.Masks.{left_nil}
use Rattle.kuhn_munkres.specs.Groups.{is_label}
use Rattle.kuhn_munkres.specs.Assignment.{named, column_of}
use Rattle.kuhn_munkres.specs.Takers.{free, taken_by, both_takers}
use Rattle.kuhn_munkres.proofs.Labels.{none_some}

-- ---- what row i took is what stands in its column

module _ {A : Type 0} where
  -- the column that row i takes, counted from k, and what stands there
  record Takes (t : List (Option ℕ)) (l : List A) (i k j : ℕ) (a : A) : Type 0 where
    from : k ≤ j
    is : taken_by t l i ≡ Some (get_or l (j - k) a)

  takes : (t : List (Option ℕ)) (l : List A) (i k j : ℕ) (a : A) → length t ≡ length l → column_of i k t ≡ Some j → Takes t l i k j a
  unfolding column_of taken_by is_label
  takes [] l i k j a w e = none_some e
  takes (o ∷ t) [] i k j a w e = absurd (omega arith)
  takes (None ∷ t) (x ∷ l) i k j a w e =
      let h = takes t l i (suc k) j a (omega arith) e in
      let z : j - k ≡ suc (j - suc k) = omega (arith, h.from) in
      record { from = omega (arith, h.from); is = rw z h.is }
  takes (Some r ∷ t) (x ∷ l) i k j a w e = go (eqb i r) refl (takes t l i (suc k) j a (omega arith)) e
    where
      go : (b : Bool) → eqb i r ≡ b → (column_of i (suc k) t ≡ Some j → Takes t l i (suc k) j a) → cond b (Some k) (column_of i (suc k) t) ≡ Some j → Takes (Some r ∷ t) (x ∷ l) i k j a
      go true q f e = let same : k ≡ j = cc in let z : j - k ≡ 0 = omega arith in record { from = omega arith; is = rw (q, taken_by, z) }
      go false q f e =
          let h = f e in
          let z : j - k ≡ suc (j - suc k) = omega (arith, h.from) in
          record { from = omega (arith, h.from); is = rw (q, taken_by, z) h.is }

  pub taken_some : (t : List (Option ℕ)) (l : List A) (i j : ℕ) (a : A) → length t ≡ length l → column_of i 0 t ≡ Some j → taken_by t l i ≡ Some (get_or l j a)
  taken_some t l i j a w e = let z : j - 0 ≡ j = omega arith in rw z at (takes t l i 0 j a w e).is

  taken_none_from : (t : List (Option ℕ)) (l : List A) (i k : ℕ) → column_of i k t ≡ None → taken_by t l i ≡ None
  unfolding column_of taken_by is_label
  taken_none_from [] l i k e = refl
  taken_none_from (o ∷ t) [] i k e = refl
  taken_none_from (None ∷ t) (x ∷ l) i k e = taken_none_from t l i (suc k) e
  taken_none_from (Some r ∷ t) (x ∷ l) i k e = go (eqb i r) refl (taken_none_from t l i (suc k)) e
    where
      go : (b : Bool) → eqb i r ≡ b → (column_of i (suc k) t ≡ None → taken_by t l i ≡ None) → cond b (Some k) (column_of i (suc k) t) ≡ None → taken_by (Some r ∷ t) (x ∷ l) i ≡ None
      go true q f e = none_some (sym e)
      go false q f e = rw (q, taken_by) (f e)

  pub taken_none : (t : List (Option ℕ)) (l : List A) (i : ℕ) → column_of i 0 t ≡ None → taken_by t l i ≡ None
  taken_none t l i e = taken_none_from t l i 0 e

  -- ---- columns that no row takes may be struck

  taken_nil : (l : List (Option ℕ)) (i : ℕ) → taken_by {A = A} l [] i ≡ None
  unfolding taken_by
  taken_nil [] i = refl
  taken_nil (o ∷ l) i = refl

  pub taken_left : (k : List Bool) (l : List (Option ℕ)) (ds : List A) (i : ℕ) → Struck Absent k l → taken_by (left_by k l) (left_by k ds) i ≡ taken_by l ds i
  unfolding taken_by left_by Struck
  taken_left [] [] ds i h = refl
  taken_left [] (o ∷ l) ds i h = absurd h
  taken_left (b ∷ k) [] ds i h = absurd h
  taken_left (b ∷ k) (o ∷ l) [] i h = taken_nil (left_by (b ∷ k) (o ∷ l)) i
  taken_left (true ∷ k) (None ∷ l) (d ∷ ds) i h = taken_left k l ds i h
  taken_left (true ∷ k) (Some r ∷ l) (d ∷ ds) i h = go (eqb i r) refl (taken_left k l ds i h)
    where
      go : (b : Bool) → eqb i r ≡ b → taken_by (left_by k l) (left_by k ds) i ≡ taken_by l ds i → taken_by (Some r ∷ left_by k l) (d ∷ left_by k ds) i ≡ taken_by (Some r ∷ l) (d ∷ ds) i
      go true e q = rw (e, taken_by)
      go false e q = rw (e, taken_by) q
  taken_left (false ∷ k) (None ∷ l) (d ∷ ds) i h = taken_left k l ds i h.1
  taken_left (false ∷ k) (Some r ∷ l) (d ∷ ds) i h = none_some (sym h.0)

-- ---- rows by other names

pub free_named : (labels : List ℕ) (o : Option ℕ) → free (named labels o) ≡ free o
unfolding free named
free_named labels None = refl
free_named labels (Some i) = refl

pub struck_named : (labels : List ℕ) (k : List Bool) (l : List (Option ℕ)) → Struck Absent k l → Struck Absent k (map (named labels) l)
unfolding Struck
struck_named labels [] [] h = tt
struck_named labels [] (o ∷ l) h = absurd h
struck_named labels (b ∷ k) [] h = absurd h
struck_named labels (true ∷ k) (o ∷ l) h = struck_named labels k l h
struck_named labels (false ∷ k) (o ∷ l) h = (rw h.0 (unfold named in refl), struck_named labels k l h.1)

-- ---- two pairings together

pub both_left : (k : List Bool) (a l : List (Option ℕ)) → Struck Absent k a → left_by k (both_takers a l) ≡ both_takers (left_by k a) (left_by (left_by (map free a) k) l)
unfolding left_by both_takers Struck free
both_left [] [] l h = refl
both_left [] (o ∷ a) l h = absurd h
both_left (b ∷ k) [] l h = absurd h
both_left (true ∷ k) (Some i ∷ a) l h = ap {B = List (Option ℕ)} (λ r. Some i ∷ r) (both_left k a l h)
both_left (false ∷ k) (Some i ∷ a) l h = none_some (sym h.0)
both_left (true ∷ k) (None ∷ a) [] h = ap {B = List (Option ℕ)} (λ r. None ∷ r) (both_left k a [] h ∙ ap (both_takers (left_by k a)) (left_nil (left_by (map free a) k)))
both_left (false ∷ k) (None ∷ a) [] h = both_left k a [] h.1 ∙ ap (both_takers (left_by k a)) (left_nil (left_by (map free a) k))
both_left (true ∷ k) (None ∷ a) (o ∷ l) h = ap {B = List (Option ℕ)} (λ r. o ∷ r) (both_left k a l h)
both_left (false ∷ k) (None ∷ a) (o ∷ l) h = both_left k a l h.1

pub struck_both : (k : List Bool) (a l : List (Option ℕ)) → Struck Absent k a → Struck Absent (left_by (map free a) k) l → Struck Absent k (both_takers a l)
unfolding left_by both_takers Struck free
struck_both [] [] l h g = tt
struck_both [] (o ∷ a) l h g = absurd h
struck_both (b ∷ k) [] l h g = absurd h
struck_both (true ∷ k) (Some i ∷ a) l h g = struck_both k a l h g
struck_both (false ∷ k) (Some i ∷ a) l h g = none_some (sym h.0)
struck_both (b ∷ k) (None ∷ a) [] h g = absurd g
struck_both (true ∷ k) (None ∷ a) (o ∷ l) h g = struck_both k a l h g
struck_both (false ∷ k) (None ∷ a) (o ∷ l) h g = (g.0, struck_both k a l h.1 g.1)
