-- A far column, which may pair with no row, changes nothing in the pairing: it is taken by no row, and without it the others are taken as before.
use Rattle.std.specs.Prelude.{None, Option}
use mathlib.Core.Path.{◌≡◌, refl, sym, ap, ◌∙◌, subst}
use mathlib.Core.List.{List, [], ◌∷◌, map}
use mathlib.Core.Bool.{Bool, true, false, cond}
use Prim.Native.Nat.{ℕ, zero, suc}
use lib.ListN.{length, replicate}
use lib.Dec.{eqb}
use lib.Ieee.{Float}
use lib.Ieee.Scale.{finite}
use Rattle.number.specs.Float.{larger_of}
use Rattle.number.specs.Reply.{Reply, given, and_then}
use Rattle.number.proofs.Replies.{given_same, bound, then_given}
use Rattle.lists.specs.First.{any}
use Rattle.lists.specs.Masks.{left_by, spread, Struck, Absent, Every, count, up_from, zipped}
use Rattle.lists.proofs.Masks.{Out, map_left, map_map, zipped_left, up_from_map, clear_left, clear_any, spread_left, none_left}
use Rattle.kuhn_munkres.specs.Binary64.{float}
use Rattle.kuhn_munkres.specs.Groups.{Labels, relabelled, hit, hits, joined_to, join, joins, labels, is_label}
use Rattle.kuhn_munkres.specs.Assignment.{largest, largest_of, sentinel_of, solved, square_of, named, same, group_in, groups, pairing}

-- ---- masks of labels
label_out : (g : ℕ) (k : List Bool) (cols : List (Option ℕ)) → Struck Absent k cols → Struck Out k (map (is_label g) cols)
unfolding Struck
label_out g [] [] h = tt
label_out g [] (o ∷ cols) h = absurd h
label_out g (c ∷ k) [] h = absurd h
label_out g (true ∷ k) (o ∷ cols) h = label_out g k cols h
label_out g (false ∷ k) (o ∷ cols) h = (rw h.0 (unfold is_label in refl), label_out g k cols h.1)

-- ---- the largest cost
-- a cost that forbids the pair
abbrev pub NoCost : Float → Type 0
NoCost x = finite x ≡ false

largest_left : (k : List Bool) (m : Float) (row : List Float) → Struck NoCost k row → largest m (left_by k row) ≡ largest m row
unfolding left_by Struck largest
largest_left [] m [] h = refl
largest_left [] m (x ∷ row) h = absurd h
largest_left (c ∷ k) m [] h = absurd h
largest_left (true ∷ k) m (x ∷ row) h = largest_left k _ row h
largest_left (false ∷ k) m (x ∷ row) h = largest_left k m row h.1 ∙ ap (λ (b : Bool). largest (cond b (larger_of m x) m) row) (sym h.0)

largest_of_left : (k : List Bool) (m : Float) (rows : List (List Float)) → Every (Struck NoCost k) rows → largest_of m (map (left_by k) rows) ≡ largest_of m rows
unfolding Every largest_of
largest_of_left k m [] h = refl
largest_of_left k m (r ∷ rows) h = largest_of_left k (largest m (left_by k r)) rows h.1 ∙ ap (λ (x : Float). largest_of x rows) (largest_left k m r h.0)

-- ---- the groups
hits_left : (k : List Bool) (row : List Float) (cols : List (Option ℕ)) → Struck NoCost k row → Struck Absent k cols → hits finite (left_by k row) (left_by k cols) ≡ hits finite row cols
unfolding left_by Struck hits hit
hits_left [] [] cols h g = refl
hits_left [] (x ∷ row) cols h g = absurd h
hits_left (c ∷ k) [] cols h g = absurd h
hits_left (c ∷ k) (x ∷ row) [] h g = absurd g
hits_left (true ∷ k) (x ∷ row) (o ∷ cols) h g = ap (hit (finite x) o) (hits_left k row cols h g)
hits_left (false ∷ k) (x ∷ row) (o ∷ cols) h g = rw h.0 (hits_left k row cols h.1 g.1)

joined_absent : (hs : List ℕ) (i : ℕ) (k : List Bool) (row : List Float) (cols : List (Option ℕ)) → Struck NoCost k row → Struck Absent k cols → Struck Absent k (zipped (joined_to finite hs i) row cols)
unfolding Struck zipped
joined_absent hs i [] [] cols h g = tt
joined_absent hs i [] (x ∷ row) cols h g = absurd h
joined_absent hs i (c ∷ k) [] cols h g = absurd h
joined_absent hs i (c ∷ k) (x ∷ row) [] h g = absurd g
joined_absent hs i (true ∷ k) (x ∷ row) (o ∷ cols) h g = joined_absent hs i k row cols h g
joined_absent hs i (false ∷ k) (x ∷ row) (o ∷ cols) h g = (unfold joined_to relabelled in rw (h.0, g.0), joined_absent hs i k row cols h.1 g.1)

struck_labels : List Bool → Labels → Labels
struck_labels k s = record { of_rows = s.of_rows; of_columns = left_by k s.of_columns }

joins_left : (k : List Bool) (i : ℕ) (rows : List (List Float)) (s : Labels) → Every (Struck NoCost k) rows → Struck Absent k s.of_columns
    → (joins finite i (map (left_by k) rows) (struck_labels k s) ≡ struck_labels k (joins finite i rows s)) × Struck Absent k (joins finite i rows s).of_columns
unfolding Every joins
joins_left k i [] s h g = (refl, g)
joins_left k i (r ∷ rows) s h g =
    let t = join finite i r s in
    let e : join finite i (left_by k r) (struck_labels k s) ≡ struck_labels k t = (unfold join struck_labels in
    rw (hits_left k r s.of_columns h.0 g, zipped_left (joined_to finite (hits finite r s.of_columns) i) k r s.of_columns)) in
    let q = joins_left k (suc i) rows t h.1 (unfold join in joined_absent _ i k r s.of_columns h.0 g) in
    (ap (joins finite (suc i) (map (left_by k) rows)) e ∙ q.0, q.1)

-- a group's own table is the same table
own_table_lem : (k cm : List Bool) → Struck Out k cm → (rows : List (List Float)) → map (left_by (left_by k cm)) (map (left_by k) rows) ≡ map (left_by cm) rows
own_table_lem k cm h rows = map_map (left_by k) (left_by (left_by k cm)) (left_by cm) (λ r. clear_left k cm r h) rows

module _ (dense : List (List Float) → Reply (List (Option ℕ))) (k : List Bool) (rows : List (List Float)) where
  group_in_left : (b : Bool) (names : List ℕ) (rm cm : List Bool) (t u : List (Option ℕ)) → Struck Out k cm → Struck Absent k t → group_in dense b rows names rm cm t ≡ given u
      → (group_in dense b (map (left_by k) rows) names rm (left_by k cm) (left_by k t) ≡ given (left_by k u)) × Struck Absent k u
  unfolding group_in
  group_in_left false names rm cm t u h g e = rw (← given_same t u e) (refl, g)
  group_in_left true names rm cm t u h g e =
      let p = bound (dense (map (left_by cm) (left_by rm rows))) _ u e in
      let r = spread_left k cm (map (named (left_by rm names)) p.0) t h g in
      let tables : map (left_by (left_by k cm)) (left_by rm (map (left_by k) rows)) ≡ map (left_by cm) (left_by rm rows) = rw (← map_left (left_by k) rm rows) (own_table_lem k cm h (left_by rm rows)) in
      subst (λ (v : List (Option ℕ)). (and_then (dense (map (left_by (left_by k cm)) (left_by rm (map (left_by k) rows)))) (λ own. given (spread (left_by k cm) (map (named (left_by rm names)) own) (left_by k t))) ≡ given (left_by k v)) × Struck Absent k v)
      (given_same _ u p.2) (then_given (dense (map (left_by (left_by k cm)) (left_by rm (map (left_by k) rows)))) _ p.0 (rw tables p.1) ∙ ap {B = Reply (List (Option ℕ))} given (sym r.0), r.1)

  groups_left : (s : Labels) (gs : List ℕ) (t u : List (Option ℕ)) → Struck Absent k s.of_columns → Struck Absent k t → groups dense rows s gs t ≡ given u
      → (groups dense (map (left_by k) rows) (struck_labels k s) gs (left_by k t) ≡ given (left_by k u)) × Struck Absent k u
  unfolding groups struck_labels
  groups_left s [] t u h g e = rw (← given_same t u e) (refl, g)
  groups_left s (l ∷ gs) t u h g e =
      let cm = map (is_label l) s.of_columns in
      let out = label_out l k s.of_columns h in
      let p = bound (group_in dense (any same cm) rows (up_from zero rows) (map (eqb l) s.of_rows) cm t) _ u e in
      let q = group_in_left (any same cm) (up_from zero rows) (map (eqb l) s.of_rows) cm t p.0 out g p.1 in
      let r = groups_left s gs p.0 u h q.1 p.2 in
      (rw (map_left (is_label l) k s.of_columns, clear_any k cm out, up_from_map (left_by k) zero rows) (then_given _ _ (left_by k p.0) q.0 ∙ r.0), r.1)

-- the law: the struck columns may pair with no row
pub far_columns : (rowCost columnCost : Float) (k : List Bool) (rows : List (List Float)) (takers : List (Option ℕ)) → Every (Struck NoCost k) rows → pairing rowCost columnCost rows (length k) ≡ given takers
    → (pairing rowCost columnCost (map (left_by k) rows) (count k) ≡ given (left_by k takers)) × Struck Absent k takers
unfolding pairing labels struck_labels
far_columns rowCost columnCost k rows takers h e =
    let n = none_left k in
    let s : Labels = record { of_rows = []; of_columns = replicate (length k) None } in
    let j = joins_left k zero rows s h n.1 in
    let far = sentinel_of (largest_of (larger_of rowCost columnCost) rows) in
    let r = groups_left (λ table. solved float (square_of far rowCost columnCost table)) k rows (joins finite zero rows s) (up_from zero rows) (replicate (length k) None) takers j.1 n.1 e in
    (rw (largest_of_left k (larger_of rowCost columnCost) rows h, up_from_map (left_by k) zero rows, ← n.0) (rw (← j.0) at r.0), r.1)
