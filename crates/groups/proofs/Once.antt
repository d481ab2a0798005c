-- No row is taken by two columns, for every table: so each row and each column stands in exactly one pair or one list.
use Rattle.std.specs.Prelude.{None, Option, Some}
use mathlib.Core.Path.{◌≡◌, refl, sym, ap, ◌∙◌, subst}
use mathlib.Core.Logic.{◌⊎◌, inl, inr}
use mathlib.Core.Bool.{Bool, true, false, cond, true≢false}
use mathlib.Core.List.{List, [], ◌∷◌, map}
use Prim.Native.Nat.{ℕ, zero, suc, ◌+◌, ◌*◌, ◌≤◌, ◌<◌}
use native.Mathlib.Omega.{arith}
use lib.ListN.{get_or, length, take, drop, length-map, length-drop, length-replicate, replicate}
use lib.Seq.{get_or-take, get_or-drop, length-take-le}
use lib.Ieee.{Float}
use Rattle.number.specs.Float.{larger_of}
use Rattle.number.specs.Reply.{Reply, given}
use Rattle.number.proofs.Replies.{given_same, bound}
use Rattle.kuhn_munkres.specs.Binary64.{float}
use Rattle.kuhn_munkres.specs.Square.{Square, entry}
use Rattle.kuhn_munkres.specs.Steps.{State, Search, found, stopped, spent, rows}
use Rattle.lists.specs.First.{any}
use Rattle.lists.specs.Masks.{spread, up_from}
use Rattle.lists.proofs.Masks.{spread_long}
use Rattle.kuhn_munkres.specs.Assignment.{rows_of, taker_of, takers_in, solved, square_of, named, group_in, groups, same, pairing, sentinel_of, largest_of}
use Rattle.kuhn_munkres.proofs.Kept.{AllFound, rows_long}
use Rattle.kuhn_munkres.proofs.Matched.{Matched, rows_matched}
use Rattle.kuhn_munkres.proofs.Top.{top_stays}
use Rattle.kuhn_munkres.proofs.Labels.{map_at, none_some, some_same, some_in, nones_at}
use Rattle.kuhn_munkres.proofs.Columns.{taker_is}
use Rattle.groups.specs.Picks.{ticks}
use Rattle.groups.specs.Group.{table_of, labels_of, column_mask, row_mask, column_in, row_in, width, height, row_at, own_table, own_rows}
use Rattle.groups.specs.Solvers.{own_reply}
use Rattle.groups.proofs.Picking.{Place, picked_place, ticks_le, ticks_below, ticks_inj}
use Rattle.groups.proofs.Masks.{spread_at}
use Rattle.groups.proofs.Group.{columns_long, column_label, label_column, row_label, some_row, rows_are, table_long, table_wide}

-- ---- a group's own takers
pub record Good (r c : ℕ) (own : List (Option ℕ)) : Type 0 where
  pub long : length own ≡ c
  pub low : (j x : ℕ) → get_or own j None ≡ Some x → x < r
  pub inj : (j k x : ℕ) → get_or own j None ≡ Some x → get_or own k None ≡ Some x → j ≡ k

-- a solver whose every answer is such
abbrev pub Fair : (List (List Float) → Reply (List (Option ℕ))) → Type 0
Fair dense = (T : List (List Float)) (r c : ℕ) → r ≤ 64 → c ≤ 64 → length T ≡ r → length (get_or T 0 []) ≡ c → (own : List (Option ℕ)) → dense T ≡ given own → Good r c own

module _ (q : Square Float) (few : q.rows + q.cols < 129) where
  abbrev n' : ℕ
  n' = q.rows + q.cols

  abbrev X : Search Float
  X = rows float (entry float q) n' n'

  good_found : (own : List (Option ℕ)) (x : Search Float) → AllFound float (Matched float refl top_stays (entry float q) n' n') x → AllFound float (λ (y : State Float). length y.p ≡ 129) x → takers_in q x ≡ given own → Good q.rows q.cols own
  unfolding takers_in AllFound
  good_found own stopped M L e = absurd (let z : ◌≡◌ {A = ℕ} 0 1 = cc in omega arith)
  good_found own spent M L e = absurd (let z : ◌≡◌ {A = ℕ} 0 1 = cc in omega arith)
  good_found own (found s) M L e = rw (← w) (record { long = front_long; low = λ j x h. (at j x h).1; inj = λ j k x h g. pair j k x (at j x h).0 (at k x g).0 (in_c j x h) (in_c k x g) })
    where
      f : List (Option ℕ)
      f = map (taker_of q.rows) (take q.cols (drop 1 s.p))

      w : f ≡ own
      w = cc

      short : length (take q.cols (drop 1 s.p)) ≡ q.cols
      short = length-take-le q.cols (drop 1 s.p) (rw (length-drop 1 s.p, L) (omega arith))

      front_long : length f ≡ q.cols
      front_long = length-map (take q.cols (drop 1 s.p)) (taker_of q.rows) ∙ short

      in_c : (j x : ℕ) → get_or f j None ≡ Some x → j < q.cols
      in_c j x h = rw front_long at (some_in f j x h)

      at : (j x : ℕ) → get_or f j None ≡ Some x → (get_or s.p (j + 1) 0 ≡ suc x) × (x < q.rows)
      at j x h =
          let l = in_c j x h in
          let z : 1 + j ≡ j + 1 = omega arith in
          let v : get_or f j None ≡ taker_of q.rows (get_or s.p (j + 1) 0) = map_at (taker_of q.rows) (take q.cols (drop 1 s.p)) j 0 None (rw short l) ∙ ap (taker_of q.rows) (get_or-take q.cols (drop 1 s.p) j 0 l ∙ get_or-drop 1 s.p j 0 ∙ ap (λ (i : ℕ). get_or s.p i 0) z) in
          taker_is q.rows (get_or s.p (j + 1) 0) x (sym v ∙ h)

      pair : (j k x : ℕ) → get_or s.p (j + 1) 0 ≡ suc x → get_or s.p (k + 1) 0 ≡ suc x → j < q.cols → k < q.cols → j ≡ k
      pair j k x a b hj hk = let v : j + 1 ≡ k + 1 = M.one (j + 1) (k + 1) (omega arith) (omega arith) (omega arith) (omega arith) (λ z. some_row (sym a ∙ z)) (a ∙ sym b) in omega arith
        where
          some_row : suc x ≡ 0 → ⊥
          some_row z = omega arith

  good : (own : List (Option ℕ)) → solved float q ≡ given own → Good q.rows q.cols own
  unfolding solved
  good own e = good_found own X (rows_matched float refl top_stays (entry float q) n' few n' (omega arith)) (rows_long float (entry float q) n' n') e

own_fair : (far rowCost columnCost : Float) → Fair (own_reply far rowCost columnCost)
own_fair far rowCost columnCost T r c hr hc long wide own e =
    let w : (square_of far rowCost columnCost T).rows + (square_of far rowCost columnCost T).cols < 129 = rw (long, wide) (omega arith) in
    subst (λ (x : ℕ). Good x c own) long (subst (λ (y : ℕ). Good (length T) y own) wide (good (square_of far rowCost columnCost T) w own e))

-- ---- group after group
-- a taker is of its column's own group, and takes no other column
pub record Sound (costs : List Float) (n m : ℕ) (t : List (Option ℕ)) : Type 0 where
  pub long : length t ≡ m
  pub low : (j i : ℕ) → get_or t j None ≡ Some i → i < n
  pub own : (j i : ℕ) → get_or t j None ≡ Some i → get_or (labels_of costs n m).of_columns j None ≡ Some (get_or (labels_of costs n m).of_rows i 0)
  pub inj : (j k i : ℕ) → get_or t j None ≡ Some i → get_or t k None ≡ Some i → j ≡ k

-- the group's takers, put at its columns
abbrev pub put : List Float → ℕ → ℕ → ℕ → List (Option ℕ) → List (Option ℕ) → List (Option ℕ)
put costs n m g t own = spread (column_mask costs n m g) (map (named (own_rows costs n m g)) own) t

module _ (costs : List Float) (n m : ℕ) (size : length costs ≡ n * m) (g : ℕ) (t own : List (Option ℕ)) (S : Sound costs n m t) (G : Good (height costs n m g) (width costs n m g) own) where
  abbrev C : ℕ → Bool
  C = column_in costs n m g

  abbrev B : ℕ → Bool
  B = row_in costs n m g

  abbrev t' : List (Option ℕ)
  t' = put costs n m g t own

  mask_long : length (column_mask costs n m g) ≡ length t
  mask_long = columns_long costs n m size g ∙ sym S.long

  long' : length t' ≡ m
  long' = spread_long (column_mask costs n m g) (map (named (own_rows costs n m g)) own) t mask_long ∙ S.long

  pub put_at : (j : ℕ) → j < m → get_or t' j None ≡ cond (C j) (named (own_rows costs n m g) (get_or own (ticks C j) None)) (get_or t j None)
  put_at j h = spread_at None (column_mask costs n m g) (map (named (own_rows costs n m g)) own) t j mask_long (rw S.long h) (rw (length-map own (named (own_rows costs n m g)), G.long, columns_long costs n m size g) (omega arith)) ∙ by (C j) refl
    where
      by : (b : Bool) → C j ≡ b → cond b (get_or (map (named (own_rows costs n m g)) own) (ticks C j) None) (get_or t j None) ≡ cond b (named (own_rows costs n m g) (get_or own (ticks C j) None)) (get_or t j None)
      by true e = map_at (named (own_rows costs n m g)) own (ticks C j) None None (rw G.long (ticks_below C j m h e))
      by false e = refl

  -- from the group's own takers, or as it was
  pub record In (j i : ℕ) : Type 0 where
    pub on : C j ≡ true
    pub x : ℕ
    pub taker : get_or own (ticks C j) None ≡ Some x
    pub is : row_at costs n m g x ≡ i
    pub row : i < n
    pub label : get_or (labels_of costs n m).of_rows i 0 ≡ g
    pub place : ticks B i ≡ x

  named_some : (o : Option ℕ) (i : ℕ) → named (own_rows costs n m g) o ≡ Some i → (x : ℕ) × (o ≡ Some x) × (get_or (own_rows costs n m g) x 0 ≡ i)
  unfolding named
  named_some None i e = none_some e
  named_some (Some x) i e = (x, refl, some_same e)

  pub from : (j i : ℕ) → j < m → get_or t' j None ≡ Some i → In j i ⊎ ((C j ≡ false) × (get_or t j None ≡ Some i))
  from j i h e = go (C j) refl (sym (put_at j h) ∙ e)
    where
      go : (b : Bool) → C j ≡ b → cond (C j) (named (own_rows costs n m g) (get_or own (ticks C j) None)) (get_or t j None) ≡ Some i → In j i ⊎ ((C j ≡ false) × (get_or t j None ≡ Some i))
      go false q w = inr (q, rw q at w)
      go true q w =
          let u = named_some (get_or own (ticks C j) None) i (rw q at w) in
          let y : u.0 < height costs n m g = G.low (ticks C j) u.0 u.1 in
          let z : row_at costs n m g u.0 ≡ i = ap (λ (k : List ℕ). get_or k u.0 0) (sym (rows_are costs n m size g)) ∙ u.2 in
          let p : Place B n u.0 i = subst (λ (k : ℕ). Place B n u.0 k) z (picked_place B n u.0 y) in
          inl (record { on = q; x = u.0; taker = u.1; is = z; row = p.below; label = row_label costs n m size g i p.below p.on; place = p.at })

  in-m : (j i : ℕ) → get_or t' j None ≡ Some i → j < m
  in-m j i e = rw long' at (some_in t' j i e)

  clash : (j k i : ℕ) → k < m → In j i → C k ≡ false → get_or t k None ≡ Some i → ⊥
  clash j k i h p f e = true≢false (sym (label_column costs n m size g k h (S.own k i e ∙ ap Some p.label)) ∙ f)

  pub group_sound : Sound costs n m t'
  group_sound = record {
    long = long';
    low = λ j i e. elim (from j i (in-m j i e) e) [ inl p ↦ p.row | inr p ↦ S.low j i p.1 ];
    own = λ j i e. elim (from j i (in-m j i e) e) [ inl p ↦ column_label costs n m size g j (in-m j i e) p.on ∙ ap Some (sym p.label) | inr p ↦ S.own j i p.1 ];
    inj = λ j k i e f. two j k i (in-m j i e) (in-m k i f) (from j i (in-m j i e) e) (from k i (in-m k i f) f);
  }
    where
      two : (j k i : ℕ) → j < m → k < m → In j i ⊎ ((C j ≡ false) × (get_or t j None ≡ Some i)) → In k i ⊎ ((C k ≡ false) × (get_or t k None ≡ Some i)) → j ≡ k
      two j k i hj hk (inl p) (inl q) = ticks_inj C j k p.on q.on (G.inj (ticks C j) (ticks C k) p.x p.taker (q.taker ∙ ap Some (sym q.place ∙ p.place)))
      two j k i hj hk (inl p) (inr q) = absurd (clash j k i hk p q.0 q.1)
      two j k i hj hk (inr p) (inl q) = absurd (clash k j i hj q p.0 p.1)
      two j k i hj hk (inr p) (inr q) = S.inj j k i p.1 q.1

module _ (costs : List Float) (n m : ℕ) (hn : n ≤ 64) (hm : m ≤ 64) (size : length costs ≡ n * m) (dense : List (List Float) → Reply (List (Option ℕ))) (fair : Fair dense) where
  abbrev R : List (List Float)
  R = table_of costs n m

  step_sound : (g : ℕ) (b : Bool) (t u : List (Option ℕ)) → any same (column_mask costs n m g) ≡ b → Sound costs n m t → group_in dense b R (up_from zero R) (row_mask costs n m g) (column_mask costs n m g) t ≡ given u → Sound costs n m u
  unfolding group_in
  step_sound g false t u e S q = subst (Sound costs n m) (given_same t u q) S
  step_sound g true t u e S q =
      let p = bound (dense (own_table costs n m g)) _ u q in
      let few : height costs n m g ≤ 64 = let b = ticks_le (row_in costs n m g) n in omega arith in
      let narrow : width costs n m g ≤ 64 = let b = ticks_le (column_in costs n m g) m in omega arith in
      let G : Good (height costs n m g) (width costs n m g) p.0 = fair (own_table costs n m g) _ _ few narrow (table_long costs n m size g) (table_wide costs n m size g 0 (some_row costs n m size g e)) p.0 p.1 in
      subst (Sound costs n m) (given_same _ u p.2) (group_sound costs n m size g t p.0 S G)

  groups_sound : (gs : List ℕ) (t u : List (Option ℕ)) → Sound costs n m t → groups dense R (labels_of costs n m) gs t ≡ given u → Sound costs n m u
  unfolding groups
  groups_sound [] t u S e = subst (Sound costs n m) (given_same t u e) S
  groups_sound (g ∷ gs) t u S e =
      let p = bound (group_in dense (any same (column_mask costs n m g)) R (up_from zero R) (row_mask costs n m g) (column_mask costs n m g) t) _ u e in
      groups_sound gs p.0 u (step_sound g (any same (column_mask costs n m g)) t p.0 refl S p.1) p.2

pub none_sound : (costs : List Float) (n m : ℕ) → Sound costs n m (replicate m None)
none_sound costs n m = record { long = length-replicate m None; low = λ j i e. none_some (sym (nones_at m j) ∙ e); own = λ j i e. none_some (sym (nones_at m j) ∙ e); inj = λ j k i e f. none_some (sym (nones_at m j) ∙ e) }

-- the whole table
pub pairing_sound : (costs : List Float) (n m : ℕ) → n ≤ 64 → m ≤ 64 → length costs ≡ n * m → (rowCost columnCost : Float) (t : List (Option ℕ)) → pairing rowCost columnCost (rows_of n m costs) m ≡ given t → Sound costs n m t
unfolding pairing
pairing_sound costs n m hn hm size rowCost columnCost t e =
    let far = sentinel_of (largest_of (larger_of rowCost columnCost) (rows_of n m costs)) in
    groups_sound costs n m hn hm size (own_reply far rowCost columnCost) (own_fair far rowCost columnCost) (up_from zero (rows_of n m costs)) (replicate m None) t (none_sound costs n m) e
