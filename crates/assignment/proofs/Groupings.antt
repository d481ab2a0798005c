-- The definition's masks and lists of a group, as the code's passes have them.
use Rattle.std.specs.Prelude.{None, Option, Some}
use mathlib.Core.Path.{◌≡◌, refl, sym, ap, ◌∙◌, subst}
use mathlib.Core.Bool.{Bool, true, false, cond}
use mathlib.Core.List.{List, map}
use Prim.Native.Nat.{ℕ, zero, suc, ◌+◌, ◌*◌, ◌≤◌, ◌<◌}
use native.Mathlib.Decide.{ℕ_discrete, dec_lt}
use native.Mathlib.Omega.{arith}
use borrow.Author.Tests.{eq-eqb, ne_eqb, eqb-true, lt-ltb, le-ltb}
use lib.Dec.{eqb, ltb}
use lib.ListN.{get_or, length, take, drop, length-map, length-drop}
use lib.Seq.{get_or-take, get_or-drop, ext_get_or, length-take-le}
use lib.Ieee.{Float, nan}
use lib.Ieee.Scale.{finite}
use Rattle.lists.specs.First.{any}
use Rattle.lists.specs.Masks.{left_by, spread, up_from}
use Rattle.lists.proofs.Masks.{spread_long}
use Rattle.kuhn_munkres.specs.Groups.{Labels, labels, is_label}
use Rattle.kuhn_munkres.specs.Assignment.{rows_of, taker_of, named, same}
use Rattle.kuhn_munkres.proofs.Labels.{Named, map_at}
use Rattle.groups.specs.Picks.{picked, ticks}
use Rattle.groups.specs.Group.{table_of, labels_of, column_mask, row_mask, own_table, own_rows}
use Rattle.groups.proofs.Picking.{picked_long, picked_same, picked_all, ticks_le, ticks_same, ticks_some, ticks_below, some_tick}
use Rattle.groups.proofs.Group.{labelled, columns_long, rows_are, own_table_is}
use Rattle.groups.proofs.Masks.{any_none, any_some, spread_at}
use Rattle.assignment.specs.Labelling.{row_or, NamedBy}
use Rattle.assignment.specs.Picks.{bears, group_table}
use Rattle.assignment.specs.Taking.{taker_number, takers_of, Taken}

eqb_sym : (a b : ℕ) → eqb a b ≡ eqb b a
eqb_sym a b = go (ℕ_discrete a b)
  where
    go : Dec (a ≡ b) → eqb a b ≡ eqb b a
    go (yes e) = eq-eqb a b e ∙ sym (eq-eqb b a (sym e))
    go (no n) = ne_eqb a b n ∙ sym (ne_eqb b a (λ e. n (sym e)))

-- a name as the code holds it
pub label_bears : (g x : ℕ) → g < 64 → is_label g (row_or x) ≡ eqb x g
unfolding is_label
label_bears g x h = go (dec_lt x 64)
  where
    go : Dec (x < 64) → is_label g (row_or x) ≡ eqb x g
    go (yes l) = ap (λ (b : Bool). is_label g (cond b (Some x) None)) (lt-ltb x 64 l) ∙ eqb_sym g x
    go (no l) = ap (λ (b : Bool). is_label g (cond b (Some x) None)) (le-ltb x 64 (omega arith)) ∙ sym (ne_eqb x g (λ e. omega arith))

module _ (costs : List Float) (n m : ℕ) (rowNames columnNames : List ℕ) (hn : n ≤ 64) (hm : m ≤ 64) (size : length costs ≡ n * m) (nb : NamedBy (labels finite (rows_of n m costs) m) n m rowNames columnNames)
    (g : ℕ) (hg : g < n) where
  abbrev R : List (List Float)
  R = table_of costs n m

  abbrev s : Labels
  s = labels_of costs n m

  abbrev pub cm : List Bool
  cm = column_mask costs n m g

  abbrev pub rm : List Bool
  rm = row_mask costs n m g

  N : Named finite nan refl n m s
  N = labelled costs n m size

  pub cm_long : length cm ≡ m
  cm_long = columns_long costs n m size g

  row_name_lem : (i : ℕ) → i < n → get_or s.of_rows i 0 ≡ get_or rowNames i 0
  row_name_lem i h = ap (λ (l : List ℕ). get_or l i 0) (sym nb.of_rows_lem) ∙ get_or-take n rowNames i 0 h

  long_cols : length (take m columnNames) ≡ m
  long_cols = sym (length-map (take m columnNames) row_or) ∙ ap length nb.of_columns_lem ∙ N.cols_long

  pub col_name : (j : ℕ) → j < m → get_or s.of_columns j None ≡ row_or (get_or columnNames j 0)
  col_name j h = ap (λ (l : List (Option ℕ)). get_or l j None) (sym nb.of_columns_lem) ∙ map_at row_or (take m columnNames) j 0 None (rw long_cols h) ∙ ap row_or (get_or-take m columnNames j 0 h)

  pub cm_at : (j : ℕ) → j < m → get_or cm j false ≡ bears columnNames g j
  cm_at j h = map_at (is_label g) s.of_columns j None false (rw N.cols_long h) ∙ ap (is_label g) (col_name j h) ∙ label_bears g (get_or columnNames j 0) (omega arith)

  rm_at : (i : ℕ) → i < n → get_or rm i false ≡ bears rowNames g i
  rm_at i h = map_at (eqb g) s.of_rows i 0 false (rw N.rows_long h) ∙ ap (eqb g) (row_name_lem i h) ∙ eqb_sym g (get_or rowNames i 0)

  -- the group's own table, and its rows
  pub table_is : own_table costs n m g ≡ group_table costs m rowNames columnNames g n
  table_is = own_table_is costs n m size g ∙ picked_same _ _ _ _ n rm_at (λ i h. picked_same _ _ _ _ m cm_at (λ j l. refl))

  pub members_is : own_rows costs n m g ≡ picked (bears rowNames g) (λ i. i) n
  members_is = rows_are costs n m size g ∙ picked_same _ _ _ _ n rm_at (λ i h. refl)

  -- a group whose name its own row doesn't bear has no column
  pub unborne : (get_or rowNames g 0 ≡ g → ⊥) → any same cm ≡ false
  unborne f = any_none cm (bears columnNames g) m cm_long cm_at (zero_ticks (dec_lt 0 (ticks (bears columnNames g) m)))
    where
      absent : (j : ℕ) → j < m → bears columnNames g j ≡ true → ⊥
      absent j h e =
          let q : get_or columnNames j 0 ≡ g = eqb-true (get_or columnNames j 0) g e in
          let w : get_or s.of_columns j None ≡ Some g = col_name j h ∙ ap row_or q ∙ ap (λ (b : Bool). cond b (Some g) None) (lt-ltb g 64 (omega arith)) in
          f (sym (row_name_lem g hg) ∙ N.col_own j g w)

      zero_ticks : Dec (0 < ticks (bears columnNames g) m) → ticks (bears columnNames g) m ≡ 0
      zero_ticks (yes h) = let r = some_tick (bears columnNames g) m h in absurd (absent r.0 r.1 r.2)
      zero_ticks (no h) = omega arith

  pub no_column_lem : ticks (bears columnNames g) m ≡ 0 → any same cm ≡ false
  no_column_lem e = any_none cm (bears columnNames g) m cm_long cm_at e

  pub some_column : (ticks (bears columnNames g) m ≡ 0 → ⊥) → any same cm ≡ true
  some_column f = any_some cm (bears columnNames g) m cm_long cm_at f

  pub some_row : get_or rowNames g 0 ≡ g → 0 < ticks (bears rowNames g) n
  some_row e = ticks_some (bears rowNames g) n g hg (eq-eqb (get_or rowNames g 0) g e)

  -- ---- the columns that are given their rows
  module _ (p : List ℕ) (p_long : length p ≡ 129) (r : ℕ) (members before after : List ℕ) (hr : r ≤ n) (members_are : take r members ≡ picked (bears rowNames g) (λ i. i) n) (r-is : r ≡ ticks (bears rowNames g) n) (before-long : length before ≡ 64)
      (t : Taken columnNames g m p r members before after) where
    abbrev c : ℕ
    c = ticks (bears columnNames g) m

    abbrev own : List (Option ℕ)
    own = map (taker_of r) (take c (drop 1 p))

    small : (k : ℕ) → k < r → get_or members k 0 < 64
    small k h =
        let w : length (picked (bears rowNames g) (λ i. i) n) ≡ r = picked_long (bears rowNames g) (λ i. i) n ∙ sym r-is in
        let b : get_or (picked (bears rowNames g) (λ i. i) n) k 0 < 64 = picked_all (λ (x : ℕ). x < 64) (bears rowNames g) (λ i. i) n 0 (λ i l. omega arith) k (rw w h) in
        subst (λ (x : ℕ). x < 64) (ap (λ (l : List ℕ). get_or l k 0) (sym members_are) ∙ get_or-take r members k 0 h) b

    -- a row of the square, named
    named_is : (x : ℕ) → named (take r members) (taker_of r x) ≡ row_or (taker_number members r x)
    unfolding named taker_of
    named_is zero = refl
    named_is (suc i) = go (dec_lt i r)
      where
        go : Dec (i < r) → named (take r members) (cond (ltb i r) (Some i) None) ≡ row_or (cond (ltb i r) (get_or members i 0) 64)
        go (yes h) =
            ap (λ (b : Bool). named (take r members) (cond b (Some i) None)) (lt-ltb i r h)
            ∙ ap Some (get_or-take r members i 0 h)
            ∙ sym (ap (λ (b : Bool). row_or (cond b (get_or members i 0) 64)) (lt-ltb i r h) ∙ ap (λ (b : Bool). cond b (Some (get_or members i 0)) None) (lt-ltb (get_or members i 0) 64 (small i h)))
        go (no h) = ap (λ (b : Bool). named (take r members) (cond b (Some i) None)) (le-ltb i r (omega arith)) ∙ sym (ap (λ (b : Bool). row_or (cond b (get_or members i 0) 64)) (le-ltb i r (omega arith)))

    c_le : c ≤ m
    c_le = ticks_le (bears columnNames g) m

    front_long : length (take c (drop 1 p)) ≡ c
    front_long = length-take-le c (drop 1 p) (rw (length-drop 1 p, p_long) (let q = c_le in omega arith))

    l_long : length (map (named (take r members)) own) ≡ c
    l_long = length-map own (named (take r members)) ∙ length-map (take c (drop 1 p)) (taker_of r) ∙ front_long

    l_at : (k : ℕ) → k < c → get_or (map (named (take r members)) own) k None ≡ row_or (taker_number members r (get_or p (k + 1) 0))
    l_at k h =
        let e : 1 + k ≡ k + 1 = omega arith in
        map_at (named (take r members)) own k None None (rw (length-map (take c (drop 1 p)) (taker_of r) ∙ front_long) h)
        ∙ ap (named (take r members)) (map_at (taker_of r) (take c (drop 1 p)) k 0 None (rw front_long h) ∙ ap (taker_of r) (get_or-take c (drop 1 p) k 0 h ∙ get_or-drop 1 p k 0 ∙ ap (λ (x : ℕ). get_or p x 0) e))
        ∙ named_is (get_or p (k + 1) 0)

    before_at : (j : ℕ) → j < m → get_or (takers_of m before) j None ≡ row_or (get_or before j 0)
    before_at j h = map_at row_or (take m before) j 0 None (rw (length-take-le m before (rw before-long hm)) h) ∙ ap row_or (get_or-take m before j 0 h)

    takers_long : (l : List ℕ) → length l ≡ 64 → length (takers_of m l) ≡ m
    takers_long l h = length-map (take m l) row_or ∙ length-take-le m l (rw h hm)

    pub taken_is : takers_of m after ≡ spread cm (map (named (left_by rm (up_from zero R))) own) (takers_of m before)
    taken_is =
        rw (members_is, ← members_are)
        (ext_get_or None (takers_of m after) (spread cm (map (named (take r members)) own) (takers_of m before)) (takers_long after t.long ∙ sym (spread_long cm (map (named (take r members)) own) (takers_of m before) (cm_long ∙ sym (takers_long before before-long)) ∙ takers_long before before-long))
        (λ j q. at j (rw (takers_long after t.long) at q)))
      where
        by : (j : ℕ) → j < m → (b : Bool) → bears columnNames g j ≡ b → row_or (cond b (taker_number members r (get_or p (ticks (bears columnNames g) j + 1) 0)) (get_or before j 0)) ≡ cond b (get_or (map (named (take r members)) own) (ticks (bears columnNames g) j) None) (row_or (get_or before j 0))
        by j h true e = sym (l_at (ticks (bears columnNames g) j) (ticks_below (bears columnNames g) j m h e))
        by j h false e = refl

        at : (j : ℕ) → j < m → get_or (takers_of m after) j None ≡ get_or (spread cm (map (named (take r members)) own) (takers_of m before)) j None
        at j h =
            let a : get_or (takers_of m after) j None ≡ row_or (get_or after j 0) = map_at row_or (take m after) j 0 None (rw (length-take-le m after (rw t.long hm)) h) ∙ ap row_or (get_or-take m after j 0 h) in
            let u : ticks (λ i. get_or cm i false) j ≡ ticks (bears columnNames g) j = ticks_same _ _ j (λ i q. cm_at i (omega arith)) in
            let v : ticks (λ i. get_or cm i false) (length cm) ≡ c = ap (ticks (λ i. get_or cm i false)) cm_long ∙ ticks_same _ _ m (λ i q. cm_at i q) in
            a ∙ ap row_or (t.at j h) ∙ by j h (bears columnNames g j) refl
            ∙ sym (spread_at None cm (map (named (take r members)) own) (takers_of m before) j (cm_long ∙ sym (takers_long before before-long)) (rw (takers_long before before-long) h) (rw (v, l_long) (omega arith))
            ∙ rw (cm_at j h, u, before_at j h))
