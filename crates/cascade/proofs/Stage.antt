-- A stage of the code is a stage of the definition. Assumes nothing.
use Rattle.std.specs.Prelude.{Err, Ok, Result, None, Option, Some}
use mathlib.Core.Path.{◌≡◌, refl, sym, ap, ◌∙◌, subst}
use mathlib.Core.Bool.{Bool, true, false, cond}
use mathlib.Core.List.{List, [], ◌∷◌, map}
use Prim.Native.Nat.{ℕ, ◌+◌, ◌*◌, ◌≤◌, ◌<◌}
use native.Mathlib.Decide.{dec_lt}
use native.Mathlib.Nat.{mul-le-mul_right}
use native.Mathlib.Omega.{arith}
use borrow.Author.Tests.{lt-ltb, le-ltb}
use lib.Dec.{eqb}
use lib.ListN.{get_or, length, take, drop, length-map, get_or-eq_default}
use lib.Seq.{get_or-take, get_or-drop, ext_get_or, length-take-le}
use lib.Ieee.{Float, nan}
use Rattle.number.specs.Reply.{Reply, refused, given, and_then}
use Rattle.lists.specs.Masks.{left_by, spread, count, up_from}
use Rattle.matrix.specs.Matrix.{nought}
use Rattle.kuhn_munkres.specs.Takers.{free, both_takers}
use Rattle.lists.proofs.Masks.{count_left}
use Rattle.kuhn_munkres.specs.Assignment.{rows_of, named, in_one, takers_reply}
use Rattle.kuhn_munkres.proofs.Labels.{map_at}
use Rattle.kuhn_munkres.proofs.Rows.{rows_count, row_long}
use Rattle.groups.specs.Picks.{picked, ticks}
use Rattle.groups.proofs.Picking.{picked_long, picked_same, picked_map, picked_all, ticks_le, ticks_same, ticks_below}
use Rattle.groups.proofs.Masks.{left_picked, spread_at}
use Rattle.lists.proofs.Masks.{spread_long, up_at, up_long}
use Rattle.kuhn_munkres.proofs.Rows.{rows_at}
use Rattle.assignment.specs.Labelling.{row_or}
use Rattle.assignment.specs.Picks.{bears, group_table, group_row, Gathered}
use Rattle.assignment.specs.Taking.{takers_of}
use Rattle.calls.specs.Pairing.{assigned}
use Rattle.types.specs.Refusals.{number_of, reply_of}
use Rattle.types.specs.declared.refusal.Refusal.{Refusal}
use Rattle.cascade.specs.Stages.{row_name, column_name, member_of, scattered_at, Pointwise, stage_reply, StageAnswer}

-- putting back at the columns that are free
spread_merged : (t l : List (Option ℕ)) → spread (map free t) l t ≡ both_takers t l
unfolding spread both_takers free
spread_merged [] l = refl
spread_merged (Some i ∷ t) l = ap {B = List (Option ℕ)} (λ r. Some i ∷ r) (spread_merged t l)
spread_merged (None ∷ t) [] = ap {B = List (Option ℕ)} (λ r. None ∷ r) (spread_merged t [])
spread_merged (None ∷ t) (o ∷ l) = ap {B = List (Option ℕ)} (λ r. o ∷ r) (spread_merged t l)

-- a row bears the stage's name where it takes part, a column where no row has taken it
part_name : (b : Bool) → b ≡ eqb (row_name b) 0
part_name true = refl
part_name false = refl

free_name : (x : ℕ) → free (row_or x) ≡ eqb (column_name x) 0
unfolding free
free_name x = go (dec_lt x 64)
  where
    go : Dec (x < 64) → free (row_or x) ≡ eqb (column_name x) 0
    go (yes l) = rw (lt-ltb x 64 l)
    go (no l) = rw (le-ltb x 64 (omega arith))

module _ (costs : List Float) (n m : ℕ) (part : List Bool) (rowNames columnNames before : List ℕ) (hn : n ≤ 64) (hm : m ≤ 64) (size : length costs ≡ n * m) (part-long : length part ≡ 64) (before-long : length before ≡ 64)
    (parts : (i : ℕ) → i < n → get_or rowNames i 0 ≡ row_name (get_or part i false)) (names : (j : ℕ) → j < m → get_or columnNames j 0 ≡ column_name (get_or before j 0)) where
  abbrev R : List (List Float)
  R = rows_of n m costs

  abbrev cm : List Bool
  cm = map free (takers_of m before)

  abbrev rm : List Bool
  rm = take n part

  takers_long : (l : List ℕ) → length l ≡ 64 → length (takers_of m l) ≡ m
  takers_long l h = length-map (take m l) row_or ∙ length-take-le m l (rw h hm)

  before_at : (j : ℕ) → j < m → get_or (takers_of m before) j None ≡ row_or (get_or before j 0)
  before_at j h = map_at row_or (take m before) j 0 None (rw (length-take-le m before (rw before-long hm)) h) ∙ ap row_or (get_or-take m before j 0 h)

  cm_long : length cm ≡ m
  cm_long = length-map (takers_of m before) free ∙ takers_long before before-long

  cm_at : (j : ℕ) → j < m → get_or cm j false ≡ bears columnNames 0 j
  cm_at j h = map_at free (takers_of m before) j None false (rw (takers_long before before-long) h) ∙ ap free (before_at j h) ∙ free_name (get_or before j 0) ∙ ap (λ (x : ℕ). eqb x 0) (sym (names j h))

  rm_long : length rm ≡ n
  rm_long = length-take-le n part (rw part-long hn)

  rm_at : (i : ℕ) → i < n → get_or rm i false ≡ bears rowNames 0 i
  rm_at i h = get_or-take n part i false h ∙ part_name (get_or part i false) ∙ ap (λ (x : ℕ). eqb x 0) (sym (parts i h))

  own_row : (i : ℕ) → i < n → left_by cm (get_or R i []) ≡ group_row costs m columnNames 0 i
  own_row i h =
      let e = rows_at n m costs i h in
      let l : length (get_or R i []) ≡ m = ap length e ∙ row_long i m costs (omega (arith, mul-le-mul_right m h, size)) in
      left_picked nan cm (get_or R i []) m cm_long l
      ∙ picked_same _ _ _ _ m cm_at (λ j q. ap (λ (r : List Float). get_or r j nan) e ∙ get_or-take m (drop (i * m) costs) j nan q ∙ get_or-drop (i * m) costs j nan)

  table_is : map (left_by cm) (left_by rm R) ≡ group_table costs m rowNames columnNames 0 n
  table_is =
      ap (map (left_by cm)) (left_picked [] rm R n rm_long (rows_count n m costs))
      ∙ picked_map (left_by cm) (λ i. get_or rm i false) (λ i. get_or R i []) n
      ∙ picked_same _ _ _ _ n rm_at own_row

  members_is : left_by rm (up_from 0 R) ≡ picked (bears rowNames 0) (λ i. i) n
  members_is =
      left_picked 0 rm (up_from 0 R) n rm_long (up_long 0 R ∙ rows_count n m costs)
      ∙ picked_same _ _ _ _ n rm_at (λ i h. up_at 0 R i (rw (rows_count n m costs) h) ∙ (let z : 0 + i ≡ i = omega arith in z))

  count_is : count cm ≡ ticks (bears columnNames 0) m
  count_is =
      sym (count_left cm cm refl) ∙ ap length (left_picked false cm cm m cm_long cm_long)
      ∙ picked_long (λ i. get_or cm i false) (λ i. get_or cm i false) m ∙ ticks_same _ _ m cm_at

  module _ (gate : Float) (own : List Float) (members : List ℕ) (r c : ℕ) (G : Gathered costs n m rowNames columnNames 0 own members r) (c-is : c ≡ ticks (bears columnNames 0) m) where
    -- the table in front is the stage's
    pub stage_assigned : assigned gate (map (left_by cm) (left_by rm R)) (count cm) ≡ takers_reply (take (r * c) own) r c gate nought
    unfolding assigned
    stage_assigned =
        let e : in_one (group_table costs m rowNames columnNames 0 n) ≡ take (r * c) own = sym (rw (← c-is) at G.table) in
        let l : length (group_table costs m rowNames columnNames 0 n) ≡ r = picked_long (bears rowNames 0) (group_row costs m columnNames 0) n ∙ sym G.count in
        rw (table_is, e, l, count_is, ← c-is)

    few : r ≤ n
    few = rw G.count (ticks_le (bears rowNames 0) n)

    pub stage_fits : (r ≤ 64) × (c ≤ 64) × (r * c ≤ 4096)
    stage_fits =
        let a = few in
        let b : c ≤ m = rw c-is (ticks_le (bears columnNames 0) m) in
        let p : r * c ≤ 64 * c = mul-le-mul_right c (let x : r ≤ 64 = omega arith in x) in
        (omega arith, omega arith, omega (arith, p))

    small : (k : ℕ) → k < r → get_or members k 0 < 64
    small k h =
        let w : length (picked (bears rowNames 0) (λ i. i) n) ≡ r = picked_long (bears rowNames 0) (λ i. i) n ∙ sym G.count in
        let b : get_or (picked (bears rowNames 0) (λ i. i) n) k 0 < 64 = picked_all (λ (x : ℕ). x < 64) (bears rowNames 0) (λ i. i) n 0 (λ i l. omega arith) k (rw w h) in
        subst (λ (x : ℕ). x < 64) (ap (λ (l : List ℕ). get_or l k 0) (sym G.members_are) ∙ get_or-take r members k 0 h) b

    members_front : length (take r members) ≡ r
    members_front = length-take-le r members (rw G.members_long (let a = few in let x : r ≤ 64 = omega arith in x))

    -- a row of the picked table, named
    named_is : (x : ℕ) → named (take r members) (row_or x) ≡ row_or (member_of members r x)
    unfolding named
    named_is x = go (dec_lt x r) (dec_lt x 64)
      where
        go : Dec (x < r) → Dec (x < 64) → named (take r members) (row_or x) ≡ row_or (member_of members r x)
        go (yes h) d =
            let a = few in
            let l : x < 64 = omega arith in
            rw (lt-ltb x r h, lt-ltb x 64 l, lt-ltb (get_or members x 0) 64 (small x h)) (ap Some (get_or-take r members x 0 h))
        go (no h) (yes l) = rw (le-ltb x r (omega arith), lt-ltb x 64 l) (ap Some (get_or-eq_default (take r members) 0 {n = x} (rw members_front (omega arith))))
        go (no h) (no l) = rw (le-ltb x r (omega arith), le-ltb x 64 (omega arith))

    -- what the stage makes of the pairing of its own table
    abbrev put : List (Option ℕ) → Reply (List (Option ℕ))
    put x = given (both_takers (takers_of m before) (map (named (left_by rm (up_from 0 R))) x))

    stage_is : (y : Reply (List (Option ℕ))) → y ≡ takers_reply (take (r * c) own) r c gate nought → and_then y put ≡ stage_reply gate rm R (takers_of m before)
    unfolding stage_reply
    stage_is y e = ap (λ (z : Reply (List (Option ℕ))). and_then z put) (e ∙ sym stage_assigned)

    pub stage_refused : (o : Result (Unit {0}) Refusal) (why : Refusal) (x : List (Option ℕ)) → o ≡ Err why → and_then (reply_of o) (λ u. given x) ≡ takers_reply (take (r * c) own) r c gate nought
        → StageAnswer costs n m gate part (refused (number_of why)) before before
    stage_refused o why x e w =
        record {
          long = before-long;
          is = stage_is (refused (number_of why)) (sym (ap {B = Reply (List (Option ℕ))} (λ (q : Result (Unit {0}) Refusal). and_then (reply_of q) (λ u. given x)) e) ∙ w);
          rest = λ j h. refl;
          kept = λ k h. refl;
        }

    module _ (pk after : List ℕ) (pk-long : length pk ≡ 64) (s : Pointwise (scattered_at columnNames pk r members before) m before after) where
      abbrev l : List (Option ℕ)
      l = map (named (take r members)) (takers_of c pk)

      front_long : length (take c pk) ≡ c
      front_long = length-take-le c pk (rw pk-long stage_fits.1)

      l_long : length l ≡ c
      l_long = length-map (takers_of c pk) (named (take r members)) ∙ length-map (take c pk) row_or ∙ front_long

      l_at : (k : ℕ) → k < c → get_or l k None ≡ row_or (member_of members r (get_or pk k 0))
      l_at k h =
          map_at (named (take r members)) (takers_of c pk) k None None (rw (length-map (take c pk) row_or ∙ front_long) h)
          ∙ ap (named (take r members)) (map_at row_or (take c pk) k 0 None (rw front_long h) ∙ ap row_or (get_or-take c pk k 0 h))
          ∙ named_is (get_or pk k 0)

      by : (j : ℕ) → j < m → (b : Bool) → bears columnNames 0 j ≡ b → row_or (cond b (member_of members r (get_or pk (ticks (bears columnNames 0) j) 0)) (get_or before j 0)) ≡ cond b (get_or l (ticks (bears columnNames 0) j) None) (row_or (get_or before j 0))
      by j h true e = sym (l_at (ticks (bears columnNames 0) j) (rw c-is (ticks_below (bears columnNames 0) j m h e)))
      by j h false e = refl

      at : (j : ℕ) → j < m → get_or (takers_of m after) j None ≡ get_or (spread cm l (takers_of m before)) j None
      at j h =
          let a : get_or (takers_of m after) j None ≡ row_or (get_or after j 0) = map_at row_or (take m after) j 0 None (rw (length-take-le m after (rw s.long hm)) h) ∙ ap row_or (get_or-take m after j 0 h) in
          let u : ticks (λ i. get_or cm i false) j ≡ ticks (bears columnNames 0) j = ticks_same _ _ j (λ i q. cm_at i (omega arith)) in
          let v : ticks (λ i. get_or cm i false) (length cm) ≡ c = ap (ticks (λ i. get_or cm i false)) cm_long ∙ ticks_same _ _ m (λ i q. cm_at i q) ∙ sym c-is in
          a ∙ ap row_or (s.done j h) ∙ by j h (bears columnNames 0 j) refl
          ∙ sym (spread_at None cm l (takers_of m before) j (cm_long ∙ sym (takers_long before before-long)) (rw (takers_long before before-long) h) (rw (v, l_long) (omega arith))
          ∙ rw (cm_at j h, u, before_at j h))

      pub stage_scattered : takers_of m after ≡ both_takers (takers_of m before) (map (named (left_by rm (up_from 0 R))) (takers_of c pk))
      stage_scattered =
          rw (members_is, ← G.members_are)
          (ext_get_or None (takers_of m after) (spread cm l (takers_of m before)) (takers_long after s.long ∙ sym (spread_long cm l (takers_of m before) (cm_long ∙ sym (takers_long before before-long)) ∙ takers_long before before-long))
          (λ j q. at j (rw (takers_long after s.long) at q))
          ∙ spread_merged (takers_of m before) l)

      pub stage_done : (o : Result (Unit {0}) Refusal) → o ≡ Ok tt → and_then (reply_of o) (λ u. given (takers_of c pk)) ≡ takers_reply (take (r * c) own) r c gate nought → StageAnswer costs n m gate part (given tt) before after
      stage_done o e w =
          record {
            long = s.long;
            is =
                ap {B = Reply (List (Option ℕ))} given stage_scattered
                ∙ stage_is (given (takers_of c pk)) (sym (ap {B = Reply (List (Option ℕ))} (λ (q : Result (Unit {0}) Refusal). and_then (reply_of q) (λ u. given (takers_of c pk))) e) ∙ w);
            rest = s.rest;
            kept = λ k h. absurd (let z : ◌≡◌ {A = ℕ} 0 1 = cc in omega arith);
          }
