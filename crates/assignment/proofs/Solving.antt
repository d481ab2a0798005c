-- A group of the code is a group of the definition, and group after group.
use mathlib.Core.Path.{◌≡◌, refl, sym, ap, ◌∙◌}
use mathlib.Core.Bool.{Bool, true, false}
use mathlib.Core.List.{List, [], map}
use Prim.Native.Nat.{ℕ, zero, suc, ◌+◌, ◌*◌, ◌≤◌, ◌<◌}
use native.Mathlib.Numerals.{add-one}
use native.Mathlib.Nat.{mul-le-mul_left, mul-le-mul_right}
use native.Mathlib.Omega.{arith}
use lib.Dec.{eqb}
use lib.ListN.{get_or, length, take, drop}
use lib.Seq.{drop-cons, drop-length}
use lib.Ieee.{Float}
use lib.Ieee.Scale.{finite}
use Rattle.std.specs.Prelude.{Result, Ok, Err, Option}
use Rattle.number.specs.Reply.{Reply, refused, given, and_then}
use Rattle.kuhn_munkres.specs.Binary64.{float}
use Rattle.kuhn_munkres.specs.Square.{Square, entry}
use Rattle.kuhn_munkres.specs.Steps.{State, Search, found, stopped, spent, rows}
use Rattle.lists.specs.First.{any}
use Rattle.lists.specs.Masks.{left_by, spread, up_from}
use Rattle.kuhn_munkres.specs.Groups.{Labels, labels, is_label}
use Rattle.kuhn_munkres.specs.Assignment.{rows_of, in_one, taker_of, takers_in, solved, square_of, named, group_in, groups, same}
use Rattle.kuhn_munkres.proofs.Kept.{of_found, rows_long}
use Rattle.kuhn_munkres.proofs.Rows.{rows_count}
use Rattle.hungarian.specs.Ends.{end_reply, run_reply, number_of, reply_of_run}
use Rattle.hungarian.specs.Structs.{square_from}
use Rattle.hungarian.specs.declared.RunError.{RunError}
use Rattle.hungarian.specs.declared.Shape.{Shape}
use Rattle.hungarian.proofs.Replies.{checked}
use Rattle.groups.specs.Picks.{ticks}
use Rattle.groups.specs.Solvers.{own_reply}
use Rattle.groups.proofs.Picking.{picked_long, picked_all, ticks_le}
use Rattle.assignment.specs.Picks.{bears, group_row, group_table, GatheredIn}
use Rattle.assignment.specs.Taking.{takers_of, Call, Room, Taken, GroupTaken, AllTaken}
use Rattle.assignment.proofs.Groupings.{table_is, unborne, no_column_lem, some_column, some_row, taken_is}

-- ---- what the run ends with
pub record Ended (x : Search Float) (p : List ℕ) : Type 0 where
  pub s : State Float
  pub is : x ≡ found s
  pub rows_are : s.p ≡ p

ended : (x : Search Float) (p : List ℕ) → given p ≡ end_reply x → Ended x p
unfolding end_reply
ended (found s) p e = record { s = s; is = refl; rows_are = cc }
ended stopped p e = let w : ◌≡◌ {A = ℕ} 0 1 = cc in absurd (omega arith)
ended spent p e = let w : ◌≡◌ {A = ℕ} 0 1 = cc in absurd (omega arith)

failed : (q : Square Float) (x : Search Float) (k : ℕ) → refused k ≡ end_reply x → takers_in q x ≡ refused k
unfolding takers_in end_reply
failed q (found s) k e = let w : ◌≡◌ {A = ℕ} 0 1 = cc in absurd (omega arith)
failed q stopped k e = let w : k ≡ 10 = cc in ap refused (sym w)
failed q spent k e = let w : k ≡ 10 = cc in ap refused (sym w)

-- a run whose size is right ends as the steps do
pub run_is : (costs : List Float) (q : Shape) → q.rows ≤ 64 → q.cols ≤ 64 → length costs ≡ q.rows * q.cols → (r : Result (Unit {0}) RunError) (p : List ℕ) → reply_of_run r p ≡ run_reply costs q
    → reply_of_run r p ≡ end_reply (rows float (entry float (square_from costs q)) (q.rows + q.cols) (q.rows + q.cols))
run_is costs q hr hc size r p w = w ∙ checked costs q hr hc size

module _ (costs : List Float) (n m : ℕ) (rowNames columnNames : List ℕ) (far rowCost columnCost : Float) (C : Call costs n m rowNames columnNames) (g : ℕ) (hg : g < n) where
  abbrev R : List (List Float)
  R = rows_of n m costs

  abbrev s : Labels
  s = labels finite R m

  abbrev cm : List Bool
  cm = map (is_label g) s.of_columns

  abbrev rm : List Bool
  rm = map (eqb g) s.of_rows

  abbrev dense : List (List Float) → Reply (List (Option ℕ))
  dense table = own_reply far rowCost columnCost table

  abbrev T : List (List Float)
  T = map (left_by cm) (left_by rm R)

  nothing : (before : List ℕ) → length before ≡ 64 → any same cm ≡ false → GroupTaken costs n m far rowCost columnCost g (Ok tt) before before
  unfolding group_in
  nothing before l e = record { long = l; is = rw e }

  pub group_unborne : (before : List ℕ) → length before ≡ 64 → (get_or rowNames g 0 ≡ g → ⊥) → GroupTaken costs n m far rowCost columnCost g (Ok tt) before before
  group_unborne before l f = nothing before l (unborne costs n m rowNames columnNames C.rows_few C.columns_few C.size C.named g hg f)

  pub group_empty : (before : List ℕ) (c : ℕ) → length before ≡ 64 → c ≡ ticks (bears columnNames g) m → c ≡ 0 → GroupTaken costs n m far rowCost columnCost g (Ok tt) before before
  group_empty before c l e z = nothing before l (no_column_lem costs n m rowNames columnNames C.rows_few C.columns_few C.size C.named g hg (sym e ∙ z))

  module _ (borne : get_or rowNames g 0 ≡ g) (c : ℕ) (c-is : c ≡ ticks (bears columnNames g) m) (c-some : c ≡ 0 → ⊥) (size : ℕ) (own : List Float) (members : List ℕ) (r : ℕ) (G : GatheredIn size costs n m rowNames columnNames g own members r) where
    abbrev Q : Square Float
    Q = record { costs = take (r * c) own; rows = r; cols = c; far = far; row = rowCost; col = columnCost }

    abbrev X : Search Float
    X = rows float (entry float Q) (r + c) (r + c)

    group_rows : r ≤ n
    group_rows = rw G.count (ticks_le (bears rowNames g) n)

    T-is : T ≡ group_table costs m rowNames columnNames g n
    T-is = table_is costs n m rowNames columnNames C.rows_few C.columns_few C.size C.named g hg

    T-long : length (group_table costs m rowNames columnNames g n) ≡ r
    T-long = picked_long (bears rowNames g) (group_row costs m columnNames g) n ∙ sym G.count

    T-wide : length (get_or (group_table costs m rowNames columnNames g n) 0 []) ≡ c
    T-wide =
        picked_all (λ (x : List Float). length x ≡ c) (bears rowNames g) (group_row costs m columnNames g) n [] (λ i h. picked_long (bears columnNames g) _ m ∙ sym c-is) 0
        (rw (picked_long (bears rowNames g) (group_row costs m columnNames g) n) (some_row costs n m rowNames columnNames C.rows_few C.columns_few C.size C.named g hg borne))

    square : square_of far rowCost columnCost T ≡ Q
    square =
        let e : in_one (group_table costs m rowNames columnNames g n) ≡ take (r * c) own = sym (rw (← c-is) at G.table) in
        rw (T-is, e, T-long, T-wide)

    dense_is : dense T ≡ takers_in Q X
    unfolding solved
    dense_is = ap (λ (q : Square Float). takers_in q (rows float (entry float q) (q.rows + q.cols) (q.rows + q.cols))) square

    any_column : any same cm ≡ true
    any_column = some_column costs n m rowNames columnNames C.rows_few C.columns_few C.size C.named g hg (λ z. c-some (c-is ∙ z))

    group_is : (t : List (Option ℕ)) → group_in dense (any same cm) R (up_from zero R) rm cm t ≡ and_then (takers_in Q X) (λ o. given (spread cm (map (named (left_by rm (up_from zero R))) o) t))
    unfolding group_in
    group_is t = ap (λ (b : Bool). group_in dense b R (up_from zero R) rm cm t) any_column ∙ ap (λ (y : Reply (List (Option ℕ))). and_then y (λ o. given (spread cm (map (named (left_by rm (up_from zero R))) o) t))) dense_is

    pub group_failed : (before : List ℕ) (why : RunError) → length before ≡ 64 → refused (number_of why) ≡ end_reply X → GroupTaken costs n m far rowCost columnCost g (Err why) before before
    group_failed before why l e = record { long = l; is = sym (group_is (takers_of m before) ∙ ap (λ (y : Reply (List (Option ℕ))). and_then y (λ o. given (spread cm (map (named (left_by rm (up_from zero R))) o) (takers_of m before)))) (failed Q X (number_of why) e)) }

    pub group_solved : (before after : List ℕ) (p : List ℕ) → length before ≡ 64 → given p ≡ end_reply X → Taken columnNames g m p r members before after → GroupTaken costs n m far rowCost columnCost g (Ok tt) before after
    unfolding takers_in
    group_solved before after p l e t =
        let d = ended X p e in
        let long : length p ≡ 129 = ap length (sym d.rows_are) ∙ of_found float (λ (y : State Float). length y.p ≡ 129) X d.s d.is (rows_long float (entry float Q) (r + c) (r + c)) in
        let w : takers_in Q X ≡ given (map (taker_of r) (take c (drop 1 p))) = ap (takers_in Q) d.is ∙ ap (λ (y : List ℕ). given (map (taker_of r) (take c (drop 1 y)))) d.rows_are in
        record {
          long = t.long;
          is = sym (group_is (takers_of m before) ∙ ap (λ (y : Reply (List (Option ℕ))). and_then y (λ o. given (spread cm (map (named (left_by rm (up_from zero R))) o) (takers_of m before)))) w
              ∙ ap given (ap (λ (k : ℕ). spread cm (map (named (left_by rm (up_from zero R))) (map (taker_of r) (take k (drop 1 p)))) (takers_of m before)) c-is ∙ sym (taken_is costs n m rowNames columnNames C.rows_few C.columns_few C.size C.named g hg p long r members before after group_rows G.members_are G.count l t)));
        }

-- a group fits the square
pub group_fits : (size : ℕ) (costs : List Float) (n m : ℕ) (rowNames columnNames : List ℕ) (g : ℕ) (own : List Float) (members : List ℕ) (r c : ℕ) → n ≤ 64 → m ≤ 64 → n * m ≤ size → GatheredIn size costs n m rowNames columnNames g own members r
    → c ≡ ticks (bears columnNames g) m → (r ≤ 64) × (c ≤ 64) × (r * c ≤ length own)
group_fits size costs n m rowNames columnNames g own members r c hn hm room G e =
    let a : r ≤ n = rw G.count (ticks_le (bears rowNames g) n) in
    let b : c ≤ m = rw e (ticks_le (bears columnNames g) m) in
    (omega (arith, a, hn), omega (arith, b, hm), rw G.long (omega (arith, mul-le-mul_right c a, mul-le-mul_left n b, room)))

pub room_of : (n m size : ℕ) (own : List Float) → length own ≡ size → n * m ≤ size → 0 < size → size ≤ 4096 → Room n m own
room_of n m size own e h a b = record { enough = omega (arith, h, e); some = omega (arith, a, e); few = omega (arith, b, e) }

-- an array that is as long has as much room
pub room_kept : {n m : ℕ} {own own' : List Float} → Room n m own → length own' ≡ length own → Room n m own'
room_kept r e = record { enough = omega (arith, r.enough, e); some = omega (arith, r.some, e); few = omega (arith, r.few, e) }

-- ---- group after group
module _ (costs : List Float) (n m : ℕ) (far rowCost columnCost : Float) where
  abbrev R' : List (List Float)
  R' = rows_of n m costs

  abbrev s' : Labels
  s' = labels finite R' m

  -- the groups from g on, over what the takers are now, give what all groups give over what they were
  pub record Going (g : ℕ) (before after : List ℕ) : Type 0 where
    pub long : length after ≡ 64
    pub rest : groups (own_reply far rowCost columnCost) R' s' (up_from g (drop g R')) (takers_of m after) ≡ groups (own_reply far rowCost columnCost) R' s' (up_from zero R') (takers_of m before)

  pub going_first : (before : List ℕ) → length before ≡ 64 → Going 0 before before
  going_first before l = record { long = l; rest = refl }

  next_groups : (g : ℕ) (t : List (Option ℕ)) → g < n → groups (own_reply far rowCost columnCost) R' s' (up_from g (drop g R')) t
      ≡ and_then (group_in (own_reply far rowCost columnCost) (any same (map (is_label g) s'.of_columns)) R' (up_from zero R') (map (eqb g) s'.of_rows) (map (is_label g) s'.of_columns) t) (groups (own_reply far rowCost columnCost) R' s' (up_from (suc g) (drop (suc g) R')))
  unfolding groups up_from
  next_groups g t h = ap (λ (l : List (List Float)). groups (own_reply far rowCost columnCost) R' s' (up_from g l) t) (drop-cons R' g [] (rw (rows_count n m costs) h))

  module _ (g : ℕ) (before now after : List ℕ) (h : g < n) (w : Going g before now) where
    pub going_next : GroupTaken costs n m far rowCost columnCost g (Ok tt) now after → Going (g + 1) before after
    going_next q = record { long = q.long; rest = rw (add-one g) (sym (next_groups g (takers_of m now) h ∙ ap (λ (y : Reply (List (Option ℕ))). and_then y (groups (own_reply far rowCost columnCost) R' s' (up_from (suc g) (drop (suc g) R')))) (sym q.is)) ∙ w.rest) }

    pub going_stops : (why : RunError) → GroupTaken costs n m far rowCost columnCost g (Err why) now after → AllTaken costs n m far rowCost columnCost (Err why) before after
    going_stops why q = record { long = q.long; is = sym (next_groups g (takers_of m now) h ∙ ap (λ (y : Reply (List (Option ℕ))). and_then y (groups (own_reply far rowCost columnCost) R' s' (up_from (suc g) (drop (suc g) R')))) (sym q.is)) ∙ w.rest }

  pub going_done : (before after : List ℕ) → Going n before after → AllTaken costs n m far rowCost columnCost (Ok tt) before after
  unfolding groups up_from
  going_done before after w =
      record { long = w.long; is = sym (ap (λ (l : List (List Float)). groups (own_reply far rowCost columnCost) R' s' (up_from n l) (takers_of m after)) (ap (λ (k : ℕ). drop k R') (sym (rows_count n m costs)) ∙ drop-length R')) ∙ w.rest }
