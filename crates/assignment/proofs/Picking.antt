-- One place more of what the passes lay in the arrays, and of the largest cost.
use mathlib.Core.Path.{◌≡◌, refl, sym, ap, ◌∙◌}
use mathlib.Core.Bool.{Bool, true, false, cond}
use mathlib.Core.List.{List, [], ◌∷◌, ◌++◌, append_assoc, append-nil}
use Prim.Native.Nat.{ℕ, suc, ◌+◌, ◌*◌, ◌≤◌, ◌<◌}
use native.Mathlib.Numerals.{add-one}
use native.Mathlib.Nat.{suc-mul, zero-mul, mul-le-mul_right, mul-le-mul_left}
use native.Mathlib.Omega.{arith}
use lib.ListN.{get_or, set, length, take, drop, length-append, length-set}
use lib.Seq.{take-suc-set, drop-cons, drop-length, get_or-take, length-take-le}
use lib.Dec.{eqb}
use lib.Ieee.{Float, nan}
use Rattle.std.specs.Prelude.{count_by, ◌==◌}
use Rattle.std.proofs.lemmas.List.Sums.{sum_by-cons}
use lib.Ieee.Scale.{finite}
use Rattle.number.specs.Float.{larger_of}
use Rattle.kuhn_munkres.specs.Assignment.{in_one, largest}
use Rattle.groups.specs.Picks.{picked, ticks}
use Rattle.groups.proofs.Picking.{picked_on, picked_off, picked_long, ticks_on, ticks_off, ticks_le, ticks_same, ticks_shift}
use Rattle.assignment.specs.Picks.{bears, Laid, group_row, group_table, GatheredIn}

-- ---- laying
pub laid_none : {A : Type 0} (size : ℕ) (l : List A) (k : ℕ) → length l ≡ size → Laid size l l k k []
laid_none size l k h = record { long = h; end = omega arith; is = sym (append-nil (take k l)) }

pub laid_more : {A : Type 0} (size : ℕ) (before l : List A) (k r : ℕ) (p : List A) (x : A) → r < size → Laid size before l k r p → Laid size before (set l r x) k (r + 1) (p ++ (x ∷ []))
laid_more size before l k r p x h q = record {
  long = length-set l r x ∙ q.long;
  end = rw (length-append p (x ∷ [])) (let e = q.end in omega arith);
  is = rw (add-one r) (take-suc-set l r x (rw q.long h) ∙ ap (λ (t : List _). t ++ (x ∷ [])) q.is ∙ append_assoc (take k before) p (x ∷ []));
}

-- ---- a table, row after row
pub in_one_snoc : {A : Type 0} (t : List (List A)) (r : List A) → in_one (t ++ (r ∷ [])) ≡ in_one t ++ r
unfolding in_one
in_one_snoc [] r = append-nil r
in_one_snoc (q ∷ t) r = ap (λ (l : List _). q ++ l) (in_one_snoc t r) ∙ sym (append_assoc q (in_one t) r)

-- ---- the largest cost
largest_step : (m : Float) (l : List Float) (k : ℕ) → k < length l → largest m (drop k l) ≡ largest (cond (finite (get_or l k nan)) (larger_of m (get_or l k nan)) m) (drop (k + 1) l)
unfolding largest
largest_step m l k h = ap (largest m) (drop-cons l k nan h) ∙ ap (λ (i : ℕ). largest (cond (finite (get_or l k nan)) (larger_of m (get_or l k nan)) m) (drop i l)) (sym (add-one k))

pub largest_skip : (m : Float) (l : List Float) (k : ℕ) → k < length l → finite (get_or l k nan) ≡ false → largest m (drop (k + 1) l) ≡ largest m (drop k l)
largest_skip m l k h e = sym (largest_step m l k h ∙ ap (λ (b : Bool). largest (cond b (larger_of m (get_or l k nan)) m) (drop (k + 1) l)) e)

pub largest_take : (m : Float) (l : List Float) (k : ℕ) → k < length l → finite (get_or l k nan) ≡ true → largest (larger_of m (get_or l k nan)) (drop (k + 1) l) ≡ largest m (drop k l)
largest_take m l k h e = sym (largest_step m l k h ∙ ap (λ (b : Bool). largest (cond b (larger_of m (get_or l k nan)) m) (drop (k + 1) l)) e)

pub largest_done : (m : Float) (l : List Float) (k : ℕ) → k ≡ length l → largest m (drop k l) ≡ m
unfolding largest
largest_done m l k e = ap (λ (i : ℕ). largest m (drop i l)) e ∙ ap (largest m) (drop-length l)

-- ---- names in front, and their count
pub bears_front : (m : ℕ) (names : List ℕ) (g j : ℕ) → j < m → bears (take m names) g j ≡ bears names g j
bears_front m names g j h = ap (λ (x : ℕ). eqb x g) (get_or-take m names j 0 h)

pub ticks_front : (m : ℕ) (names : List ℕ) (g : ℕ) → m ≤ length names → ticks (bears (take m names) g) (length (take m names)) ≡ ticks (bears names g) m
ticks_front m names g h =
    ap (ticks (bears (take m names) g)) (length-take-le m names h)
    ∙ ticks_same (bears (take m names) g) (bears names g) m (λ j l. bears_front m names g j l)

pub counted : (names : List ℕ) (g : ℕ) → count_by (λ (x : ℕ). x == g) names ≡ ticks (bears names g) (length names)
unfolding ticks
counted [] g = refl
counted (x ∷ l) g =
    sum_by-cons (λ (y : ℕ). cond (y == g) 1 0) x l
    ∙ ap (λ (n : ℕ). cond (x == g) 1 0 + n) (counted l g)
    ∙ sym (ticks_shift (bears (x ∷ l) g) (length l))

-- ---- gathering
pub laid_join : {A : Type 0} (size : ℕ) (a b c : List A) (j k r : ℕ) (p q : List A) → Laid size a b j k p → Laid size b c k r q → Laid size a c j r (p ++ q)
laid_join size a b c j k r p q x y = record {
  long = y.long;
  end = rw (length-append p q) (let e = x.end in let f = y.end in omega arith);
  is = y.is ∙ ap (λ (t : List _). t ++ q) x.is ∙ append_assoc (take j a) p q;
}

-- what is gathered of the first i rows
pub record Gathering (size : ℕ) (costs : List Float) (n m : ℕ) (rowNames columnNames : List ℕ) (g i : ℕ) (own₀ own : List Float) (members₀ members : List ℕ) (k r : ℕ) : Type 0 where
  pub count : r ≡ ticks (bears rowNames g) i
  pub full : k ≡ r * ticks (bears columnNames g) m
  pub table : Laid size own₀ own 0 k (in_one (group_table costs m rowNames columnNames g i))
  pub rows : Laid 64 members₀ members 0 r (picked (bears rowNames g) (λ x. x) i)

module _ (size : ℕ) (costs : List Float) (n m : ℕ) (rowNames columnNames : List ℕ) (g : ℕ) (own₀ : List Float) (members₀ : List ℕ) where
  pub gathering_none : length own₀ ≡ size → length members₀ ≡ 64 → Gathering size costs n m rowNames columnNames g 0 own₀ own₀ members₀ members₀ 0 0
  unfolding picked ticks in_one
  gathering_none h l = record { count = refl; full = sym (zero-mul (ticks (bears columnNames g) m)); table = laid_none size own₀ 0 h; rows = laid_none 64 members₀ 0 l }

  module _ (i : ℕ) (own : List Float) (members : List ℕ) (k r : ℕ) (hn : n ≤ 64) (hm : m ≤ 64) (hi : i < n) (t : Gathering size costs n m rowNames columnNames g i own₀ own members₀ members k r) where
    few : r ≤ i
    few = rw t.count (ticks_le (bears rowNames g) i)

    pub gather_room : k + m ≤ n * m
    gather_room =
        let c = ticks (bears columnNames g) m in
        let cm : c ≤ m = ticks_le (bears columnNames g) m in
        let a : r * c ≤ r * m = mul-le-mul_left r cm in
        let b : suc r * m ≤ n * m = mul-le-mul_right m (let f = few in let x : suc r ≤ n = omega arith in x) in
        omega (arith, t.full, suc-mul r m)

    pub gather_member : r < 64
    gather_member = let f = few in omega arith

    pub gathering_skip : bears rowNames g i ≡ false → Gathering size costs n m rowNames columnNames g (i + 1) own₀ own members₀ members k r
    gathering_skip e = record {
      count = t.count ∙ sym (ticks_off (bears rowNames g) i e);
      full = t.full;
      table = rw (picked_off (bears rowNames g) (group_row costs m columnNames g) i e) t.table;
      rows = rw (picked_off (bears rowNames g) (λ x. x) i e) t.rows;
    }

    pub gathering_take : bears rowNames g i ≡ true → (own' : List Float) (k' : ℕ) → Laid size own own' k k' (group_row costs m columnNames g i) → Gathering size costs n m rowNames columnNames g (i + 1) own₀ own' members₀ (set members r i) k' (r + 1)
    gathering_take e own' k' q = record {
      count = ap (λ (x : ℕ). x + 1) t.count ∙ sym (ticks_on (bears rowNames g) i e);
      full = q.end ∙ rw (picked_long (bears columnNames g) (λ j. get_or costs (i * m + j) nan) m, add-one r, suc-mul r (ticks (bears columnNames g) m)) (let f = t.full in omega arith);
      table = rw (picked_on (bears rowNames g) (group_row costs m columnNames g) i e, in_one_snoc (group_table costs m rowNames columnNames g i) (group_row costs m columnNames g i)) (laid_join size own₀ own own' 0 k k' _ _ t.table q);
      rows = rw (picked_on (bears rowNames g) (λ x. x) i e) (laid_more 64 members₀ members 0 r _ i gather_member t.rows);
    }

  pub gathered : (own : List Float) (members : List ℕ) (k r : ℕ) → Gathering size costs n m rowNames columnNames g n own₀ own members₀ members k r → GatheredIn size costs n m rowNames columnNames g own members r
  gathered own members k r t = record { long = t.table.long; members_long = t.rows.long; count = t.count; table = rw (← t.full) t.table.is; members_are = t.rows.is }

pub gathered_few : (size : ℕ) (costs : List Float) (n m : ℕ) (rowNames columnNames : List ℕ) (g : ℕ) (own : List Float) (members : List ℕ) (r : ℕ) → GatheredIn size costs n m rowNames columnNames g own members r → r ≤ n
gathered_few size costs n m rowNames columnNames g own members r G = rw G.count (ticks_le (bears rowNames g) n)
