-- Where a sensor's sequence number stands, and where it is noted. Assumes nothing.
use Rattle.std.specs.Prelude.{None, Some, Option, is_some}
use mathlib.Core.Path.{◌≡◌, refl, ap, sym, ◌∙◌}
use mathlib.Core.Bool.{Bool, true, false, cond}
use mathlib.Core.List.{List, [], ◌∷◌, ◌++◌, append_assoc}
use Prim.Native.Nat.{ℕ, zero, suc, ◌+◌, ◌-◌, ◌≤◌, ◌<◌, min}
use native.Mathlib.Omega.{arith}
use lib.Dec.{eqb, ltb}
use lib.ListN.{length, take, drop, get_or, set, length-append, length-drop}
use lib.Seq.{get_or-take, paste, append_snoc, set_at, take-suc, take-take, take-nil, length-take-le}
use native.Mathlib.Nat.{sub-zero, suc-sub-suc}
use native.Mathlib.Numerals.{add-one}
use borrow.Author.Tests.{eq-eqb, ne_eqb, lt-ltb, le-ltb}
use Rattle.std.specs.Bool.{then_some}
use Rattle.lists.specs.First.{one_place_on, first_at}
use Rattle.lists.specs.Lay.{lay}
use Rattle.lists.specs.Table.{table, over_table, inserted}
use Rattle.lists.proofs.Firsts.{Leads, first_leads, rest, passed}
use Rattle.lists.proofs.Tables.{count_room, rows, rows_length, unchanged, stored, grown}
use Rattle.types.specs.declared.tracker.SensorSequence.{SensorSequence}
use Rattle.tables.specs.Sequences.{entry, not_before, last_of, noted, room_for, inserted_in, noted_in}
use Rattle.tables.proofs.Stores.{no_sequence}

-- whether the entry is the sensor's own
abbrev pub own : ℕ → SensorSequence → Bool
own sensor e = eqb e.sensor sensor

pub last_at : (sensor : ℕ) (l : List SensorSequence) (i : ℕ) → Leads (not_before sensor) no_sequence l i
    → last_of sensor l ≡ cond (own sensor (get_or l i no_sequence)) (Some (get_or l i no_sequence).sequence) None
unfolding last_of
last_at sensor [] i f = absurd (omega (arith, f.inside))
last_at sensor (e ∷ l) zero f = rw f.hits
last_at sensor (e ∷ l) (suc i) f = rw (passed (not_before sensor) no_sequence e l i f) (last_at sensor l i (rest (not_before sensor) no_sequence e l i f))

pub last_none : (sensor : ℕ) (l : List SensorSequence) → first_at (not_before sensor) l ≡ None → last_of sensor l ≡ None
unfolding last_of first_at
last_none sensor [] h = refl
last_none sensor (e ∷ l) h = go (not_before sensor e) (first_at (not_before sensor) l) (last_none sensor l) h
  where
    go : (b : Bool) (o : Option ℕ) → (o ≡ None → last_of sensor l ≡ None) → cond b (Some 0) (one_place_on o) ≡ None
        → cond b (cond (own sensor e) (Some e.sequence) None) (last_of sensor l) ≡ None
    go true o q h = cc
    go false None q h = q refl
    go false (Some j) q h = cc

pub noted_at : (sensor q : ℕ) (l : List SensorSequence) (i : ℕ) → Leads (not_before sensor) no_sequence l i
    → noted sensor q l ≡ cond (own sensor (get_or l i no_sequence)) (set l i (entry sensor q)) (inserted i (entry sensor q) l)
unfolding noted
noted_at sensor q [] i f = absurd (omega (arith, f.inside))
noted_at sensor q (e ∷ l) zero f = rw f.hits (go (own sensor e))
  where
    go : (b : Bool) → entry sensor q ∷ cond b l (e ∷ l) ≡ cond b (entry sensor q ∷ l) (entry sensor q ∷ e ∷ l)
    go true = refl
    go false = refl
noted_at sensor q (e ∷ l) (suc i) f =
    rw (passed (not_before sensor) no_sequence e l i f, noted_at sensor q l i (rest (not_before sensor) no_sequence e l i f)) (go (own sensor (get_or l i no_sequence)))
  where
    go : (b : Bool) → e ∷ cond b (set l i (entry sensor q)) (inserted i (entry sensor q) l) ≡ cond b (e ∷ set l i (entry sensor q)) (e ∷ inserted i (entry sensor q) l)
    go true = refl
    go false = refl

pub noted_none : (sensor q : ℕ) (l : List SensorSequence) → first_at (not_before sensor) l ≡ None → noted sensor q l ≡ inserted (length l) (entry sensor q) l
unfolding noted first_at
noted_none sensor q [] h = refl
noted_none sensor q (e ∷ l) h = go (not_before sensor e) (first_at (not_before sensor) l) (noted_none sensor q l) h
  where
    go : (b : Bool) (o : Option ℕ) → (o ≡ None → noted sensor q l ≡ inserted (length l) (entry sensor q) l) → cond b (Some 0) (one_place_on o) ≡ None
        → cond b (entry sensor q ∷ cond (own sensor e) l (e ∷ l)) (e ∷ noted sensor q l) ≡ e ∷ inserted (length l) (entry sensor q) l
    go true o w h = cc
    go false None w h = ap (λ (r : List SensorSequence). e ∷ r) (w refl)
    go false (Some j) w h = cc

-- a sensor that is new: there must be room
new : (most sensor q : ℕ) (l : List SensorSequence) (i : ℕ) → last_of sensor l ≡ None → noted sensor q l ≡ inserted i (entry sensor q) l
    → noted_in most sensor q l ≡ inserted_in most i (entry sensor q) l
unfolding noted_in room_for
new most sensor q l i h e = rw (h, e)

-- a sensor that is known
known_noted : (most sensor q x : ℕ) (l m : List SensorSequence) → last_of sensor l ≡ Some x → noted sensor q l ≡ m → noted_in most sensor q l ≡ m
unfolding noted_in room_for
known_noted most sensor q x l m h e = rw (h, e)

-- a search for the sensor's place answered r, where n places are taken
module _ (a : List SensorSequence) (count n sensor : ℕ) (size : length a ≡ 32) (taken : n ≡ min count 32) (r : Option ℕ) (answer : r ≡ first_at (not_before sensor) (take count a)) where
  abbrev l : List SensorSequence
  l = take n a

  abbrev here : ℕ → SensorSequence
  here i = get_or a i no_sequence

  front : take count a ≡ l
  front = rows a 32 count n size taken

  among : first_at (not_before sensor) l ≡ r
  among = sym (answer ∙ ap (first_at (not_before sensor)) front)

  at_place : (i : ℕ) → r ≡ Some i → Leads (not_before sensor) no_sequence l i
  at_place i e = first_leads (not_before sensor) no_sequence l i (among ∙ e)

  no_place : r ≡ None → first_at (not_before sensor) l ≡ None
  no_place e = among ∙ e

  pub seat_inside : (i : ℕ) → r ≡ Some i → i < n
  seat_inside i e = omega (arith, (at_place i e).inside, rows_length a 32 count n size taken)

  same_element : (i : ℕ) → r ≡ Some i → get_or l i no_sequence ≡ here i
  same_element i e = get_or-take n a i no_sequence (seat_inside i e)

  is_own : (i : ℕ) → r ≡ Some i → (here i).sensor ≡ sensor → own sensor (get_or l i no_sequence) ≡ true
  is_own i e h = ap (own sensor) (same_element i e) ∙ eq-eqb (here i).sensor sensor h

  is_other : (i : ℕ) → r ≡ Some i → ((here i).sensor ≡ sensor → ⊥) → own sensor (get_or l i no_sequence) ≡ false
  is_other i e h = ap (own sensor) (same_element i e) ∙ ne_eqb (here i).sensor sensor h

  last_own : (i : ℕ) → r ≡ Some i → (here i).sensor ≡ sensor → last_of sensor l ≡ Some (here i).sequence
  last_own i e h = rw (is_own i e h, same_element i e) at (last_at sensor l i (at_place i e))

  last_other : (i : ℕ) → r ≡ Some i → ((here i).sensor ≡ sensor → ⊥) → last_of sensor l ≡ None
  last_other i e h = rw (is_other i e h) at (last_at sensor l i (at_place i e))

  pub last_there : (i : ℕ) → r ≡ Some i → last_of sensor (take count a) ≡ then_some (own sensor (here i)) (here i).sequence
  last_there i e = ap (last_of sensor) front ∙ (rw (same_element i e) at (last_at sensor l i (at_place i e))) ∙ go (own sensor (here i))
    where
      go : (b : Bool) → cond b (Some (here i).sequence) None ≡ then_some b (here i).sequence
      go true = refl
      go false = refl

  pub last_is_nowhere : r ≡ None → last_of sensor (take count a) ≡ None
  last_is_nowhere e = ap (last_of sensor) front ∙ last_none sensor l (no_place e)

  module _ (q : ℕ) where
    across : (i : ℕ) → noted_in 32 sensor q l ≡ inserted_in 32 i (entry sensor q) l → inserted_in 32 i (entry sensor q) (take count a) ≡ noted_in 32 sensor q (take count a)
    across i e = ap (inserted_in 32 i (entry sensor q)) front ∙ sym (ap (noted_in 32 sensor q) front ∙ e)

    pub noted_behind : r ≡ None → inserted_in 32 n (entry sensor q) (take count a) ≡ noted_in 32 sensor q (take count a)
    noted_behind e =
        across n (new 32 sensor q l n (last_none sensor l (no_place e))
        (noted_none sensor q l (no_place e) ∙ ap (λ (k : ℕ). inserted k (entry sensor q) l) (rows_length a 32 count n size taken)))

    pub noted_among : (i : ℕ) → r ≡ Some i → ((here i).sensor ≡ sensor → ⊥) → inserted_in 32 i (entry sensor q) (take count a) ≡ noted_in 32 sensor q (take count a)
    noted_among i e h = across i (new 32 sensor q l i (last_other i e h) (rw (is_other i e h) at (noted_at sensor q l i (at_place i e))))

    pub noted_own : (i : ℕ) → r ≡ Some i → (here i).sensor ≡ sensor → table (set a i (entry sensor q)) n ≡ over_table (noted_in 32 sensor q (take count a)) a
    noted_own i e h =
        stored a 32 count n size taken (noted_in 32 sensor q) i (entry sensor q) (seat_inside i e)
        (known_noted 32 sensor q (here i).sequence l (set l i (entry sensor q)) (last_own i e h) (rw (is_own i e h) at (noted_at sensor q l i (at_place i e))))

-- ---- room

pub room_known : (l : List SensorSequence) (sensor : ℕ) → true ≡ is_some (last_of sensor l) → true ≡ room_for 32 sensor l
unfolding room_for
room_known l sensor h = rw (sym h)

pub room_new : (a : List SensorSequence) (count sensor : ℕ) → length a ≡ 32 → false ≡ is_some (last_of sensor (take count a)) → ltb count 32 ≡ room_for 32 sensor (take count a)
unfolding room_for
room_new a count sensor size h = rw (sym h) (sym (count_room a 32 count size))

-- ---- an entry put among the others

-- the first n elements from i on copied one place up, and x stored at i
opened : {A : Type 0} (d x : A) (i n : ℕ) (l : List A) → i ≤ n → n < length l → set (paste l (i + 1) (drop i l) (n - i)) i x ≡ lay (inserted i x (take n l)) l
unfolding lay
opened {A} d x i n l h r =
    let y : A = get_or l i d in
    let t : List A = take (n - i) (drop i l) in
    let e : i + 1 + (n - i) ≡ n + 1 = omega arith in
    let f : take i l ≡ take i (take n l) = sym (take-take i n l h) in
    let g : t ≡ drop i (take n l) = take_drop i n l h in
    let w : take (i + 1) l ≡ take i l ++ (y ∷ []) = ap (λ (k : ℕ). take k l) (add-one i) ∙ take-suc l i d (omega arith) in
    let k : length (inserted i x (take n l)) ≡ n + 1 = length-append (take i (take n l)) (x ∷ drop i (take n l)) ∙ omega (arith, length-take-le n l (omega arith), length-take-le i (take n l) (omega (arith, length-take-le n l (omega arith))), length-drop i (take n l)) in
    rw (e, k)
    (ap (λ (q : List A). set (q ++ t ++ drop (n + 1) l) i x) w
    ∙ ap (λ (q : List A). set q i x) (append_assoc (take i l ++ (y ∷ [])) t (drop (n + 1) l) ∙ append_snoc (take i l) y (t ++ drop (n + 1) l))
    ∙ set_at (take i l) y (t ++ drop (n + 1) l) x i (length-take-le i l (omega arith))
    ∙ sym (append_assoc (take i l) (x ∷ t) (drop (n + 1) l))
    ∙ ap (λ (q : List A). q ++ (x ∷ t) ++ drop (n + 1) l) f
    ∙ ap (λ (q : List A). take i (take n l) ++ (x ∷ q) ++ drop (n + 1) l) g)
  where
    take_drop : (i n : ℕ) (l : List A) → i ≤ n → take (n - i) (drop i l) ≡ drop i (take n l)
    take_drop zero n l h = ap (λ (k : ℕ). take k l) (sub-zero n)
    take_drop (suc i) zero l h = absurd (omega arith)
    take_drop (suc i) (suc n) [] h = take-nil (suc n - suc i)
    take_drop (suc i) (suc n) (y ∷ l) h = ap (λ (k : ℕ). take k (drop i l)) (suc-sub-suc n i) ∙ take_drop i n l (omega arith)

module _ (a : List SensorSequence) (count n : ℕ) (size : length a ≡ 32) (taken : n ≡ min count 32) (i : ℕ) (x : SensorSequence) where
  pub inserted_full : 32 ≤ n → table a n ≡ over_table (inserted_in 32 i x (take count a)) a
  inserted_full h = unchanged a 32 count n size taken (inserted_in 32 i x) (rw (le-ltb (length (take n a)) 32 (omega (arith, rows_length a 32 count n size taken))))

  pub inserted_room : i ≤ n → n < 32 → table (set (paste a (i + 1) (drop i a) (n - i)) i x) (n + 1) ≡ over_table (inserted_in 32 i x (take count a)) a
  inserted_room h k =
      grown a 32 count n size taken (inserted_in 32 i x) i x _ h
      (rw (lt-ltb (length (take n a)) 32 (omega (arith, rows_length a 32 count n size taken))))
      (opened no_sequence x i n a h (omega arith))
