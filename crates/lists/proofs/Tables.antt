-- What stores do to a table, as the list that it holds. Assumes nothing.
use Rattle.std.specs.Prelude.{Some, slice_get}
use mathlib.Core.Path.{◌≡◌, refl, ap, sym, ◌∙◌}
use mathlib.Core.Bool.{true}
use mathlib.Core.List.{List, [], ◌∷◌, ◌++◌, map}
use Prim.Native.Nat.{ℕ, suc, ◌+◌, ◌-◌, ◌≤◌, ◌<◌, min}
use native.Mathlib.Decide.{dec_le}
use native.Mathlib.Omega.{arith}
use borrow.Author.Tests.{lt-ltb, le-ltb}
use lib.Dec.{ltb}
use lib.ListN.{length, take, drop, get_or, set, length-append, length-map, length-take, length-drop, length-set, take-append-drop}
use lib.Seq.{length-take-le, get_or-take, take-take, take-set-le, take-set-lt, drop-set-lt, set-get_or, set_out}
use Rattle.lists.specs.Lay.{lay}
use Rattle.lists.specs.Table.{table, over_table, pushed, inserted, swap_remove}
use Rattle.std.proofs.lemmas.Option.{slice_get-get_or}
use Rattle.lists.proofs.Loops.{Mapped}
use Rattle.lists.proofs.Laying.{lay_front, push_lay, store_lay, take_min}

-- the count itself tells whether there is room
pub count_room : {A : Type 0} (a : List A) (most count : ℕ) → length a ≡ most → ltb (length (take count a)) most ≡ ltb count most
count_room a most count size = go (dec_le most count)
  where
    go : Dec (most ≤ count) → ltb (length (take count a)) most ≡ ltb count most
    go (yes h) = le-ltb (length (take count a)) most (omega (arith, length-take count a)) ∙ sym (le-ltb count most h)
    go (no h) = lt-ltb (length (take count a)) most (omega (arith, length-take count a)) ∙ sym (lt-ltb count most (omega arith))

pub pushed_fits : {A : Type 0} (most : ℕ) (x : A) (l : List A) → ltb (length l) most ≡ true → pushed most x l ≡ l ++ (x ∷ [])
unfolding pushed
pushed_fits most x l h = rw h

-- a of `most` places, of which n are taken
module _ {A : Type 0} (a : List A) (most count n : ℕ) (size : length a ≡ most) (taken : n ≡ min count most) where
  pub rows : take count a ≡ take n a
  rows =
      let e : min count (length a) ≡ n = omega arith in
      take_min count a ∙ ap (λ (k : ℕ). take k a) e

  within : n ≤ length a
  within = omega arith

  pub rows_length : length (take n a) ≡ n
  rows_length = length-take-le n a within

  -- a table by its parts
  pub laid : (op : List A → List A) (l m : List A) (k : ℕ) → op (take n a) ≡ l → m ≡ lay l a → k ≡ length l → table m k ≡ over_table (op (take count a)) a
  laid op l m k e p q = (λ i. record { array = p i; count = q i }) ∙ ap (λ (r : List A). over_table r a) (sym (ap op rows ∙ e))

  -- nothing is stored
  pub unchanged : (op : List A → List A) → op (take n a) ≡ take n a → table a n ≡ over_table (op (take count a)) a
  unchanged op e = laid op (take n a) a n e (sym (lay_front n a within)) (sym rows_length)

  -- all are changed
  pub mapped : (f : A → A) (m : List A) (i : ℕ) → Mapped f a m i → i ≡ n → table m n ≡ over_table (map f (take count a)) a
  mapped f m i s e =
      laid (map f) (map f (take n a)) m n refl
      (s.slots ∙ ap (λ (k : ℕ). lay (map f (take k a)) a) e)
      (sym (length-map (take n a) f ∙ rows_length))

  -- one is stored in a place that is taken
  pub stored : (op : List A → List A) (i : ℕ) (x : A) → i < n → op (take n a) ≡ set (take n a) i x → table (set a i x) n ≡ over_table (op (take count a)) a
  stored op i x h e = laid op (set (take n a) i x) (set a i x) n e (store_lay a n i x h within) (sym (length-set (take n a) i x ∙ rows_length))

  pub replaced : (i : ℕ) (x : A) → i < n → table (set a i x) n ≡ over_table (set (take count a) i x) a
  replaced i x h = stored (λ l. set l i x) i x h refl

  pub replaced_none : (i : ℕ) (x : A) → n ≤ i → table a n ≡ over_table (set (take count a) i x) a
  replaced_none i x h = unchanged (λ l. set l i x) (set_out (take n a) i x (omega (arith, rows_length)))

  -- one more is among them
  pub grown : (op : List A → List A) (i : ℕ) (x : A) (m : List A) → i ≤ n → op (take n a) ≡ inserted i x (take n a) → m ≡ lay (inserted i x (take n a)) a → table m (n + 1) ≡ over_table (op (take count a)) a
  grown op i x m h e p =
      laid op (inserted i x (take n a)) m (n + 1) e p
      (sym (length-append (take i (take n a)) (x ∷ drop i (take n a)) ∙ omega (arith, length-take-le i (take n a) (omega (arith, rows_length)), length-drop i (take n a), rows_length)))

  pub pushed_room : (x : A) → n < most → table (set a n x) (n + 1) ≡ over_table (pushed most x (take count a)) a
  unfolding pushed
  pushed_room x h =
      laid (pushed most x) (take n a ++ (x ∷ [])) (set a n x) (n + 1)
      (rw (rows_length, lt-ltb n most h))
      (push_lay a n x (omega arith))
      (sym (length-append (take n a) (x ∷ []) ∙ ap (λ (k : ℕ). k + 1) rows_length))

  pub pushed_full : (x : A) → most ≤ n → table a n ≡ over_table (pushed most x (take count a)) a
  unfolding pushed
  pushed_full x h = unchanged (pushed most x) (rw (rows_length, le-ltb n most h))

  last_of : (d : A) → 0 < n → slice_get (take n a) (n - 1) ≡ Some (get_or a (n - 1) d)
  last_of d h =
      slice_get-get_or (take n a) (n - 1) d (omega (arith, rows_length))
      ∙ ap Some (get_or-take n a (n - 1) d (omega arith))

  -- the last of the taken places is given up, once its element stands in another
  shorter : (i : ℕ) (d : A) → i < n → set a i (get_or a (n - 1) d) ≡ lay (take (n - 1) (set (take n a) i (get_or a (n - 1) d))) a
  unfolding lay
  shorter i d h =
      let z = get_or a (n - 1) d in
      let k : length (take (n - 1) (set a i z)) ≡ n - 1 = length-take-le (n - 1) (set a i z) (omega (arith, length-set a i z)) in
      let e : take (n - 1) (set (take n a) i z) ≡ take (n - 1) (set a i z) =
      ap (take (n - 1)) (sym (take-set-lt n a i z h)) ∙ take-take (n - 1) n (set a i z) (omega arith) in
      rw (e, k) (sym (go z refl (dec_le (suc i) (n - 1))))
    where
      go : (z : A) → z ≡ get_or a (n - 1) d → Dec (suc i ≤ n - 1) → take (n - 1) (set a i z) ++ drop (n - 1) a ≡ set a i z
      go z w (yes q) = ap (λ (r : List A). take (n - 1) (set a i z) ++ r) (sym (drop-set-lt (n - 1) a i z q)) ∙ take-append-drop (n - 1) (set a i z)
      go z w (no q) =
          let e : n - 1 ≡ i = omega arith in
          ap (λ (r : List A). r ++ drop (n - 1) a) (take-set-le (n - 1) a i z (omega arith))
          ∙ take-append-drop (n - 1) a
          ∙ sym (ap (λ (y : A). set a i y) (w ∙ ap (λ (j : ℕ). get_or a j d) e) ∙ set-get_or a i d)

  pub swapped : (i : ℕ) (d : A) → i < n → table (set a i (get_or a (n - 1) d)) (n - 1) ≡ over_table (swap_remove i (take count a)) a
  unfolding swap_remove
  swapped i d h =
      let z = get_or a (n - 1) d in
      laid (swap_remove i) (take (n - 1) (set (take n a) i z)) (set a i z) (n - 1)
      (rw (rows_length, lt-ltb i n h, last_of d (omega arith)) (ap (λ (k : ℕ). take (k - 1) (set (take n a) i z)) rows_length))
      (shorter i d h)
      (sym (length-take-le (n - 1) (set (take n a) i z) (omega (arith, length-set (take n a) i z, rows_length))))

  pub swapped_none : (i : ℕ) → n ≤ i → table a n ≡ over_table (swap_remove i (take count a)) a
  unfolding swap_remove
  swapped_none i h = unchanged (swap_remove i) (rw (rows_length, le-ltb i n h))
