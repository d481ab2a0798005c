-- Laws of a list laid over the front of another. Assumes nothing.
use mathlib.Core.Path.{◌≡◌, ap, sym, ◌∙◌}
use mathlib.Core.List.{List, [], ◌∷◌, ◌++◌, append_assoc, map}
use Prim.Native.Nat.{ℕ, suc, ◌+◌, ◌≤◌, ◌<◌, ◌-◌, min}
use native.Mathlib.Numerals.{add-one}
use native.Mathlib.Decide.{dec_le}
use native.Mathlib.Omega.{arith}
use lib.ListN.{length, take, drop, get_or, set, length-append, length-drop, take-append-drop, length-set, length-map}
use lib.Seq.{take-append_seam, drop-append-add, drop-drop, drop-cons, set-append_seam, get_or-append-add, get_or-drop, take_all, length-take-le, set-append_left, take-suc}
use Rattle.lists.specs.Lay.{lay}

module _ {A : Type 0} where
  pub take_lay : (l m : List A) → take (length l) (lay l m) ≡ l
  unfolding lay
  take_lay l m = take-append_seam l (drop (length l) m)

  pub length_lay : (l m : List A) → length l ≤ length m → length (lay l m) ≡ length m
  unfolding lay
  length_lay l m h = simp (length-append, length-drop) (omega arith)

  -- laying the front of m over m is m
  pub lay_front : (n : ℕ) (m : List A) → n ≤ length m → lay (take n m) m ≡ m
  unfolding lay
  lay_front n m h = rw (length-take-le n m h) (take-append-drop n m)

  -- of two lists laid one after the other the longer one covers the one before
  pub lay_lay : (l k m : List A) → length k ≤ length l → lay l (lay k m) ≡ lay l m
  unfolding lay
  lay_lay l k m h =
      let split : length k + (length l - length k) ≡ length l = omega arith in
      ap (λ (q : List A). l ++ q)
      (ap (λ (n : ℕ). drop n (k ++ drop (length k) m)) (sym split)
      ∙ drop-append-add k (drop (length k) m) (length l - length k)
      ∙ drop-drop (length l - length k) (length k) m
      ∙ ap (λ (n : ℕ). drop n m) split)

  -- one more element, stored at the seam
  pub set_lay : (l m : List A) (x : A) → length l < length m → set (lay l m) (length l) x ≡ lay (l ++ (x ∷ [])) m
  unfolding lay
  set_lay l m x h =
      ap (λ (q : List A). set (l ++ q) (length l) x) (drop-cons m (length l) x h)
      ∙ set-append_seam l (get_or m (length l) x) (drop (suc (length l)) m) x
      ∙ sym (append_assoc l (x ∷ []) (drop (suc (length l)) m))
      ∙ ap (λ (k : ℕ). (l ++ (x ∷ [])) ++ drop k m) (sym (length-append l (x ∷ []) ∙ add-one (length l)))

  -- behind the seam m is as it was
  pub get_d_lay : (l m : List A) (i : ℕ) (d : A) → length l ≤ i → get_or (lay l m) i d ≡ get_or m i d
  unfolding lay
  get_d_lay l m i d h =
      ap (λ (k : ℕ). get_or (l ++ drop (length l) m) k d) (sym split)
      ∙ get_or-append-add l (drop (length l) m) (i - length l) d
      ∙ get_or-drop (length l) m (i - length l) d
      ∙ ap (λ (k : ℕ). get_or m k d) split
    where
      split : length l + (i - length l) ≡ i
      split = omega arith

  -- a store behind the first n
  pub push_lay : (m : List A) (n : ℕ) (x : A) → n < length m → set m n x ≡ lay (take n m ++ (x ∷ [])) m
  push_lay m n x h =
      rw (lay_front n m (omega arith), length-take-le n m (omega arith)) at
      (set_lay (take n m) m x (rw (length-take-le n m (omega arith)) h))

  -- a store within the first n
  pub store_lay : (m : List A) (n i : ℕ) (x : A) → i < n → n ≤ length m → set m i x ≡ lay (set (take n m) i x) m
  unfolding lay
  store_lay m n i x h k =
      ap (λ (l : List A). set l i x) (sym (take-append-drop n m))
      ∙ set-append_left (take n m) (drop n m) i x (rw (length-take-le n m k) h)
      ∙ ap (λ (j : ℕ). set (take n m) i x ++ drop j m) (sym (length-set (take n m) i x ∙ length-take-le n m k))

-- the length of a field that is an array of structs: what owning it tells is of a map over the list
pub length_mapped : {X Y : Type 0} (f : X → Y) (l : List X) (n : ℕ) → length (map f l) ≡ n → length l ≡ n
length_mapped f l n e = sym (length-map l f) ∙ e

pub take_min : {A : Type 0} (n : ℕ) (l : List A) → take n l ≡ take (min n (length l)) l
take_min {A} n l = go (dec_le n (length l))
  where
    go : Dec (n ≤ length l) → take n l ≡ take (min n (length l)) l
    go (yes h) = let e : min n (length l) ≡ n = omega arith in rw e
    go (no h) = take_all n l (omega arith) ∙ sym (take_all (min n (length l)) l (omega arith))

-- laying the first places of m over m is m, however many they are
pub lay_own : {A : Type 0} (n : ℕ) (m : List A) → lay (take n m) m ≡ m
lay_own {A} n m = ap (λ (q : List A). lay q m) (take_min n m) ∙ lay_front (min n (length m)) m (omega arith)

-- one place more of l copied over m
pub copy_lay : {A : Type 0} (l m : List A) (i : ℕ) (a : A) → i < length l → i < length m → set (lay (take i l) m) i (get_or l i a) ≡ lay (take (i + 1) l) m
copy_lay {A} l m i a h g =
    let z : length (take i l) ≡ i = length-take-le i l (omega arith) in
    ap (λ (k : ℕ). set (lay (take i l) m) k (get_or l i a)) (sym z)
    ∙ set_lay (take i l) m (get_or l i a) (omega (arith, z))
    ∙ ap (λ (q : List A). lay q m) (sym (ap (λ (k : ℕ). take k l) (add-one i) ∙ take-suc l i a h))
