-- What a loop over an array has done by index i, as a record that its invariant cites, with the law of each kind of turn. Assumes nothing.
use mathlib.Core.Path.{◌≡◌, refl, ap, sym, ◌∙◌}
use mathlib.Core.List.{List, [], ◌∷◌, ◌++◌, map}
use Prim.Native.Nat.{ℕ, suc, zero, ◌+◌, ◌-◌, ◌≤◌, ◌<◌, zero-le}
use native.Mathlib.Omega.{arith}
use native.Mathlib.Numerals.{add-one}
use lib.ListN.{length, take, drop, get_or, set, length-map, length-drop}
use lib.Seq.{take-suc, length-take-le, take-nil, paste}
use Rattle.lists.specs.Lay.{lay}
use Rattle.lists.proofs.Laying.{set_lay, get_d_lay}
use Rattle.lists.proofs.Filling.{map_append}

-- l's first i elements were changed by f in place
pub record Mapped {A : Type 0} (f : A → A) (l m : List A) (i : ℕ) : Type 0 where
  pub read : i ≤ length l
  pub slots : m ≡ lay (map f (take i l)) l

module _ {A : Type 0} (f : A → A) where
  pub mapped_start : (l : List A) → Mapped f l l 0
  unfolding lay
  mapped_start l = record { read = zero-le; slots = refl }

  mapped_length : (l : List A) (i : ℕ) → i ≤ length l → length (map f (take i l)) ≡ i
  mapped_length l i h = length-map (take i l) f ∙ length-take-le i l h

  pub mapped_more : (l m : List A) (i : ℕ) (d : A) → Mapped f l m i → i < length l → Mapped f l (set m i (f (get_or m i d))) (i + 1)
  mapped_more l m i d s h =
      let k : length (map f (take i l)) ≡ i = mapped_length l i s.read in
      let e : get_or m i d ≡ get_or l i d =
      ap (λ (q : List A). get_or q i d) s.slots ∙ get_d_lay (map f (take i l)) l i d (omega arith) in
      let more : map f (take (i + 1) l) ≡ map f (take i l) ++ (f (get_or l i d) ∷ []) =
      ap (λ (n : ℕ). map f (take n l)) (add-one i) ∙ ap (map f) (take-suc l i d h) ∙ map_append f (take i l) (get_or l i d ∷ []) in
      record {
        read = omega arith;
        slots =
            ap (λ (x : A). set m i (f x)) e
            ∙ ap (λ (q : List A). set q i (f (get_or l i d))) s.slots
            ∙ ap (λ (n : ℕ). set (lay (map f (take i l)) l) n (f (get_or l i d))) (sym k)
            ∙ set_lay (map f (take i l)) l (f (get_or l i d)) (omega arith)
            ∙ ap (λ (q : List A). lay q l) (sym more);
      }

-- l's elements from the second on were moved one place down, i of them
pub record Shifted {A : Type 0} (l m : List A) (i : ℕ) : Type 0 where
  pub read : i < length l
  pub slots : m ≡ lay (take i (drop 1 l)) l

module _ {A : Type 0} where
  shifted_length : (l : List A) (i : ℕ) → i < length l → length (take i (drop 1 l)) ≡ i
  shifted_length l i h = length-take-le i (drop 1 l) (omega (arith, length-drop 1 l))

  -- a copy of all but the first of n elements, one place down
  pub shifted_copy : (l : List A) (n : ℕ) → 0 < n → n ≤ length l → Shifted l (paste l 0 (drop 1 l) (n - 1)) (n - 1)
  unfolding lay
  shifted_copy l n z h =
      let k : length (take (n - 1) (drop 1 l)) ≡ n - 1 = shifted_length l (n - 1) (omega arith) in
      let e : 0 + (n - 1) ≡ n - 1 = omega arith in
      record { read = omega arith; slots = rw (k, e) refl }

  -- the first of n elements forgotten, and x put behind the others
  pub shifted_store : (l m : List A) (n : ℕ) (x : A) → 0 < n → n ≤ length l → Shifted l m (n - 1) → set m (n - 1) x ≡ lay (drop 1 (take n l) ++ (x ∷ [])) l
  shifted_store l m n x z h s =
      let k : length (take (n - 1) (drop 1 l)) ≡ n - 1 = shifted_length l (n - 1) s.read in
      ap (λ (q : List A). set q (n - 1) x) s.slots
      ∙ ap (λ (j : ℕ). set (lay (take (n - 1) (drop 1 l)) l) j x) (sym k)
      ∙ set_lay (take (n - 1) (drop 1 l)) l x (omega arith)
      ∙ ap (λ (q : List A). lay (q ++ (x ∷ [])) l) (drop_one n l z)
    where
      drop_one : (n : ℕ) (l : List A) → 0 < n → take (n - 1) (drop 1 l) ≡ drop 1 (take n l)
      drop_one zero l z = absurd (omega arith)
      drop_one (suc n) [] z = take-nil (suc n - 1)
      drop_one (suc n) (y ∷ l) z = ap (λ (j : ℕ). take j l) one_less
        where
          one_less : suc n - 1 ≡ n
          one_less = omega arith
