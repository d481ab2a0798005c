-- An array filled from another one, element by element, and `map` over lists that are joined or laid over others. Assumes nothing.
use mathlib.Core.Path.{◌≡◌, refl, ap, sym, ◌∙◌}
use mathlib.Core.List.{List, [], ◌∷◌, ◌++◌, map, append-nil}
use Prim.Native.Nat.{ℕ, zero, suc, ◌+◌, ◌≤◌, ◌<◌, min, zero-le}
use native.Mathlib.Omega.{arith}
use native.Mathlib.Numerals.{add-one}
use lib.ListN.{length, take, drop, get_or, set, length-map, drop_of_length-le}
use lib.Seq.{take-suc, length-take-le, take_all}
use Rattle.lists.specs.Lay.{lay}
use Rattle.lists.proofs.Laying.{set_lay, take_min}

-- the first i elements of l, changed by f, stand in m; the others are m₀'s
pub record Filled {A B : Type 0} (f : A → B) (l : List A) (m₀ m : List B) (i : ℕ) : Type 0 where
  pub read : i ≤ length l
  pub slots : m ≡ lay (map f (take i l)) m₀

module _ {A B : Type 0} (f : A → B) where
  pub map_append : (l m : List A) → map f (l ++ m) ≡ map f l ++ map f m
  map_append [] m = refl
  map_append (x ∷ l) m = ap (λ (q : List B). f x ∷ q) (map_append l m)

  map_drop : (n : ℕ) (l : List A) → map f (drop n l) ≡ drop n (map f l)
  map_drop zero l = refl
  map_drop (suc n) [] = refl
  map_drop (suc n) (x ∷ l) = map_drop n l

  pub map_lay : (l m : List A) → map f (lay l m) ≡ lay (map f l) (map f m)
  unfolding lay
  map_lay l m =
      map_append l (drop (length l) m)
      ∙ ap (λ (q : List B). map f l ++ q) (map_drop (length l) m ∙ ap (λ (n : ℕ). drop n (map f m)) (sym (length-map l f)))

  pub filled_start : (l : List A) (m : List B) → Filled f l m m 0
  unfolding lay
  filled_start l m = record { read = zero-le; slots = refl }

  pub filled_more : (l : List A) (m₀ m : List B) (i : ℕ) (d : A) → Filled f l m₀ m i → i < length l → i < length m₀ → Filled f l m₀ (set m i (f (get_or l i d))) (i + 1)
  filled_more l m₀ m i d s h g =
      let k : length (map f (take i l)) ≡ i = length-map (take i l) f ∙ length-take-le i l s.read in
      let more : map f (take (i + 1) l) ≡ map f (take i l) ++ (f (get_or l i d) ∷ []) =
      ap (λ (n : ℕ). map f (take n l)) (add-one i) ∙ ap (map f) (take-suc l i d h) ∙ map_append (take i l) (get_or l i d ∷ []) in
      record {
        read = omega arith;
        slots =
            ap (λ (q : List B). set q i (f (get_or l i d))) s.slots
            ∙ ap (λ (n : ℕ). set (lay (map f (take i l)) m₀) n (f (get_or l i d))) (sym k)
            ∙ set_lay (map f (take i l)) m₀ (f (get_or l i d)) (omega arith)
            ∙ ap (λ (q : List B). lay q m₀) (sym more);
      }

  -- every place filled
  pub filled_all : (l : List A) (m₀ m : List B) (i : ℕ) → length l ≡ length m₀ → Filled f l m₀ m i → length l ≤ i → m ≡ map f l
  unfolding lay
  filled_all l m₀ m i same s h =
      s.slots
      ∙ ap (λ (q : List A). map f q ++ drop (length (map f q)) m₀) (take_all i l h)
      ∙ ap (λ (q : List B). map f l ++ q) (drop_of_length-le m₀ {i = length (map f l)} (omega (arith, length-map l f, same)))
      ∙ append-nil (map f l)

  -- the first places filled, as many as a table's count says and there are
  pub filled_front : (l : List A) (m₀ m : List B) (i count : ℕ) → Filled f l m₀ m i → i ≡ min count (length l) → m ≡ lay (map f (take count l)) m₀
  filled_front l m₀ m i count s e =
      s.slots ∙ ap (λ (q : List A). lay (map f q) m₀) (ap (λ (k : ℕ). take k l) e ∙ sym (take_min count l))
