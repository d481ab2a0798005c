-- Laws of a list sifted element by element. Assumes nothing.
use Rattle.std.specs.Prelude.{None, Option, Some}
use mathlib.Core.Path.{◌≡◌, refl, ap, sym, ◌∙◌}
use mathlib.Core.List.{List, [], ◌∷◌, ◌++◌}
use Prim.Native.Nat.{ℕ, suc, ◌+◌, ◌≤◌, ◌<◌, zero-le}
use native.Mathlib.Omega.{arith}
use native.Mathlib.Numerals.{add-one}
use lib.ListN.{length, take, get_or}
use lib.Seq.{take-suc, length-take-le}
use Rattle.lists.specs.Sift.{kept, sift}

module _ {A : Type 0} where
  kept_append : (o : Option A) (l m : List A) → kept o l ++ m ≡ kept o (l ++ m)
  kept_append None l m = refl
  kept_append (Some x) l m = refl

  sift_append : (f : A → Option A) (l m : List A) → sift f (l ++ m) ≡ sift f l ++ sift f m
  unfolding sift
  sift_append f [] m = refl
  sift_append f (x ∷ xs) m = ap (kept (f x)) (sift_append f xs m) ∙ sym (kept_append (f x) (sift f xs) (sift f m))

  -- one more element
  pub sift_more : (f : A → Option A) (l : List A) (i : ℕ) (d : A) → i < length l
      → sift f (take (i + 1) l) ≡ sift f (take i l) ++ kept (f (get_or l i d)) []
  unfolding sift
  sift_more f l i d h = rw (add-one, take-suc l i d) (sift_append f (take i l) (get_or l i d ∷ []))

  pub sift_length : (f : A → Option A) (l : List A) → length (sift f l) ≤ length l
  unfolding sift
  sift_length f [] = zero-le
  sift_length f (x ∷ xs) = go (f x) (sift_length f xs)
    where
      go : (o : Option A) → length (sift f xs) ≤ length xs → length (kept o (sift f xs)) ≤ suc (length xs)
      go None h = omega arith
      go (Some y) h = omega arith

  pub sift_take_length : (f : A → Option A) (l : List A) (i : ℕ) → i ≤ length l → length (sift f (take i l)) ≤ i
  sift_take_length f l i h = omega (arith, sift_length f (take i l), length-take-le i l h)
