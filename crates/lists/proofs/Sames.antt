-- The test for equal lists of numbers decides equality. Assumes nothing.
use mathlib.Core.Path.{◌≡◌, refl, ap, sym}
use mathlib.Core.List.{List, [], ◌∷◌}
use mathlib.Core.Bool.{Bool, true, false, true≢false, ◌&&◌}
use Prim.Native.Nat.{ℕ}
use lib.Dec.{eqb}
use lib.ListN.{length}
use borrow.Author.Tests.{eqb-true}
use Rattle.std.specs.Cmp.Lexicographic.{pointwise}
use Rattle.lists.specs.Same.{same}

pub same_true : (l m : List ℕ) → same l m ≡ true → l ≡ m
unfolding same
same_true [] [] e = refl
same_true [] (y ∷ ys) e = absurd (true≢false (sym e))
same_true (x ∷ xs) [] e = absurd (true≢false (sym e))
same_true (x ∷ xs) (y ∷ ys) e = go (eqb x y) refl (same_true xs ys) e
  where
    go : (b : Bool) → eqb x y ≡ b → (same xs ys ≡ true → xs ≡ ys) → (b && same xs ys) ≡ true → x ∷ xs ≡ y ∷ ys
    go true h rest r = λ i. eqb-true x y h i ∷ rest r i
    go false h rest r = absurd (true≢false (sym r))

pub same_not : (l m : List ℕ) → (l ≡ m → ⊥) → same l m ≡ false
same_not l m n = go (same l m) refl
  where
    go : (b : Bool) → same l m ≡ b → same l m ≡ false
    go true e = absurd (n (same_true l m e))
    go false e = e

-- std's test of two lists is the same
pub pointwise_is : (l m : List ℕ) → pointwise eqb l m ≡ same l m
unfolding same
pointwise_is [] [] = refl
pointwise_is [] (y ∷ m) = refl
pointwise_is (x ∷ l) [] = refl
pointwise_is (x ∷ l) (y ∷ m) = ap (λ (b : Bool). eqb x y && b) (pointwise_is l m)

pub same_length : (l m : List ℕ) → (length l ≡ length m → ⊥) → same l m ≡ false
same_length l m d = same_not l m (λ e. d (ap length e))
