-- Sums by parts: over the places that a mask names, and over masks that no place is in two of.
use mathlib.Core.Path.{◌≡◌, refl}
use mathlib.Core.Logic.{◌⊎◌, inl, inr}
use mathlib.Core.Bool.{Bool, true, false, cond}
use Prim.Native.Nat.{ℕ, zero, suc, ◌<◌}
use native.Mathlib.Omega.{arith}
use Rattle.whole.specs.Integer.{Integer, 0_z, ◌+Z◌, ◌≤Z◌, ◌≈◌, sum}
use Rattle.whole.proofs.OneOne.{sum_le, sum_same, sum_add, sum_but}
use Rattle.groups.specs.Picks.{ticks}

-- f where the mask is on, else 0
abbrev pub part : (ℕ → Bool) → (ℕ → Integer) → ℕ → Integer
part m f j = cond (m j) (f j) 0_z

-- the places that the mask names, in order
pub sum_part : (m : ℕ → Bool) (f h : ℕ → Integer) (n : ℕ) → ((j : ℕ) → j < n → m j ≡ true → h (ticks m j) ≈ f j) → sum h (ticks m n) ≈ sum (part m f) n
unfolding sum ticks
sum_part m f h zero e = omega arith
sum_part m f h (suc n) e = go (m n) refl (sum_part m f h n (λ j l. e j (omega arith)))
  where
    go : (b : Bool) → m n ≡ b → sum h (ticks m n) ≈ sum (part m f) n → sum h (cond b (suc (ticks m n)) (ticks m n)) ≈ sum (part m f) n +Z cond b (f n) 0_z
    go true q r = omega (arith, e n (omega arith) q)
    go false q r = omega arith

sum_zero : (n : ℕ) → sum (λ k. 0_z) n ≈ 0_z
unfolding sum
sum_zero zero = omega arith
sum_zero (suc n) = omega (arith, sum_zero n)

sum_swap : (a : ℕ → ℕ → Integer) (n m : ℕ) → sum (λ j. sum (λ g. a g j) n) m ≈ sum (λ g. sum (a g) m) n
unfolding sum
sum_swap a n zero = omega (arith, sum_zero n)
sum_swap a n (suc m) = omega (arith, sum_swap a n m, sum_add (λ g. sum (a g) m) (λ g. a g m) n)

-- the masks that place j is in: one, or none
abbrev pub Alone : (ℕ → ℕ → Bool) → ℕ → ℕ → Type 0
Alone M n j = (g : ℕ) × (g < n) × (M g j ≡ true) × ((k : ℕ) → k < n → (k ≡ g → ⊥) → M k j ≡ false)

abbrev pub Nowhere : (ℕ → ℕ → Bool) → ℕ → ℕ → Type 0
Nowhere M n j = (k : ℕ) → k < n → M k j ≡ false

module _ (M : ℕ → ℕ → Bool) (n : ℕ) where
  parts_one : (f : ℕ → Integer) (j : ℕ) → Alone M n j → sum (λ g. part (M g) f j) n ≈ f j
  parts_one f j a =
      let r = sum_but (λ g. part (M g) f j) (λ g. 0_z) n a.0 a.1 (λ k l q. rw (a.3 k l q) (omega arith)) in
      let s : cond (M a.0 j) (f j) 0_z ≈ f j = rw a.2 (omega arith) in
      omega (arith, sum_zero n)

  parts_none : (f : ℕ → Integer) (j : ℕ) → Nowhere M n j → sum (λ g. part (M g) f j) n ≈ 0_z
  parts_none f j a = let r = sum_same (λ g. part (M g) f j) (λ g. 0_z) n (λ k l. rw (a k l) (omega arith)) in omega (arith, sum_zero n)

  -- no more in each part, and no more at the places in no part: no more in all
  pub parts_le : (f h : ℕ → Integer) (m : ℕ) → ((j : ℕ) → j < m → Alone M n j ⊎ (Nowhere M n j × (f j ≤Z h j))) → ((g : ℕ) → g < n → sum (part (M g) f) m ≤Z sum (part (M g) h) m) → sum f m ≤Z sum h m
  parts_le f h m each le =
      let F : ℕ → Integer = λ j. sum (λ g. part (M g) f j) n in
      let H : ℕ → Integer = λ j. sum (λ g. part (M g) h j) n in
      let p = sum_le (λ j. f j +Z H j) (λ j. h j +Z F j) m at in
      let q = sum_add f H m in
      let r = sum_add h F m in
      let s = sum_swap (λ g. part (M g) f) n m in
      let t = sum_swap (λ g. part (M g) h) n m in
      let u = sum_le (λ g. sum (part (M g) f) m) (λ g. sum (part (M g) h) m) n le in
      omega arith
    where
      at : (j : ℕ) → j < m → f j +Z sum (λ g. part (M g) h j) n ≤Z h j +Z sum (λ g. part (M g) f j) n
      at j l = elim (each j l) [ inl a ↦ omega (arith, parts_one f j a, parts_one h j a) | inr a ↦ omega (arith, a.1, parts_none f j a.0, parts_none h j a.0) ]
