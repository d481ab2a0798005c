-- Tests that all hold, and each of them. Assumes nothing.
use mathlib.Core.Path.{◌≡◌, refl, sym, ap₂, subst}
use mathlib.Core.Logic.{◌⊎◌, inl, inr}
use mathlib.Core.Bool.{Bool, true, false, ◌&&◌}
use Prim.Native.Nat.{ℕ, zero, suc, ◌<◌}
use native.Mathlib.Nat.{eq-or-lt_of_le, le_refl}
use native.Mathlib.Omega.{arith}
use Rattle.number.proofs.Zeros.{both}
use Rattle.matrix.specs.Matrix.{all_of}

pub all_true : (n : ℕ) (f : ℕ → Bool) → all_of n f ≡ true → (k : ℕ) → k < n → f k ≡ true
all_true zero f p k h = absurd (omega arith)
all_true (suc n) f p k h = go (eq-or-lt_of_le h) (all_true n f (both (all_of n f) (f n) p).0)
  where
    go : (suc k ≡ suc n) ⊎ (suc k < suc n) → ((k : ℕ) → k < n → f k ≡ true) → f k ≡ true
    go (inl e) earlier = let q : n ≡ k = omega (arith, e) in subst (λ (x : ℕ). f x ≡ true) q (both (all_of n f) (f n) p).1
    go (inr l) earlier = earlier k (omega (arith, l))

pub all_hold : (n : ℕ) (f : ℕ → Bool) → ((k : ℕ) → k < n → f k ≡ true) → all_of n f ≡ true
all_hold zero f h = refl
all_hold (suc n) f h = ap₂ ◌&&◌ (all_hold n f (λ k b. h k (omega (arith, b)))) (h n (le_refl (suc n)))

-- a test that says whether all hold
pub all_decided : (n : ℕ) (f : ℕ → Bool) (b : Bool) → (b ≡ true → (k : ℕ) → k < n → f k ≡ true) → (((k : ℕ) → k < n → f k ≡ true) → b ≡ true) → b ≡ all_of n f
all_decided n f true each whole = sym (all_hold n f (each refl))
all_decided n f false each whole = go (all_of n f) (λ p. whole (all_true n f p))
  where
    go : (r : Bool) → (r ≡ true → false ≡ true) → false ≡ r
    go true h = h refl
    go false h = refl
