-- A finite sum has finite terms. Assumes nothing.
use mathlib.Core.Path.{◌≡◌, sym, subst}
use mathlib.Core.Logic.{◌⊎◌, inl, inr}
use mathlib.Core.Bool.{true}
use Prim.Native.Nat.{ℕ, zero, suc, ◌≤◌, ◌<◌}
use native.Mathlib.Nat.{eq-or-lt_of_le}
use native.Mathlib.Omega.{arith}
use lib.Ieee.{Float}
use lib.Ieee.Scale.{finite}
use Rattle.number.proofs.Finite.{add_finite}
use Rattle.matrix.specs.Matrix.{Matrix, entry, sum_to, total}

pub terms_finite : (n : ℕ) (f : ℕ → Float) → finite (sum_to n f) ≡ true → (k : ℕ) → k ≤ n → finite (f k) ≡ true
terms_finite zero f p k h = let e : 0 ≡ k = omega (arith, h) in subst (λ (x : ℕ). finite (f x) ≡ true) e p
terms_finite (suc n) f p k h = go (eq-or-lt_of_le h) (terms_finite n f (add_finite (sum_to n f) (f (suc n)) p).0)
  where
    go : (k ≡ suc n) ⊎ (k < suc n) → ((k : ℕ) → k ≤ n → finite (f k) ≡ true) → finite (f k) ≡ true
    go (inl e) earlier = subst (λ (x : ℕ). finite (f x) ≡ true) (sym e) (add_finite (sum_to n f) (f (suc n)) p).1
    go (inr l) earlier = earlier k (omega (arith, l))

-- the entries of a matrix whose total is finite
pub entries_finite : (n p : ℕ) (a : Matrix) → finite (total (suc n) (suc p) a) ≡ true → (i j : ℕ) → i ≤ n → j ≤ p → finite (entry a i j) ≡ true
entries_finite n p a t i j hi hj = terms_finite n (λ i. entry a i j) (terms_finite p (λ j. sum_to n (λ i. entry a i j)) t j hj) i hi
