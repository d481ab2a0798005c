-- How many of the columns 1 .. k have no row.
use mathlib.Core.Path.{◌≡◌, refl}
use mathlib.Core.Bool.{Bool, true, false, cond}
use Prim.Native.Nat.{ℕ, zero, suc, ◌+◌, ◌≤◌, ◌<◌}
use native.Mathlib.Decide.{ℕ_discrete}
use native.Mathlib.Omega.{arith}
use borrow.Author.Tests.{eqb-true, eqb-false}
use lib.Dec.{eqb}

pub free_in : (ℕ → ℕ) → ℕ → ℕ
free_in p zero = 0
free_in p (suc k) = cond (eqb (p (suc k)) 0) 1 0 + free_in p k

pub free_same : (p q : ℕ → ℕ) (k : ℕ) → ((j : ℕ) → 0 < j → j ≤ k → eqb (p j) 0 ≡ eqb (q j) 0) → free_in p k ≡ free_in q k
unfolding free_in
free_same p q zero h = refl
free_same p q (suc k) h = rw (h (suc k) (omega arith) (omega arith), free_same p q k (λ j z l. h j z (omega arith)))

-- one column fewer is free
pub free_less : (p q : ℕ → ℕ) (k c : ℕ) → 0 < c → c ≤ k → eqb (p c) 0 ≡ true → eqb (q c) 0 ≡ false → ((j : ℕ) → 0 < j → j ≤ k → (j ≡ c → ⊥) → eqb (p j) 0 ≡ eqb (q j) 0) → free_in p k ≡ suc (free_in q k)
unfolding free_in
free_less p q zero c z l e f h = absurd (omega arith)
free_less p q (suc k) c z l e f h = go (ℕ_discrete (suc k) c) (λ m. free_less p q k c z m e f (λ j y w. h j y (omega arith)))
  where
    go : Dec (suc k ≡ c) → (c ≤ k → free_in p k ≡ suc (free_in q k)) → cond (eqb (p (suc k)) 0) 1 0 + free_in p k ≡ suc (cond (eqb (q (suc k)) 0) 1 0 + free_in q k)
    go (yes w) ih =
        let r = free_same p q k (λ j y m. h j y (omega arith) (λ v. omega arith)) in
        let x : ◌≡◌ {A = ℕ} (cond (eqb (p (suc k)) 0) 1 0) 1 = rw (w, e) in
        let y : ◌≡◌ {A = ℕ} (cond (eqb (q (suc k)) 0) 1 0) 0 = rw (w, f) in
        omega arith
    go (no w) ih = rw (h (suc k) (omega arith) (omega arith) w) (omega (arith, ih (omega arith)))

pub free_some : (p : ℕ → ℕ) (k : ℕ) → 0 < free_in p k → (j : ℕ) × (0 < j) × (j ≤ k) × (p j ≡ 0)
unfolding free_in
free_some p zero h = absurd (omega arith)
free_some p (suc k) h = go (eqb (p (suc k)) 0) refl h (free_some p k)
  where
    go : (b : Bool) → eqb (p (suc k)) 0 ≡ b → 0 < cond b 1 0 + free_in p k → (0 < free_in p k → (j : ℕ) × (0 < j) × (j ≤ k) × (p j ≡ 0)) → (j : ℕ) × (0 < j) × (j ≤ suc k) × (p j ≡ 0)
    go true e g ih = (suc k, omega arith, omega arith, eqb-true (p (suc k)) 0 e)
    go false e g ih = let x = ih (omega arith) in let l = x.2 in (x.0, x.1, omega arith, x.3)

pub free_none : (p : ℕ → ℕ) (k : ℕ) → free_in p k ≡ 0 → (j : ℕ) → 0 < j → j ≤ k → 0 < p j
unfolding free_in
free_none p zero h j z l = absurd (omega arith)
free_none p (suc k) h j z l = go (eqb (p (suc k)) 0) refl h (ℕ_discrete j (suc k)) (λ e m. free_none p k e j z m)
  where
    go : (b : Bool) → eqb (p (suc k)) 0 ≡ b → cond b 1 0 + free_in p k ≡ 0 → Dec (j ≡ suc k) → (free_in p k ≡ 0 → j ≤ k → 0 < p j) → 0 < p j
    go true e g d ih = absurd (omega arith)
    go false e g (yes w) ih = rw w (let q = eqb-false (p (suc k)) 0 e in omega arith)
    go false e g (no w) ih = ih (omega arith) (omega arith)

pub free_all : (p : ℕ → ℕ) (k : ℕ) → ((j : ℕ) → 0 < j → j ≤ k → p j ≡ 0) → free_in p k ≡ k
unfolding free_in
free_all p zero h = refl
free_all p (suc k) h = rw (h (suc k) (omega arith) (omega arith), free_all p k (λ j z l. h j z (omega arith))) (omega arith)
