-- An array made by a closure that leaves what it captured as it was: it holds what the closure answers at each index. Assumes nothing.
use Rattle.std.proofs.Common.{◌≡◌, refl, ℕ, zero, suc, ◌+◌, ◌<◌, ◌≤◌, ◌⊎◌, inl, inr, List, ◌∙◌, subst, get_or, arith}
use Rattle.std.specs.Array.{IsFromFnResult, IsFromFnResultFrom}
use denote.Param.Members.{Mut, Called}
use native.Mathlib.Nat.{eq-or-lt_of_le}
use Rattle.matrix.specs.Matrix.{tabulate}
use Rattle.matrix.proofs.Tabulated.{tabulated}

module _ {F B : Type 0} (g : Mut F (ℕ × Unit {0}) B) (f : F) (h : ℕ → B) (n : ℕ) (steady : (k : ℕ) → k < n → (y : B) (q : F) → Called g f (k, tt) y q → (y ≡ h k) × (q ≡ f)) (ys : List B) where
  here : (i k : ℕ) (e y : B) → (i ≡ k) ⊎ (i < k) → get_or ys i e ≡ h i → (i < k → get_or ys k e ≡ h k) → get_or ys k e ≡ h k
  here i k e y (inl is) at later = subst (λ j. get_or ys j e ≡ h j) is at
  here i k e y (inr above) at later = later above

  at_places : (m i : ℕ) → i + m ≡ n → (q : F) → q ≡ f → IsFromFnResultFrom g q ys i m → (k : ℕ) → i ≤ k → k < n → (e : B) → get_or ys k e ≡ h k
  at_places zero i total q same r k low high e = absurd (omega (arith, total))
  at_places (suc m) i total q same (q', y, at, called, rest) k low high e =
      let step = steady i (omega (arith, total)) y q' (subst (λ p. Called g p (i, tt) y q') same called) in
      here i k e y (eq-or-lt_of_le low) (at.1 e ∙ step.0)
      (λ above. at_places m (i + 1) (omega (arith, total)) q' step.1 rest k (omega (arith, above)) high e)

  pub filled : (d : B) → IsFromFnResult g f ys n → ys ≡ tabulate n h
  filled d r = tabulated d n h ys r.long (λ k b. at_places n 0 (omega arith) f refl r.each k (omega arith) b d)
