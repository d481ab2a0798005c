-- An array that `from_fn` made of another's elements holds them, each changed. Assumes nothing.
use Rattle.std.proofs.Common.{◌≡◌, refl, ap, ◌∙◌, ℕ, zero, suc, ◌<◌, List, [], ◌∷◌, map, length, get_or, arith}
use Rattle.std.specs.Array.{IsFromFnResult}
use denote.Param.Members.{Mut, Called}
use Rattle.matrix.specs.Matrix.{tabulate}
use Rattle.matrix.proofs.Filled.{filled}

module _ {A B : Type 0} (h : A → B) (d : A) where
  mapped : (n : ℕ) (xs : List A) → length xs ≡ n → tabulate n (λ k. h (get_or xs k d)) ≡ map h xs
  mapped zero [] e = refl
  mapped zero (x ∷ xs) e = absurd (omega (arith, e))
  mapped (suc n) [] e = absurd (omega (arith, e))
  mapped (suc n) (x ∷ xs) e = ap {B = List B} (λ r. h x ∷ r) (mapped n xs (omega (arith, e)))

  -- by a closure that leaves what it captured as it was
  pub made : {F : Type 0} (g : Mut F (ℕ × Unit {0}) B) (f : F) (n : ℕ) (xs : List A) (ys : List B) → length xs ≡ n
      → ((k : ℕ) → k < n → (y : B) (q : F) → Called g f (k, tt) y q → (y ≡ h (get_or xs k d)) × (q ≡ f)) → IsFromFnResult g f ys n → ys ≡ map h xs
  made g f n xs ys long steady r = filled g f (λ k. h (get_or xs k d)) n steady ys (h d) r ∙ mapped n xs long
