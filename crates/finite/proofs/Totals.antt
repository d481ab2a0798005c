-- A matrix whose total is finite is finite, since an infinity or a NaN in a sum never becomes finite again. Assumes nothing.
use mathlib.Core.Path.{◌≡◌, refl, sym}
use mathlib.Core.Bool.{true}
use Prim.Native.Nat.{ℕ, zero, suc}
use native.Mathlib.Omega.{arith}
use lib.Ieee.Scale.{finite}
use Rattle.matrix.specs.Matrix.{Matrix, row, entry, total}
use Rattle.matrix.proofs.All.{all_hold}
use Rattle.matrix.proofs.Terms.{entries_finite}
use Rattle.finite.specs.Finite.{finite_vector, finite_matrix}

pub total_finite : (n p : ℕ) (a : Matrix) → finite (total n p a) ≡ true → true ≡ finite_matrix n p a
unfolding finite_matrix finite_vector
total_finite zero p a t = refl
total_finite (suc n) zero a t = sym (all_hold (suc n) (λ i. finite_vector 0 (row a i)) (λ i hi. refl))
total_finite (suc n) (suc p) a t =
    sym (all_hold (suc n) (λ i. finite_vector (suc p) (row a i))
    (λ i hi. all_hold (suc p) (λ j. finite (entry a i j)) (λ j hj. entries_finite n p a t i j (omega (arith, hi)) (omega (arith, hj)))))
