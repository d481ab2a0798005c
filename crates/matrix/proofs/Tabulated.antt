-- What a table made from a function holds. Assumes nothing.
use mathlib.Core.Path.{◌≡◌, refl, ap, ap₂, ◌∙◌}
use mathlib.Core.List.{List, [], ◌∷◌}
use Prim.Native.Nat.{ℕ, zero, suc, ◌≤◌, ◌<◌}
use native.Mathlib.Nat.{le_refl, zero-lt-suc}
use native.Mathlib.Omega.{arith}
use lib.ListN.{get_or}
use lib.Ieee.{Float, nan, binary64, add}
use Rattle.std.proofs.Common.{length}
use Rattle.matrix.specs.Matrix.{item, tabulate, sum_to, sum_of}

pub get_d_tabulate : {A : Type 0} (d : A) (n k : ℕ) (f : ℕ → A) → k < n → get_or (tabulate n f) k d ≡ f k
get_d_tabulate d zero k f h = absurd (omega arith)
get_d_tabulate d (suc n) zero f h = refl
get_d_tabulate d (suc n) (suc k) f h = get_d_tabulate d n k (λ j. f (suc j)) (omega arith)

pub tabulate_same : {A : Type 0} (n : ℕ) (f g : ℕ → A) → ((k : ℕ) → k < n → f k ≡ g k) → tabulate n f ≡ tabulate n g
tabulate_same zero f g h = refl
tabulate_same (suc n) f g h = ap₂ ◌∷◌ (h 0 (zero-lt-suc n)) (tabulate_same n (λ k. f (suc k)) (λ k. g (suc k)) (λ k b. h (suc k) (omega (arith, b))))

pub sum_same : (n : ℕ) (f g : ℕ → Float) → ((k : ℕ) → k ≤ n → f k ≡ g k) → sum_to n f ≡ sum_to n g
sum_same zero f g h = h 0 (le_refl 0)
sum_same (suc n) f g h = ap₂ (add binary64) (sum_same n f g (λ k b. h k (omega (arith, b)))) (h (suc n) (le_refl (suc n)))

-- a list of n items of which place k holds f k
pub tabulated : {A : Type 0} (d : A) (n : ℕ) (f : ℕ → A) (ys : List A) → length ys ≡ n → ((k : ℕ) → k < n → get_or ys k d ≡ f k) → ys ≡ tabulate n f
tabulated d zero f [] e h = refl
tabulated d zero f (y ∷ ys) e h = absurd (omega (arith, e))
tabulated d (suc n) f [] e h = absurd (omega (arith, e))
tabulated d (suc n) f (y ∷ ys) e h = ap₂ ◌∷◌ (h 0 (zero-lt-suc n)) (tabulated d n (λ k. f (suc k)) ys (omega (arith, e)) (λ k b. h (suc k) (omega (arith, b))))

pub sum_of_same : (n : ℕ) (f g : ℕ → Float) → ((k : ℕ) → k < n → f k ≡ g k) → sum_of n f ≡ sum_of n g
sum_of_same zero f g h = refl
sum_of_same (suc n) f g h = sum_same n f g (λ k b. h k (omega (arith, b)))

-- the sum of a table's items is the sum of what the table was made from
pub sum_tabulated : (n : ℕ) (f : ℕ → Float) (xs : List Float) → xs ≡ tabulate n f → sum_of n (λ k. item xs k) ≡ sum_of n f
sum_tabulated n f xs e = sum_of_same n (λ k. item xs k) f (λ k b. ap (λ zs. item zs k) e ∙ get_d_tabulate nan n k f b)
