-- What an array by value is known to hold: values of binary64, and rows of one width. Assumes nothing.
use mathlib.Core.Path.{◌≡◌, sym, subst}
use mathlib.Core.List.{List, [], ◌∷◌}
use Prim.Native.Nat.{ℕ, zero, suc, ◌<◌}
use native.Mathlib.Omega.{arith}
use lib.ListN.{get_or, length}
use lib.Dec.{T}
use lib.Ieee.{nan, binary64, fits}
use mir.Val.{Val}
use denote.RattleType.{RattleType}
use denote.Laws.{Is}
use denote.Shadow.{shadow}
use denote.Floats.{FloatOf, passes}
use denote.Array.{Array, each}
use Rattle.matrix.specs.Matrix.{Vector, Matrix, item, row, entry}

module _ (R : RattleType) (P : R.Denot → Type 0) (says : (x : R.Denot) (vs : List Val) → Is R x vs → P x) (d : R.Denot) where
  each_says : (xs : List R.Denot) (us : List Val) → shadow (each R.Denot R.own_val xs us) → (k : ℕ) → k < length xs → P (get_or xs k d)
  each_says [] us s k h = absurd (omega (arith, h))
  each_says (x ∷ xs) [] s k h = absurd s
  each_says (x ∷ xs) (u ∷ us) s zero h = says x (u ∷ []) s.0
  each_says (x ∷ xs) (u ∷ us) s (suc k) h = each_says xs us s.1 k (omega (arith, h))

  array_says : (n : ℕ) (xs : List R.Denot) (vs : List Val) → Is (Array R n) xs vs → (k : ℕ) → k < n → P (get_or xs k d)
  array_says n xs vs p k h = each_says xs p.0 p.1.1 k (subst (λ (m : ℕ). k < m) (sym p.1.0.1) h)

pub items_fit : (n : ℕ) (x : Vector) (vs : List Val) → Is (Array (FloatOf binary64) n) x vs → (k : ℕ) → k < n → T (fits binary64 (item x k))
items_fit n x vs p = array_says (FloatOf binary64) (λ x. T (fits binary64 x)) (λ x vs q. passes (fits binary64 x) q.1) nan n x vs p

pub entries_fit : (n m : ℕ) (a : Matrix) (vs : List Val) → Is (Array (Array (FloatOf binary64) m) n) a vs → (i j : ℕ) → i < n → j < m → T (fits binary64 (entry a i j))
entries_fit n m a vs p i j hi hj = array_says (Array (FloatOf binary64) m) (λ x. (k : ℕ) → k < m → T (fits binary64 (item x k))) (items_fit m) [] n a vs p i hi j hj

-- the rows of an array of arrays have its width
pub rows_long : (n m : ℕ) (a : Matrix) (vs : List Val) → Is (Array (Array (FloatOf binary64) m) n) a vs → (i : ℕ) → i < n → length (row a i) ≡ m
rows_long n m a vs p i h = array_says (Array (FloatOf binary64) m) (λ x. length x ≡ m) (λ x vs q. q.1.0.1) [] n a vs p i h
