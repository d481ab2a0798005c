-- What the test of a plain matrix says of its entries. Assumes nothing.
use mathlib.Core.Path.{◌≡◌}
use mathlib.Core.Bool.{true}
use Prim.Native.Nat.{ℕ, suc, ◌≤◌}
use native.Mathlib.Omega.{arith}
use lib.Ieee.{lt}
use lib.Ieee.Scale.{finite}
use Rattle.number.proofs.Zeros.{both}
use Rattle.matrix.specs.Matrix.{Matrix, entry, nought, total}
use Rattle.matrix.proofs.All.{all_true}
use Rattle.matrix.proofs.Terms.{entries_finite}
use Rattle.selected.specs.Units.{is_above, is_plain}

pub above_at : (l : ℕ) (p : Matrix) → is_above (suc l) p ≡ true → (k : ℕ) → k ≤ l → lt nought (entry p k k) ≡ true
above_at l p t k h = all_true (suc l) (λ k. lt nought (entry p k k)) t k (omega (arith, h))

module _ (l : ℕ) (p : Matrix) (plain : is_plain (suc l) p ≡ true) where
  pub plain_finite : (i j : ℕ) → i ≤ l → j ≤ l → finite (entry p i j) ≡ true
  unfolding is_plain
  plain_finite i j hi hj =
      entries_finite l l p (both (finite (total (suc l) (suc l) p)) (is_above (suc l) p) plain).0 i j hi hj

  pub plain_above : (k : ℕ) → k ≤ l → lt nought (entry p k k) ≡ true
  unfolding is_plain
  plain_above k h = above_at l p (both (finite (total (suc l) (suc l) p)) (is_above (suc l) p) plain).1 k h
