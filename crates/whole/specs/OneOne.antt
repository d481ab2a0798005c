-- Maps of the numbers below n into themselves that are one to one.
use Rattle.std.specs.Prelude.{◌≡◌, ℕ, ◌<◌}

pub record Inj (n : ℕ) (q : ℕ → ℕ) : Type 0 where
  pub in_range : (j : ℕ) → j < n → q j < n
  pub one_one : (j k : ℕ) → j < n → k < n → q j ≡ q k → j ≡ k
