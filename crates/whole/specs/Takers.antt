-- A pairing by its columns: the row that takes each column, or none. What it weighs, and the least weight.
use Rattle.std.specs.Prelude.{◌≡◌, Bool, true, ℕ, ◌<◌, None, Option, Some}
use Rattle.whole.specs.Integer.{Integer, ◌-Z◌, ◌≤Z◌, sum}

-- A taken column weighs its pair's cost less the row cost that it saves, and a column that no row takes weighs the column cost: with the row cost of every
-- row added, the weights of all columns make the total of the pairing.
abbrev pub weight_of : (ℕ → ℕ → Integer) → Integer → Integer → ℕ → Option ℕ → Integer
weight_of cost row column j None = column
weight_of cost row column j (Some i) = cost i j -Z row

abbrev pub weight : (ℕ → ℕ → Integer) → Integer → Integer → (ℕ → Option ℕ) → ℕ → Integer
weight cost row column t m = sum (λ j. weight_of cost row column j (t j)) m

-- rows below n take columns below m: allowed pairs only, and no row takes two columns
pub record Takes (allowed : ℕ → ℕ → Bool) (n m : ℕ) (t : ℕ → Option ℕ) : Type 0 where
  pub row_in_lem : (j i : ℕ) → j < m → t j ≡ Some i → i < n
  pub may : (j i : ℕ) → j < m → t j ≡ Some i → allowed i j ≡ true
  pub once : (j k i : ℕ) → j < m → k < m → t j ≡ Some i → t k ≡ Some i → j ≡ k

pub record LeastTakes (allowed : ℕ → ℕ → Bool) (cost : ℕ → ℕ → Integer) (row column : Integer) (n m : ℕ) (t : ℕ → Option ℕ) : Type 0 where
  pub takes : Takes allowed n m t
  pub least : (other : ℕ → Option ℕ) → Takes allowed n m other → weight cost row column t m ≤Z weight cost row column other m
