-- What is claimed of the steps on a square of whole entries: they end, and with a pairing of least total. The run counts rows and columns from 1.
use Rattle.std.specs.Prelude.{◌≡◌, ℕ, suc, ◌^◌, ◌<◌, get_or, Float}
use Rattle.whole.specs.Integer.{Integer, ◌≤Z◌, Within, sum}
use Rattle.whole.specs.Whole.{WholeValue}
use Rattle.whole.specs.OneOne.{Inj}
use Rattle.kuhn_munkres.specs.Binary64.{float}
use Rattle.kuhn_munkres.specs.Steps.{State, found, rows}

-- the entries are at most so large either way: sums of eight of them are still exact
abbrev pub largest : ℕ
largest = 2 ^ 48

-- a gives the entries as doubles, rows and columns counted from 1; A gives their integers, counted from 0
pub record WholeSquare (n : ℕ) (a : ℕ → ℕ → Float) (A : ℕ → ℕ → Integer) : Type 0 where
  pub value : (i j : ℕ) → i < n → j < n → WholeValue (a (suc i) (suc j)) (A i j)
  pub small : (i j : ℕ) → i < n → j < n → Within largest (A i j)

-- the run ends in a state that gives column j the row `row j`, both counted from 0, and no other one to one choice of a row for each column has a smaller total
pub record LeastSquare (n : ℕ) (a : ℕ → ℕ → Float) (A : ℕ → ℕ → Integer) : Type 0 where
  pub last : State Float
  pub row : ℕ → ℕ
  pub ends : rows float a n n ≡ found last
  pub at : (j : ℕ) → j < n → get_or last.p (suc j) 0 ≡ suc (row j)
  pub inj : Inj n row
  pub least : (q : ℕ → ℕ) → Inj n q → sum (λ j. A (row j) j) n ≤Z sum (λ j. A (q j) j) n
