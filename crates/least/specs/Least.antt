-- The least total, in integers. 01, Assignment: "The total of a pairing is its allowed pairs' costs plus the row cost for each unmatched row. For whole costs
-- from −1,000,000 to 1,000,000, a whole row cost in that range and column cost 0, no pairing of allowed pairs has a smaller total, and no forbidden pair is
-- given." It is stated for whole column costs in that range as well, with the column cost for each unmatched column: at 0 that part of a total is 0.
use Rattle.std.specs.Prelude.{◌≡◌, Bool, true, cond, List, [], ◌∷◌, map, ℕ, zero, suc, ◌+◌, ◌*◌, ◌≤◌, ◌<◌, get_or, length, eqb, Float}
use Rattle.std.specs.Float.{nan}
use Rattle.std.specs.Float.Ieee.Scale.{finite}
use Rattle.number.specs.Reply.{Reply, given}
use Rattle.whole.specs.Integer.{Integer, 0_z, ◌+Z◌, ◌≤Z◌, Within, times}
use Rattle.whole.specs.Whole.{WholeValue}
use Rattle.lists.specs.First.{any}
use Rattle.lists.specs.Masks.{Every}
use Rattle.kuhn_munkres.specs.Assignment.{Pair, Pairs}

-- ---- a pairing
-- no number stands twice
unfoldable pub Distinct : List ℕ → Type 0
Distinct [] = Unit {0}
Distinct (x ∷ l) = Every (λ y. x ≡ y → ⊥) l × Distinct l

abbrev pub rows_in : List Pair → List ℕ
rows_in l = map (λ (x : Pair). x.row) l

abbrev pub columns_in : List Pair → List ℕ
columns_in l = map (λ (x : Pair). x.column) l

-- some of n rows, each with one of m columns: no row and no column twice, allowed pairs only
pub record Pairing (allowed : ℕ → ℕ → Bool) (n m : ℕ) (l : List Pair) : Type 0 where
  pub rows_below : Every (λ i. i < n) (rows_in l)
  pub columns_below : Every (λ j. j < m) (columns_in l)
  pub rows_once : Distinct (rows_in l)
  pub columns_once : Distinct (columns_in l)
  pub all_allowed : Every (λ (x : Pair). allowed x.row x.column ≡ true) l

-- ---- its total
unfoldable pub costs_of : (ℕ → ℕ → Integer) → List Pair → Integer
costs_of cost [] = 0_z
costs_of cost (x ∷ l) = cost x.row x.column +Z costs_of cost l

-- how many of the numbers below n do not stand in l
unfoldable pub unmatched : ℕ → List ℕ → ℕ
unmatched zero l = 0
unmatched (suc n) l = cond (any (eqb n) l) (unmatched n l) (suc (unmatched n l))

unfoldable pub total : (ℕ → ℕ → Integer) → Integer → Integer → ℕ → ℕ → List Pair → Integer
total cost row column n m l = costs_of cost l +Z times (unmatched n (rows_in l)) row +Z times (unmatched m (columns_in l)) column

-- ---- what is proved of an answer
abbrev pub cost_at : List Float → ℕ → ℕ → ℕ → Float
cost_at costs m i j = get_or costs (i * m + j) nan

-- "a cost not finite forbids the pair"
abbrev pub allowed_in : List Float → ℕ → ℕ → ℕ → Bool
allowed_in costs m i j = finite (cost_at costs m i j)

-- the costs that allow a pair, and both unmatched costs, have these integers as their values, each in 01's range
pub record WholeCosts (costs : List Float) (n m : ℕ) (rowCost columnCost : Float) (cost : ℕ → ℕ → Integer) (row column : Integer) : Type 0 where
  pub rows_few : n ≤ 64
  pub columns_few : m ≤ 64
  pub size : length costs ≡ n * m
  pub costs_are : (i j : ℕ) → i < n → j < m → allowed_in costs m i j ≡ true → WholeValue (cost_at costs m i j) (cost i j) × Within 1_000_000 (cost i j)
  pub row_is : WholeValue rowCost row × Within 1_000_000 row
  pub column_is : WholeValue columnCost column × Within 1_000_000 column

-- the answer is a pairing, and no pairing has a smaller total
pub record LeastTotal (costs : List Float) (n m : ℕ) (cost : ℕ → ℕ → Integer) (row column : Integer) (reply : Reply Pairs) : Type 0 where
  pub answer : Pairs
  pub given_it : reply ≡ given answer
  pub pairing : Pairing (allowed_in costs m) n m answer.pairs
  pub least : (other : List Pair) → Pairing (allowed_in costs m) n m other → total cost row column n m answer.pairs ≤Z total cost row column n m other

abbrev pub LeastOnWholes : List Float → ℕ → ℕ → Float → Float → Reply Pairs → Type 0
LeastOnWholes costs n m rowCost columnCost reply = (cost : ℕ → ℕ → Integer) (row column : Integer) → WholeCosts costs n m rowCost columnCost cost row column → LeastTotal costs n m cost row column reply
