-- Solvers of one group's own table.
use Rattle.std.specs.Prelude.{◌≡◌, Bool, true, List, [], ℕ, ◌≤◌, ◌<◌, get_or, length, Float, None, Option}
use Rattle.std.specs.Float.{nan}
use Rattle.std.specs.Float.Ieee.Scale.{finite}
use Rattle.number.specs.Reply.{Reply, given}
use Rattle.whole.specs.Integer.{Integer, Within}
use Rattle.whole.specs.Whole.{WholeValue}
use Rattle.whole.specs.Takers.{LeastTakes}
use Rattle.kuhn_munkres.specs.Binary64.{float}
use Rattle.kuhn_munkres.specs.Assignment.{solved, square_of}

-- one group's own square, solved
abbrev pub own_reply : Float → Float → Float → List (List Float) → Reply (List (Option ℕ))
own_reply far rowCost columnCost table = solved float (square_of far rowCost columnCost table)

-- the entry of a table, and 01, Assignment: "a cost not finite forbids the pair"
abbrev pub entry_of : List (List Float) → ℕ → ℕ → Float
entry_of T i j = get_or (get_or T i []) j nan

abbrev pub allows : List (List Float) → ℕ → ℕ → Bool
allows T i j = finite (entry_of T i j)

-- Right on whole costs: for each table of at most 64 rows and columns whose allowed costs are whole and in 01's range, it answers with
-- takers of the least weight.
abbrev pub Solves : (List (List Float) → Reply (List (Option ℕ))) → Integer → Integer → Type 0
Solves dense row column = (T : List (List Float)) (r c : ℕ) (cost : ℕ → ℕ → Integer) → 0 < r → r ≤ 64 → c ≤ 64 → length T ≡ r → ((i : ℕ) → i < r → length (get_or T i []) ≡ c)
    → ((i j : ℕ) → i < r → j < c → allows T i j ≡ true → WholeValue (entry_of T i j) (cost i j) × Within 1_000_000 (cost i j))
    → (own : List (Option ℕ)) × (dense T ≡ given own) × (length own ≡ c) × LeastTakes (allows T) cost row column r c (λ j. get_or own j None)
