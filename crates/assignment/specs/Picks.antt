-- The places and the own table of a group by its names, and how the arrays of the code hold what a pass keeps of them.
use Rattle.std.specs.Prelude.{◌≡◌, Bool, List, ◌++◌, ℕ, ◌+◌, ◌*◌, get_or, length, take, eqb, Float}
use Rattle.std.specs.Float.{nan}
use Rattle.kuhn_munkres.specs.Assignment.{in_one}
use Rattle.groups.specs.Picks.{picked, ticks}

-- the places whose name is g
abbrev pub bears : List ℕ → ℕ → ℕ → Bool
bears names g i = eqb (get_or names i 0) g

-- l laid at k, up to r
pub record Laid {A : Type 0} (size : ℕ) (before after : List A) (k r : ℕ) (l : List A) : Type 0 where
  pub long : length after ≡ size
  pub end : r ≡ k + length l
  pub is : take r after ≡ take k before ++ l

-- the costs of row i in the columns of group g
abbrev pub group_row : List Float → ℕ → List ℕ → ℕ → ℕ → List Float
group_row costs m columnNames g i = picked (bears columnNames g) (λ j. get_or costs (i * m + j) nan) m

-- the own table of group g: of the first n rows, those of the group
abbrev pub group_table : List Float → ℕ → List ℕ → List ℕ → ℕ → ℕ → List (List Float)
group_table costs m rowNames columnNames g n = picked (bears rowNames g) (group_row costs m columnNames g) n

-- the own table of group g in the front of `own`, which has `size` places, and its rows in the front of `members`
pub record GatheredIn (size : ℕ) (costs : List Float) (n m : ℕ) (rowNames columnNames : List ℕ) (g : ℕ) (own : List Float) (members : List ℕ) (r : ℕ) : Type 0 where
  pub long : length own ≡ size
  pub members_long : length members ≡ 64
  pub count : r ≡ ticks (bears rowNames g) n
  pub table : take (r * ticks (bears columnNames g) m) own ≡ in_one (group_table costs m rowNames columnNames g n)
  pub members_are : take r members ≡ picked (bears rowNames g) (λ i. i) n

-- the same in an array for the largest table
abbrev pub Gathered : List Float → ℕ → ℕ → List ℕ → List ℕ → ℕ → List Float → List ℕ → ℕ → Type 0
Gathered = GatheredIn 4096
