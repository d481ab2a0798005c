-- The takers of columns as the code holds them: numbers, with 64 for no row.
use Rattle.std.specs.Prelude.{◌≡◌, cond, List, map, ℕ, zero, suc, ◌+◌, ◌*◌, ◌≤◌, ◌<◌, get_or, length, take, eqb, ltb, Float, Option, Result}
use Rattle.std.specs.Float.Ieee.Scale.{finite}
use Rattle.lists.specs.First.{any}
use Rattle.lists.specs.Masks.{up_from}
use Rattle.hungarian.specs.declared.RunError.{RunError}
use Rattle.hungarian.specs.Ends.{reply_of_run}
use Rattle.kuhn_munkres.specs.Groups.{labels, is_label}
use Rattle.kuhn_munkres.specs.Assignment.{rows_of, group_in, groups, same}
use Rattle.groups.specs.Picks.{ticks}
use Rattle.groups.specs.Solvers.{own_reply}
use Rattle.assignment.specs.Labelling.{row_or, NamedBy}
use Rattle.assignment.specs.Picks.{bears}

-- the row of the whole table for the row t of a group's square, which has r rows of its own; rows of a square count from 1
abbrev pub taker_number : List ℕ → ℕ → ℕ → ℕ
taker_number members r zero = 64
taker_number members r (suc i) = cond (ltb i r) (get_or members i 0) 64

-- the first m takers
abbrev pub takers_of : ℕ → List ℕ → List (Option ℕ)
takers_of m takers = map row_or (take m takers)

-- the columns that bear g take the rows that p gives, in order; the others stay
pub record Taken (names : List ℕ) (g m : ℕ) (p : List ℕ) (r : ℕ) (members before after : List ℕ) : Type 0 where
  pub long : length after ≡ 64
  pub at : (j : ℕ) → j < m → get_or after j 0 ≡ cond (bears names g j) (taker_number members r (get_or p (ticks (bears names g) j + 1) 0)) (get_or before j 0)

-- the call's table and its groups' names
pub record Call (costs : List Float) (n m : ℕ) (rowNames columnNames : List ℕ) : Type 0 where
  pub rows_few : n ≤ 64
  pub columns_few : m ≤ 64
  pub size : length costs ≡ n * m
  pub named : NamedBy (labels finite (rows_of n m costs) m) n m rowNames columnNames

-- an array that has room for the call's table, and so for each group's own
pub record Room (n m : ℕ) (own : List Float) : Type 0 where
  pub enough : n * m ≤ length own
  pub some : 0 < length own
  pub few : length own ≤ 4096

pub record GroupTaken (costs : List Float) (n m : ℕ) (far rowCost columnCost : Float) (g : ℕ) (r : Result (Unit {0}) RunError) (before after : List ℕ) : Type 0 where
  pub long : length after ≡ 64
  pub is : (let R = rows_of n m costs in let s = labels finite R m in let cm = map (is_label g) s.of_columns in
      reply_of_run r (takers_of m after) ≡ group_in (own_reply far rowCost columnCost) (any same cm) R (up_from zero R) (map (eqb g) s.of_rows) cm (takers_of m before))

pub record AllTaken (costs : List Float) (n m : ℕ) (far rowCost columnCost : Float) (r : Result (Unit {0}) RunError) (before after : List ℕ) : Type 0 where
  pub long : length after ≡ 64
  pub is : (let R = rows_of n m costs in reply_of_run r (takers_of m after) ≡ groups (own_reply far rowCost columnCost) R (labels finite R m) (up_from zero R) (takers_of m before))
