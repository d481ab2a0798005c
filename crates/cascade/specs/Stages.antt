-- A stage of the cascade: some of the rows take part, with the columns that are free. In the code the rows and columns of the stage bear the name 0.
use Rattle.std.specs.Prelude.{ℕ, ◌*◌, ◌≤◌, ◌<◌, ◌≡◌, Bool, cond, List, map, ltb, Float, length, get_or, take, replicate, None, Option}
use Rattle.number.specs.Reply.{Reply, refused, given, and_then, left_in}
use Rattle.lists.specs.Masks.{left_by, count, up_from}
use Rattle.kuhn_munkres.specs.Takers.{free, both_takers}
use Rattle.kuhn_munkres.specs.Assignment.{rows_of, named}
use Rattle.groups.specs.Picks.{ticks}
use Rattle.assignment.specs.Picks.{bears}
use Rattle.assignment.specs.Taking.{takers_of}
use Rattle.calls.specs.Pairing.{assigned, cascaded}
use Rattle.cascade.specs.declared.Table.{Table}

abbrev pub row_name : Bool → ℕ
row_name b = cond b 0 1

abbrev pub column_name : ℕ → ℕ
column_name taker = cond (ltb taker 64) 1 0

abbrev pub member_of : List ℕ → ℕ → ℕ → ℕ
member_of members r a = cond (ltb a r) (get_or members a 0) (cond (ltb a 64) 0 64)

-- a table whose costs are those of its rows and columns, of which there are at most 64 each
abbrev pub Whole : Table → Type 0
Whole t = (t.rows ≤ 64) × (t.columns ≤ 64) × (length t.costs.now ≡ t.rows * t.columns)

-- the taker of column j after the stage
abbrev pub scattered_at : List ℕ → List ℕ → ℕ → List ℕ → List ℕ → ℕ → ℕ
scattered_at names picked r members before j = cond (bears names 0 j) (member_of members r (get_or picked (ticks (bears names 0) j) 0)) (get_or before j 0)

-- the first m places are f's, the others as they were
pub record Pointwise (f : ℕ → ℕ) (m : ℕ) (before after : List ℕ) : Type 0 where
  pub long : length after ≡ 64
  pub done : (j : ℕ) → j < m → get_or after j 0 ≡ f j
  pub rest : (j : ℕ) → m ≤ j → get_or after j 0 ≡ get_or before j 0

-- one stage: the rows of the mask with the columns that are free in t
unfoldable pub stage_reply : Float → List Bool → List (List Float) → List (Option ℕ) → Reply (List (Option ℕ))
stage_reply gate rm rows t =
    and_then (assigned gate (map (left_by (map free t)) (left_by rm rows)) (count (map free t)))
    (λ own. given (both_takers t (map (named (left_by rm (up_from 0 rows))) own)))

-- The stage of the rows that take part: its reply, with the takers after it; what stands behind the first m, and all of it after a refusal, is as it was.
pub record StageAnswer (costs : List Float) (n m : ℕ) (gate : Float) (part : List Bool) (reply : Reply (Unit {0})) (before after : List ℕ) : Type 0 where
  pub long : length after ≡ 64
  pub is : and_then reply (λ u. given (takers_of m after)) ≡ stage_reply gate (take n part) (rows_of n m costs) (takers_of m before)
  pub rest : (j : ℕ) → m ≤ j → get_or after j 0 ≡ get_or before j 0
  pub kept : (k : ℕ) → reply ≡ refused k → after ≡ before

-- The cascade over takers that are 64 everywhere at first. After a refusal the takers are those of the first stage, where that one was not refused.
pub record CascadeAnswer (costs : List Float) (n m : ℕ) (gate : Float) (flags : List Bool) (reply : Reply (Unit {0})) (before after : List ℕ) : Type 0 where
  pub long : length after ≡ 64
  pub is : and_then reply (λ u. given (takers_of m after)) ≡ cascaded gate (take n flags) (rows_of n m costs) m
  pub rest : (j : ℕ) → m ≤ j → get_or after j 0 ≡ get_or before j 0
  pub kept : (k : ℕ) → reply ≡ refused k → takers_of m after ≡ left_in (stage_reply gate (take n flags) (rows_of n m costs) (replicate m None)) (replicate m None)
