-- The rows that take the columns, as the code holds them. 01, Batch: "8 a window age overflows; 10 the assignment's smallest step isn't finite".
use Rattle.std.specs.Prelude.{ℕ, ◌≡◌, List, ℤ, Float, length, None, Option, Some}
use Rattle.number.specs.Reply.{Reply, given, and_then}
use Rattle.lists.specs.Each.{each}
use Rattle.kuhn_munkres.specs.Takers.{Takers}
use Rattle.kuhn_munkres.specs.Assignment.{rows_of}
use Rattle.cascade.specs.declared.Table.{Table}
use Rattle.assignment.specs.Taking.{takers_of}
use Rattle.calls.specs.Pairing.{assigned, cascaded}
use Rattle.pairing.specs.declared.Row.{Row}
use Rattle.pairing.specs.Rows.{recent_row}

-- the rows of a table
abbrev pub costs_of : Table → List (List Float)
costs_of t = rows_of t.rows t.columns t.costs.now

-- one assignment, or the cascade where a window is set: `pairedIn` of calls, of rows
unfoldable pub rows_paired : Float → Option ℤ → ℤ → List Row → List (List Float) → ℕ → Reply Takers
rows_paired gate None now rows costs m = assigned gate costs m
rows_paired gate (Some window) now rows costs m = and_then (each (recent_row window now) rows) (λ flags. cascaded gate flags costs m)

-- the outcome with the takers of the first m columns. What a refusal leaves there is open: the array never leaves the stage.
pub record Takes (m : ℕ) (reply : Reply (Unit {0})) (after : List ℕ) (answer : Reply (List (Option ℕ))) : Type 0 where
  pub long : length after ≡ 64
  pub is : and_then reply (λ u. given (takers_of m after)) ≡ answer
