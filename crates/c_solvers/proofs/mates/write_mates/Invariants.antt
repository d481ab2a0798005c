use Rattle.std.specs.Prelude.{Option}
use mathlib.Core.Path.{◌≡◌}
use mathlib.Core.List.{List}
use Prim.Native.Nat.{ℕ, ◌-◌, ◌≤◌}
use lib.ListN.{length}
use Rattle.c_solvers.specs.Mates.{PairsHeld}
use Rattle.c_solvers.proofs.Walks.{Walk}
use Rattle.c_solvers.proofs.mates.write_mates.Given as goal

abbrev pub invariant-loop-i : goal.invariant-loop-i
invariant-loop-i l =
    (l.i ≤ l.rows) × (length l.mates ≡ length l.initial.mates) × ((t : List (Option ℕ)) → PairsHeld t l.rows l.pair_rows l.pair_columns l.count → Walk t l.rows l.i l.k l.initial.mates l.mates)

abbrev pub decreases-loop-i : goal.decreases-loop-i
decreases-loop-i l = l.rows - l.i
