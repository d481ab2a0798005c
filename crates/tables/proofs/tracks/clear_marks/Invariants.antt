use mathlib.Core.Path.{◌≡◌}
use mathlib.Core.Bool.{false}
use Prim.Native.Nat.{◌≤◌}
use lib.ListN.{length}
use Rattle.lists.specs.Table.{table}
use Rattle.lists.proofs.Loops.{Mapped}
use Rattle.types.specs.Track.{with_mark}
use Rattle.types.specs.States.{with_tables, sequence_table, candidate_table}
use Rattle.tables.proofs.tracks.clear_marks.Given as goal

abbrev pub invariant-loop-i : goal.invariant-loop-i
invariant-loop-i l =
    (l.i ≤ l.n)
    × (l.n ≤ 64)
    × (length l.initial.s.tracks ≡ 64)
    × Mapped (with_mark false) l.initial.s.tracks l.s.tracks l.i
    × (l.s ≡ with_tables (table l.s.tracks l.initial.s.track_count) (sequence_table l.initial.s) (candidate_table l.initial.s) l.initial.s)
