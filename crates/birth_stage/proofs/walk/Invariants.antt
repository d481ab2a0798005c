use mathlib.Core.Path.{◌≡◌}
use Prim.Native.Nat.{◌≤◌}
use lib.ListN.{length}
use Rattle.types.specs.States.{state_of}
use Rattle.calls.specs.Births.{with_candidates}
use Rattle.birth_candidates.specs.Candidates.{list_of}
use Rattle.spawning.specs.Ruling.{places_of}
use Rattle.association.specs.Told.{columns_from}
use Rattle.birth_stage.proofs.Walking.{Walking}
use Rattle.birth_stage.proofs.walk.Given as goal

abbrev pub invariant-loop-j : goal.invariant-loop-j
invariant-loop-j l =
    (l.j ≤ l.n) × (l.n ≤ 64) × (length l.observations ≡ 64) × (length l.pairs ≡ 64) × (length l.s.tracks ≡ 64) × (length l.associations ≡ 64)
    × Walking l.config l.sensor l.time (places_of l.places) (columns_from l.m l.pairs l.observations) (with_candidates (list_of l.initial.kept) (state_of l.initial.s)) l.initial.s l.s l.kept l.associations l.j
