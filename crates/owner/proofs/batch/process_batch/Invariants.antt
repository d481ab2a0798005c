-- What each loop has done so far, and what the batch had come to before it.
use mathlib.Core.Path.{◌≡◌}
use mathlib.Core.List.{map}
use Prim.Native.Nat.{◌≤◌}
use lib.ListN.{length, take}
use Rattle.lists.proofs.Stepping.{Stepped}
use Rattle.moving.proofs.Passing.{Passed}
use Rattle.association.specs.Told.{mate_of, columns_from}
use Rattle.birth_candidates.specs.Candidates.{list_of}
use Rattle.spawning.specs.Ruling.{places_of}
use Rattle.records.specs.Tracks.{track_of}
use Rattle.owner.proofs.Predicting.{with_pk_tracks}
use Rattle.owner.proofs.Carrying.{keeps_pk, moves_pk}
use Rattle.owner.proofs.Reached.{unmarked, start_at, Checked, Mated, Aged}
use Rattle.owner.proofs.Noting.{Noted}
use Rattle.owner.proofs.Correcting.{Spotted, steps_pk}
use Rattle.owner.proofs.Bearing.{Bearing}
use Rattle.owner.proofs.batch.process_batch.Given as goal

abbrev pub invariant-loop-i : goal.invariant-loop-i
invariant-loop-i l =
    (l.i ≤ l.all) × (l.all ≤ 64) × (length l.t.tracks ≡ 64) × (l.n ≤ l.i) × (l.t ≡ with_pk_tracks l.initial.t l.t.tracks)
    × Passed (keeps_pk l.life l.time) (moves_pk unmarked l.density l.time) l.initial.t.tracks l.t.tracks l.i l.n
    × Noted l.t.tracks l.rows l.n
    × Checked l.fn.t l.fn.batch l.config l.time

abbrev pub invariant-loop-k : goal.invariant-loop-k
invariant-loop-k l =
    (l.k ≤ l.n) × (l.n ≤ 64) × (length l.t.tracks ≡ 64) × (l.near ≤ l.k) × (l.t ≡ with_pk_tracks l.initial.t l.t.tracks)
    × Stepped (steps_pk l.update (mate_of l.mates l.observations)) l.initial.t.tracks l.t.tracks l.k
    × Spotted (map track_of (take l.k l.t.tracks)) l.spots l.near
    × Mated l.fn.t l.fn.batch l.config l.time l.initial.t l.n l.paired

abbrev pub invariant-loop-j : goal.invariant-loop-j
invariant-loop-j l =
    (l.j ≤ l.count) × (l.count ≤ 64) × (length l.t.tracks ≡ 64) × (l.t ≡ with_pk_tracks l.initial.t l.t.tracks)
    × Bearing l.config l.sensor l.time (places_of l.places) (columns_from l.count l.pairs l.observations) (start_at l.initial.t l.initial.n l.initial.id l.time (list_of l.initial.kept)) l.initial.t.tracks l.t.tracks l.n l.id l.kept l.associations l.j
    × Aged l.fn.t l.fn.batch l.config l.time l.initial.n l.paired l.initial.t l.places l.initial.kept
