use mathlib.Core.Path.{ap}
use lib.ListN.{replicate}
use Rattle.lists.specs.Table.{table}
use Rattle.types.specs.Fresh.{fresh_of}
use Rattle.types.specs.States.{with_tables, sequence_table, candidate_table}
use Rattle.types.specs.declared.track.Track3D.{Track3D}
use Rattle.types.proofs.tracker.fresh.Goals as goal

pub returns : goal.returns
unfolding fresh_of
returns c =
    let f = fresh_of c.args.config in
    ap (λ (t : Track3D). with_tables (table (replicate 64 t) 0) (sequence_table f) (candidate_table f) f) c.blank_track-track.ensures
