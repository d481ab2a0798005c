use mir.Facts.{to_z-of_z}
use Rattle.stages.proofs.pair_rows.Goals as goal

pub returns : goal.returns
returns c = rw (to_z-of_z c.ranges.time) at c.pair_tracks.ensures
