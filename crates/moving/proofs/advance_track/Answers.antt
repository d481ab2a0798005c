-- The life that the lent record is left with is the one that the definition gives.
use mathlib.Core.Path.{◌∙◌}
use mir.Facts.{to_z-of_z}
use Rattle.moving.specs.Steps.{aged_track}
use Rattle.moving.proofs.advance_track.Goals as goal

pub returns : goal.returns
unfolding aged_track
returns c =
    let f = rw (to_z-of_z c.ranges.at) at c.advance-verdict.ensures in
    c.aged_with.ensures ∙ rw (f.0, f.1)
