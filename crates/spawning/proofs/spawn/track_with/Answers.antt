use mir.Syntax.{w64}
use mir.Val.{SFits}
use mir.Facts.{to_z-of_z}
use borrow.Author.Rules.{rules}
use Rattle.calls.specs.Births.{born_track}
use Rattle.spawning.proofs.spawn.track_with.Goals as goal

pub returns : goal.returns
unfolding born_track
returns c =
    let a = c.args in
    let f : SFits w64 a.b.time = search rules in
    rw (to_z-of_z f, c.first_sensor.ensures, rw (to_z-of_z f) at c.first_life.ensures)
