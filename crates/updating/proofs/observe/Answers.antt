use mir.Syntax.{w64}
use mir.Val.{SFits}
use mir.Facts.{to_z-of_z}
use borrow.Author.Rules.{rules}
use Rattle.updating.proofs.Corrections.{observed_by}
use Rattle.updating.proofs.observe.Goals as goal

pub returns : goal.returns
returns c =
    let f : SFits w64 c.args.u.time = search rules in
    observed_by c.args.u c.args.seen c.args.x c.register_track-registered.result c.with_state_timestamp-timed.result c.with_sensors-contributed.result c.with_class_label-labelled.result c.with_mark.result c.record_sensor-sensors.result c.or.result
    (rw (to_z-of_z f) at c.register_track-registered.ensures) (rw (to_z-of_z f) at c.with_state_timestamp-timed.ensures) c.record_sensor-sensors.ensures c.with_sensors-contributed.ensures c.or.ensures c.with_class_label-labelled.ensures c.with_mark.ensures
