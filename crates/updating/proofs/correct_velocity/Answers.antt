-- Three ends: the settings ask for no velocity, the detection has none, or the update by it decides.
use mathlib.Core.Path.{◌∙◌}
use Rattle.updating.proofs.Corrections.{no_setting, no_velocity, velocity}
use Rattle.updating.proofs.correct_velocity.Goals as goal

pub returns-in_default : goal.returns-in_default
returns-in_default c = no_velocity c.args.f c.args.deviation c.args.velocity c.in_default.field-0-0 c.in_default.is-0 c.in_default.is-1

pub returns-in_default-2 : goal.returns-in_default-2
returns-in_default-2 c = no_setting c.args.f c.args.deviation c.args.velocity c.in_default.is-0

pub returns : goal.returns
returns c =
    c.update_velocity.ensures
    ∙ velocity c.args.f c.args.deviation c.args.velocity c.in-Some-Some.std c.in-Some-Some.v c.in-Some-Some.is-0 c.in-Some-Some.is-1
