use mathlib.Core.Path.{ap, ◌∙◌}
use Rattle.settings.specs.Settings.{settings_reply}
use Rattle.c_tracker.proofs.validate.Goals as goal

pub returns : goal.returns
returns c = c.validate.ensures ∙ ap settings_reply c.settings_of.ensures
