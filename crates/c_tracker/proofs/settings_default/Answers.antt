use mathlib.Core.Path.{ap, ◌∙◌}
use Rattle.records.specs.Configs.{settings_to}
use Rattle.c_tracker.proofs.settings_default.Goals as goal

pub returns : goal.returns
returns c = c.settings_to.ensures ∙ ap settings_to c.default.ensures
