use mathlib.Core.Path.{refl}
use lib.Ieee.{of_bits, round}
use Rattle.settings.specs.Settings.{default_settings}
use Rattle.settings.proofs.Cartesian3DTrackerConfig.default.Goals as goal

pub returns : goal.returns
unfolding default_settings of_bits round
returns c = refl
