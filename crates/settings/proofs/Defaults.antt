-- The default settings may be used. Assumes nothing.
use mathlib.Core.Path.{◌≡◌, refl}
use lib.Ieee.{lt, le, eq, of_bits, round}
use Rattle.settings.specs.Fields.{accepted, first_bad}
use Rattle.settings.specs.Settings.{default_settings, fields_of, settings_reply}

pub default_accepted : settings_reply default_settings ≡ accepted
unfolding settings_reply fields_of first_bad default_settings lt le eq of_bits round
default_accepted = refl
