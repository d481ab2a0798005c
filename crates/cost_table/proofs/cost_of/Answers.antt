use mathlib.Core.Path.{◌≡◌, refl, sym, ap, ◌∙◌}
use mathlib.Core.Bool.{false}
use lib.Ieee.{inf, binary64, of_bits, of_fields}
use Rattle.calls.specs.Pairing.{cost_of}
use Rattle.cost_table.proofs.cost_of.Goals as goal

-- +infinity by its bits
infinite : of_bits binary64 0x7ff0_0000_0000_0000 ≡ inf false
unfolding of_bits of_fields
infinite = refl

pub returns-in-Forbidden : goal.returns-in-Forbidden
returns-in-Forbidden c = infinite ∙ sym (ap cost_of c.in-Forbidden.is)
