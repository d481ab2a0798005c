-- The operations at binary64: IEEE 754's, each rounded once.
use Rattle.std.specs.Prelude.{false, pos, Float}
use Rattle.std.specs.Float.{nan, inf, fin, binary64}
use Rattle.std.specs.Float.Ieee.{add, sub, lt}
use Rattle.std.specs.Float.Ieee.Scale.{finite}
use Rattle.kuhn_munkres.specs.Ops.{Ops}

abbrev pub float : Ops Float
float = record { zer = fin false 0 (pos 0); out = nan; top = inf false; add = add binary64; sub = sub binary64; lt = lt; finite = finite }
