-- Which detections are far, a word of 01's own: it is said of what the rule for a pair allows, not of metres.
use Rattle.std.specs.Prelude.{◌≡◌, Float}
use mathlib.Core.List.{List, Memᴰ}
use Rattle.number.specs.Reply.{given}
use Rattle.detections.specs.declared.Detection.{Detection}
use Rattle.detections.specs.declared.pairs.Target.{Target}
use Rattle.detections.specs.declared.pairs.PairConfig.{PairConfig}
use Rattle.detections.specs.declared.pairs.Ruling.TheVariants.{Allowed}
use Rattle.detections.specs.Pairs.{verdict_of}

-- the pair may be made, at some cost; one whose distance is refused may not
abbrev pub MayPair : PairConfig → Target → Detection → Type 0
MayPair c t d = (cost : Float) × (verdict_of c t d ≡ given (Allowed cost))

-- 01, Detection: "A far detection may pair with no track." 01, What demand 3 speaks of: "Far is judged by the rule for a pair above, against each track"; "with no such track every detection is far."
abbrev pub Far : PairConfig → List Target → Detection → Type 0
Far c ts d = (t : Target) → Memᴰ t ts → ¬ MayPair c t d
