-- Doubles whose value is an integer.
use Rattle.std.specs.Prelude.{◌≡◌, Bool, true, false, ℕ, ◌+◌, ◌*◌, ◌/◌, Float}
use Rattle.std.specs.Float.{nan, inf, fin}
use Rattle.std.specs.Float.Ieee.{up, down}
use Rattle.std.specs.Float.Ieee.Exact.{HasValue}
use Rattle.whole.specs.Integer.{Integer, 0_z, natural, neg_z}

-- d is k with the sign s; 0 has both signs
abbrev pub Signed : Bool → ℕ → Integer → Type 0
Signed false k d = d.up ≡ d.dn + k
Signed true k d = d.dn ≡ d.up + k

-- x is finite and its value is the integer d, so -0 has the value 0
pub record WholeValue (x : Float) (d : Integer) : Type 0 where
  pub minus : Bool
  pub mag : ℕ
  pub val : HasValue x minus mag 1
  pub is : Signed minus mag d

abbrev pub signed : Bool → ℕ → Integer
signed false k = natural k
signed true k = neg_z (natural k)

-- the value of a double, where it is an integer; 0 for what is not finite
unfoldable pub whole_of : Float → Integer
whole_of nan = 0_z
whole_of (inf s) = 0_z
whole_of (fin s m e) = signed s (m * up e / down e)
