-- What a finite sum says of its terms. Assumes nothing.
use Rattle.std.proofs.Common.{◌≡◌, true, false, refl}
use lib.Ieee.{Float, nan, inf, fin, binary64, add}
use lib.Ieee.Scale.{finite}
use Rattle.number.proofs.Zeros.{impossible}

-- a sum that is finite has finite terms
pub add_finite : (x y : Float) → finite (add binary64 x y) ≡ true → (finite x ≡ true) × (finite y ≡ true)
unfolding add
add_finite nan y p = impossible p
add_finite (inf s) nan p = impossible p
add_finite (inf true) (inf true) p = impossible p
add_finite (inf true) (inf false) p = impossible p
add_finite (inf false) (inf true) p = impossible p
add_finite (inf false) (inf false) p = impossible p
add_finite (inf s) (fin t n d) p = impossible p
add_finite (fin s m e) nan p = impossible p
add_finite (fin s m e) (inf t) p = impossible p
add_finite (fin s m e) (fin t n d) p = (refl, refl)
