-- What std says of a test and of a sign is what the definitions say. Assumes nothing.
use Rattle.std.proofs.Common.{◌≡◌, false, refl}
use Rattle.std.specs.Float.{float_is_finite, float_with_sign}
use lib.Ieee.{Float, nan, inf, fin}
use lib.Ieee.Scale.{finite}
use Rattle.number.specs.Float.{absolute_of}

pub same_test : (x : Float) → float_is_finite x ≡ finite x
unfolding float_is_finite
same_test nan = refl
same_test (inf s) = refl
same_test (fin s m e) = refl

pub no_sign : (x : Float) → float_with_sign false x ≡ absolute_of x
unfolding float_with_sign
no_sign nan = refl
no_sign (inf s) = refl
no_sign (fin s m e) = refl
