-- What goes to a C program as a flag and a value comes back as it was. Assumes nothing.
use Rattle.std.specs.Prelude.{None, Option, Some, unwrap_or}
use Rattle.detections.specs.declared.pairs.ClassPrior.{ClassPrior}
use mathlib.Core.Path.{◌≡◌, refl}
use mathlib.Core.Bool.{Bool, true, false}
use Rattle.lifecycle.specs.declared.TrackLifecycleState.{TrackLifecycleState}
use Rattle.lifecycle.specs.declared.TrackLifecycleState.TheVariants.{Tentative, Confirmed, Lost, Deleted}
use Rattle.flags.specs.Flags.{flagged, flag, prior_of, the_prior, the_confidence, mark_of, mark_to, life_of, life_to}

pub flag_back : {A : Type 0} (o : Option A) (d : A) → flagged (flag o) (unwrap_or o d) ≡ o
flag_back None d = refl
flag_back (Some x) d = refl

pub prior_back : (o : Option ClassPrior) → prior_of (flag o) (the_prior o) (the_confidence o) ≡ o
prior_back None = refl
prior_back (Some p) = refl

pub mark_back : (b : Bool) → mark_of (mark_to b) ≡ b
mark_back true = refl
mark_back false = refl

pub life_back : (s : TrackLifecycleState) → life_of (life_to s) ≡ s
life_back Tentative = refl
life_back Confirmed = refl
life_back Lost = refl
life_back Deleted = refl
