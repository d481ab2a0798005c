-- The integer of a whole double, as a function of the double.
use mathlib.Core.Path.{◌≡◌, refl, sym, ap, ◌∙◌}
use mathlib.Core.Bool.{Bool, true, false}
use Prim.Native.Nat.{ℕ, ◌*◌, ◌/◌}
use native.Mathlib.Nat.{mul-one, mul-div_cancel}
use native.Mathlib.Omega.{arith}
use lib.Ieee.{Float, nan, inf, fin, up, down, lt}
use lib.Ieee.Scale.{finite}
use lib.Ieee.Fits.{down_pos}
use Rattle.whole.specs.Integer.{Integer, ◌≈◌}
use Rattle.whole.specs.Whole.{Signed, WholeValue, signed, whole_of}

-- a whole double
abbrev pub IsWhole : Float → Type 0
IsWhole x = WholeValue x (whole_of x)

signed_is : (s : Bool) (k : ℕ) (d : Integer) → Signed s k d → signed s k ≈ d
signed_is false k d h = omega arith
signed_is true k d h = omega arith

pub whole_same : (x : Float) (d : Integer) → WholeValue x d → whole_of x ≈ d
unfolding whole_of
whole_same nan d h = absurd h.val
whole_same (inf s) d h = absurd h.val
whole_same (fin s m e) d h =
    let k : m * up e / down e ≡ h.mag = ap (λ (x : ℕ). x / down e) (sym (mul-one (m * up e)) ∙ h.val.1) ∙ mul-div_cancel h.mag (down_pos e) in
    rw (k, h.val.0) (signed_is h.minus h.mag d h.is)

like : (s : Bool) (k : ℕ) (d e : Integer) → d ≈ e → Signed s k d → Signed s k e
like false k d e q h = omega arith
like true k d e q h = omega arith

pub whole_like : (x : Float) (d e : Integer) → d ≈ e → WholeValue x d → WholeValue x e
whole_like x d e q h = record { minus = h.minus; mag = h.mag; val = h.val; is = like h.minus h.mag d e q h.is }

pub is_whole : (x : Float) (d : Integer) → WholeValue x d → IsWhole x
is_whole x d h = whole_like x d (whole_of x) (let q = whole_same x d h in omega arith) h

pub whole_finite : (x : Float) (d : Integer) → WholeValue x d → finite x ≡ true
whole_finite nan d h = absurd h.val
whole_finite (inf s) d h = absurd h.val
whole_finite (fin s m e) d h = refl

pub lt_top : (x : Float) (d : Integer) → WholeValue x d → lt x (inf false) ≡ true
unfolding lt
lt_top nan d h = absurd h.val
lt_top (inf s) d h = absurd h.val
lt_top (fin s m e) d h = refl

pub top_lt : (x : Float) → lt (inf false) x ≡ false
unfolding lt
top_lt nan = refl
top_lt (inf s) = refl
top_lt (fin s m e) = refl
