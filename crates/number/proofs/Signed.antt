-- Signed numbers as code has them, by their bits, are the integers. Assumes nothing.
use Rattle.std.proofs.Common.{◌≡◌, Bool, true, false, ℤ, pos, negsuc, sym, refl, ap, ◌∙◌, subst, true≢false, to_z-of_z, w64, SFits, to_z, of_z, eq-eqb, eqb-true}
use lib.Signed.{lt_z}
use Rattle.number.specs.Time.{same_time}

-- a test as code has it, on the bits, is the test on the integers
pub lt_of : {b : Bool} (x y : ℤ) → SFits w64 x → SFits w64 y → lt_z (to_z w64 (of_z w64 x)) (to_z w64 (of_z w64 y)) ≡ b → lt_z x y ≡ b
lt_of x y f g e = rw (to_z-of_z f, to_z-of_z g) at e

-- a test of a sum with a literal, as code has it
-- ---- equal bits are equal numbers
same_true : (x y : ℤ) → same_time x y ≡ true → x ≡ y
same_true (pos a) (pos b) e = ap pos (eqb-true a b e)
same_true (negsuc a) (negsuc b) e = ap negsuc (eqb-true a b e)
same_true (pos a) (negsuc b) e = absurd (true≢false (sym e))
same_true (negsuc a) (pos b) e = absurd (true≢false (sym e))

same_self : (x : ℤ) → same_time x x ≡ true
same_self (pos a) = eq-eqb a a refl
same_self (negsuc a) = eq-eqb a a refl

pub same_of : (x y : ℤ) → SFits w64 x → SFits w64 y → of_z w64 x ≡ of_z w64 y → same_time x y ≡ true
same_of x y f g e = subst (λ (z : ℤ). same_time x z ≡ true) (sym (to_z-of_z f) ∙ ap (to_z w64) e ∙ to_z-of_z g) (same_self x)

pub other_of : (x y : ℤ) → (of_z w64 x ≡ of_z w64 y → ⊥) → same_time x y ≡ false
other_of x y n = go (same_time x y) refl
  where
    go : (b : Bool) → same_time x y ≡ b → same_time x y ≡ false
    go true e = absurd (n (ap (of_z w64) (same_true x y e)))
    go false e = e
