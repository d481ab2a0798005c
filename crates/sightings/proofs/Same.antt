-- When two numbers are the same, and two covariances. Assumes nothing.
use mathlib.Core.Path.{◌≡◌, refl, sym, ap, ◌∙◌}
use mathlib.Core.Bool.{Bool, true, false}
use mathlib.Core.List.{List, [], ◌∷◌}
use Prim.Native.Nat.{ℕ, suc, ◌<◌}
use native.Mathlib.Omega.{arith}
use lib.Dec.{T}
use lib.Ieee.{Float, binary64, fits, of_bits, to_bits}
use lib.Ieee.Bits.{of_bits-to_bits}
use lib.ListN.{length}
use Rattle.std.specs.Bool.{MatchBool}
use Rattle.std.specs.List.{AllWithin, HoldsAt, zip}
use Rattle.number.proofs.Zeros.{impossible}

-- pairs of the same items
pairs_same : {A : Type 0} (a b : List A) → length a ≡ length b → AllWithin (λ p. p.0 ≡ p.1) (zip a b) 0 (length (zip a b)) → a ≡ b
pairs_same [] [] e h = refl
pairs_same [] (y ∷ b) e h = absurd (omega arith)
pairs_same (x ∷ a) [] e h = absurd (omega arith)
pairs_same {A} (x ∷ a) (y ∷ b) e h =
    ap {B = List A} (λ z. z ∷ a) (h 0 (x, y) (omega arith) (omega arith)) ∙ ap {B = List A} (λ l. y ∷ l) (pairs_same a b (omega arith) (λ k d i j. h (suc k) d (omega arith) (omega arith)))

-- numbers with the same bits
pub bits_same : (a b : Float) → T (fits binary64 a) → T (fits binary64 b) → to_bits binary64 a ≡ to_bits binary64 b → a ≡ b
bits_same a b f g e = sym (of_bits-to_bits binary64 a f) ∙ ap (of_bits binary64) e ∙ of_bits-to_bits binary64 b g

-- two lists of one length, where r says that the items of each pair are the same
pub all_same : {A : Type 0} (a b : List A) (r : Bool) → length a ≡ length b → MatchBool r (AllWithin (λ p. p.0 ≡ p.1) (zip a b) 0 (length (zip a b))) ((k : ℕ) × (k < length (zip a b)) × HoldsAt (λ p. Unit {0}) (zip a b) k) → r ≡ true → a ≡ b
all_same a b false e h t = impossible t
all_same a b true e h t = pairs_same a b e h
