-- What the program's tests tell of a value. Assumes nothing.
use Rattle.std.specs.Prelude.{None, Some}
use Rattle.std.proofs.Common.{◌≡◌, ℕ, zero, suc, ◌*◌, true, false, T, ℤ, sym, refl, ◌∙◌, arith, ltb-true}
use lib.Ieee.{Float, nan, inf, fin, binary64, up, down, lt, eq, of_bits}
use lib.Ieee.Positive.{positive}
use Rattle.number.specs.Reply.{refused, given}
use Rattle.square_root.specs.Root.{root_reply, RootAnswer}
use Rattle.number.proofs.Zeros.{impossible, none, zero_side, zero_equal, not_zero, positive_above}

abbrev pub zero_f : Float
zero_f = of_bits binary64 0

abbrev pub inf_f : Float
inf_f = of_bits binary64 0x7ff0_0000_0000_0000

pub when_positive : (P : Float → Type 0) → ((m : ℕ) (e : ℤ) → P (fin false (suc m) e)) → (x : Float) → lt zero_f x ≡ true → lt x inf_f ≡ true → P x
unfolding lt of_bits
when_positive P f nan a b = impossible a
when_positive P f (inf true) a b = impossible a
when_positive P f (inf false) a b = impossible b
when_positive P f (fin true m e) a b = impossible a
when_positive P f (fin false zero e) a b = absurd (omega (arith, ltb-true (0 * 1 * down e) (zero * up e * 1) a, zero_side e, none e))
when_positive P f (fin false (suc m) e) a b = f m e

pub when_infinite : (x : Float) → lt zero_f x ≡ true → lt x inf_f ≡ false → RootAnswer x (Some x)
unfolding lt of_bits root_reply
when_infinite nan a b = impossible a
when_infinite (inf true) a b = impossible a
when_infinite (inf false) a b = record { is = refl; nearest = λ v p e. absurd p }
when_infinite (fin true m e) a b = impossible a
when_infinite (fin false m e) a b = impossible (sym b)

pub when_zero : (x : Float) → eq x zero_f ≡ true → RootAnswer x (Some x)
unfolding eq of_bits root_reply
when_zero nan a = impossible a
when_zero (inf s) a = impossible a
when_zero (fin true zero e) a = record { is = refl; nearest = λ v p e. absurd p }
when_zero (fin false zero e) a = record { is = refl; nearest = λ v p e. absurd p }
when_zero (fin s (suc m) e) a = not_zero s m e a

pub when_refused : (x : Float) → lt zero_f x ≡ false → eq x zero_f ≡ false → RootAnswer x None
unfolding lt eq of_bits root_reply
when_refused nan a b = record { is = refl; nearest = λ v p e. absurd p }
when_refused (inf true) a b = record { is = refl; nearest = λ v p e. absurd p }
when_refused (inf false) a b = impossible (sym a)
when_refused (fin s zero e) a b = impossible (sym b ∙ zero_equal s e)
when_refused (fin true (suc m) e) a b = record { is = refl; nearest = λ v p e. absurd p }
when_refused (fin false (suc m) e) a b = positive_above m e a

pub positive_given : (x : Float) (n : ℕ) → T (positive x) → root_reply x ≡ refused n → ⊥
unfolding root_reply
positive_given nan n p h = p
positive_given (inf s) n p h = p
positive_given (fin true m e) n p h = p
positive_given (fin false zero e) n p h = let z : ◌≡◌ {A = ℕ} 0 1 = cc in omega arith
positive_given (fin false (suc m) e) n p h = let z : ◌≡◌ {A = ℕ} 0 1 = cc in omega arith

-- what is above zero has a root
pub record RootGiven (x : Float) : Type 0 where
  pub value : Float
  pub is : given value ≡ root_reply x

pub above_given : (x : Float) → lt zero_f x ≡ true → RootGiven x
unfolding lt of_bits root_reply
above_given nan a = impossible a
above_given (inf true) a = impossible a
above_given (inf false) a = record { value = inf false; is = refl }
above_given (fin true m e) a = impossible a
above_given (fin false zero e) a = record { value = fin false zero e; is = refl }
above_given (fin false (suc m) e) a = record { value = _; is = refl }
