-- What a row of the identity makes of finite numbers: a sum of products with it is the number that it selects, but for a zero's sign. Assumes nothing.
use mathlib.Core.Path.{◌≡◌, refl, sym, ap, ap₂, ◌∙◌, subst}
use mathlib.Core.Bool.{Bool, true, false, cond}
use Prim.Native.Nat.{ℕ, zero, suc, ◌*◌, ◌≤◌}
use lib.Dec.{eqb}
use lib.Ieee.{Float, nan, inf, fin, binary64, up, down, round, add, mul, lt, of_bits, unlike}
use lib.Ieee.Fits.{mul-fits}
use native.Mathlib.Nat.{le_refl}
use borrow.Author.Tests.{eq-eqb, ne_eqb, eqb-true, eqb-false}
use Rattle.number.proofs.Zeros.{impossible}
use Rattle.number.proofs.Held.{one_times, zero_times, mul_turned}
use Rattle.number.proofs.Plus.{round_plus}
use Rattle.number.proofs.Minus.{is_minus_zero, plus_no_minus}
use Rattle.matrix.specs.Matrix.{nought, one, sum_to}
use Rattle.selected.specs.Units.{unit_at}
use Rattle.selected.proofs.Picks.{Fits, Held, IsZero, Near, from, picked}

pub nought_times : (x : Float) → Held x → IsZero (mul binary64 nought x)
unfolding of_bits
nought_times nan h = impossible h.1
nought_times (inf s) h = impossible h.1
nought_times (fin s m e) h = (unlike false s, zero_times false s m e)

pub plus_times : (x : Float) → Held x → lt nought x ≡ true → is_minus_zero (mul binary64 nought x) ≡ false
unfolding of_bits lt
plus_times nan h p = impossible h.1
plus_times (inf s) h p = impossible h.1
plus_times (fin true m e) h p = impossible p
plus_times (fin false m e) h p = ap is_minus_zero (zero_times false false m e)

pub plus_itself : (x : Float) → Held x → lt nought x ≡ true → is_minus_zero x ≡ false
unfolding of_bits lt
plus_itself nan h p = impossible h.1
plus_itself (inf s) h p = impossible h.1
plus_itself (fin true m e) h p = impossible p
plus_itself (fin false zero e) h p = refl
plus_itself (fin false (suc m) e) h p = refl

-- both above 0
either : (b s : Bool) → is_minus_zero (cond b nan (inf s)) ≡ false
either true s = refl
either false s = refl

pub above_times : (x y : Float) → lt nought x ≡ true → lt nought y ≡ true → is_minus_zero (mul binary64 x y) ≡ false
unfolding of_bits lt mul
above_times nan y p q = refl
above_times (inf s) nan p q = refl
above_times (inf s) (inf t) p q = refl
above_times (inf s) (fin t n d) p q = either (eqb n 0) (unlike s t)
above_times (fin s m e) nan p q = refl
above_times (fin s m e) (inf t) p q = either (eqb m 0) (unlike s t)
above_times (fin true m e) (fin t n d) p q = impossible p
above_times (fin false m e) (fin true n d) p q = impossible q
above_times (fin false m e) (fin false n d) p q = plus_no_minus (round binary64 false (m * up e * (n * up d)) (down e * down d)) (round_plus binary64 (m * up e * (n * up d)) (down e * down d))

-- ---- the terms of row a of the identity with g

module _ (n a : ℕ) (g : ℕ → Float) (held : (k : ℕ) → k ≤ n → Held (g k)) (here : a ≤ n) where
  abbrev pub term : ℕ → Float
  term k = mul binary64 (unit_at a k) (g k)

  term_here : term a ≡ g a
  term_here = ap (λ (b : Bool). mul binary64 (cond b one nought) (g a)) (eq-eqb a a refl) ∙ one_times (g a) (held a here).0

  term_off : (k : ℕ) → (k ≡ a → ⊥) → term k ≡ mul binary64 nought (g k)
  term_off k d = ap (λ (b : Bool). mul binary64 (cond b one nought) (g k)) (ne_eqb k a d)

  term_fits : (k : ℕ) → Fits (term k)
  term_fits k = mul-fits binary64 (unit_at a k) (g k)

  term_zero : (k : ℕ) → k ≤ n → (k ≡ a → ⊥) → IsZero (term k)
  term_zero k b d = subst IsZero (sym (term_off k d)) (nought_times (g k) (held k b))

  pub selected_near : Near (g a) (sum_to n term)
  selected_near = subst (λ (x : Float). Near x (sum_to n term)) term_here (from n term a (term_fits a) term_zero n (le_refl n) here)

  -- one of the numbers is above 0
  pub selected_plus : (w : ℕ) → w ≤ n → lt nought (g w) ≡ true → sum_to n term ≡ add binary64 (g a) nought
  selected_plus w b p = picked n term (λ k b. term_fits k) w (plus (eqb w a) refl) b a here term_zero ∙ ap (λ (x : Float). add binary64 x nought) term_here
    where
      plus : (x : Bool) → eqb w a ≡ x → is_minus_zero (term w) ≡ false
      plus true e = subst (λ (k : ℕ). is_minus_zero (term k) ≡ false) (sym (eqb-true w a e)) (ap is_minus_zero term_here ∙ plus_itself (g a) (held a here) (subst (λ (k : ℕ). lt nought (g k) ≡ true) (eqb-true w a e) p))
      plus false e = ap is_minus_zero (term_off w (eqb-false w a e)) ∙ plus_times (g w) (held w b) p

  -- the number selected is no -0
  pub selected_itself : is_minus_zero (g a) ≡ false → sum_to n term ≡ add binary64 (g a) nought
  selected_itself p = picked n term (λ k b. term_fits k) a (ap is_minus_zero term_here ∙ p) here a here term_zero ∙ ap (λ (x : Float). add binary64 x nought) term_here

-- the factors turned round
pub turned : (n a : ℕ) (g : ℕ → Float) → sum_to n (λ k. mul binary64 (g k) (unit_at a k)) ≡ sum_to n (λ k. mul binary64 (unit_at a k) (g k))
turned zero a g = mul_turned binary64 (g 0) (unit_at a 0)
turned (suc n) a g = ap₂ (add binary64) (turned n a g) (mul_turned binary64 (g (suc n)) (unit_at a (suc n)))
