-- A sum in which every term but one or two is a zero: it is that term, or the sum of the two, and where that is a zero too, a zero that is +0 if one of the terms is not -0. Assumes nothing.
use mathlib.Core.Path.{◌≡◌, refl, sym, ap, ap₂, ◌∙◌, subst}
use mathlib.Core.Logic.{◌⊎◌, inl, inr}
use mathlib.Core.Bool.{Bool, true, false, ◌&&◌}
use Prim.Native.Nat.{ℕ, zero, suc, ◌≤◌, ◌<◌}
use native.Mathlib.Omega.{arith}
use native.Mathlib.Nat.{eq-or-lt_of_le, le_refl}
use lib.Dec.{T}
use lib.Ieee.{Float, nan, inf, fin, binary64, add, fits, of_bits}
use lib.Ieee.Fits.{add-fits}
use lib.Ieee.Scale.{finite}
use Rattle.number.proofs.Held.{zero_of, zero_exponent, zeros_add, add_zero_of, zero_of_add}
use Rattle.number.proofs.Minus.{is_minus_zero, add_no_minus}
use Rattle.matrix.specs.Matrix.{nought, sum_to}

abbrev pub Fits : Float → Type 0
Fits x = T (fits binary64 x)

-- a finite value of binary64
abbrev pub Held : Float → Type 0
Held x = Fits x × (finite x ≡ true)

abbrev pub IsZero : Float → Type 0
IsZero x = (s : Bool) × (x ≡ zero_of s)

-- g itself, or a zero where g is one
abbrev pub Near : Float → Float → Type 0
Near g v = (v ≡ g) ⊎ (IsZero g × IsZero v)

zero_held : (x : Float) → IsZero x → Held x
unfolding fits
zero_held x z = subst Held (sym z.1) (at z.0)
  where
    at : (s : Bool) → Held (zero_of s)
    at true = (tt, refl)
    at false = (tt, refl)

pub near_held : (g v : Float) → Held g → Near g v → Held v
near_held g v h (inl e) = subst Held (sym e) h
near_held g v h (inr z) = zero_held v z.1

zero_zero : (a b : Float) → IsZero a → IsZero b → IsZero (add binary64 a b)
zero_zero a b p q = (p.0 && q.0, ap₂ (add binary64) p.1 q.1 ∙ zeros_add p.0 q.0)

zero_then : (a g : Float) → IsZero a → Fits g → Near g (add binary64 a g)
unfolding add
zero_then a nan p h = inl (ap (λ (x : Float). add binary64 x nan) p.1)
zero_then a (inf s) p h = inl (ap (λ (x : Float). add binary64 x (inf s)) p.1)
zero_then a (fin s zero e) p h = let z : IsZero (fin s zero e) = (s, ap (fin s zero) (zero_exponent binary64 s e h)) in inr (z, zero_zero a (fin s zero e) p z)
zero_then a (fin s (suc m) e) p h = inl (ap (λ (x : Float). add binary64 x (fin s (suc m) e)) p.1 ∙ zero_of_add s p.0 m e h)

then_zero : (g b : Float) → Fits g → IsZero b → Near g (add binary64 g b)
unfolding add
then_zero nan b h q = inl refl
then_zero (inf s) b h q = inl (ap (add binary64 (inf s)) q.1)
then_zero (fin s zero e) b h q = let z : IsZero (fin s zero e) = (s, ap (fin s zero) (zero_exponent binary64 s e h)) in inr (z, zero_zero (fin s zero e) b z q)
then_zero (fin s (suc m) e) b h q = inl (ap (add binary64 (fin s (suc m) e)) q.1 ∙ add_zero_of s q.0 m e h)

near_then : (g v b : Float) → Fits g → Near g v → IsZero b → Near g (add binary64 v b)
near_then g v b h (inl e) q = subst (λ (x : Float). Near g (add binary64 x b)) (sym e) (then_zero g b h q)
near_then g v b h (inr z) q = inr (z.0, zero_zero v b z.1 q)

near_both : {y g v : Float} → Near y g → Near y v → Near g v
near_both (inl a) (inl b) = inl (b ∙ sym a)
near_both (inl a) (inr b) = inr (subst IsZero (sym a) b.0, b.1)
near_both (inr a) (inl b) = inr (a.1, subst IsZero (sym b) a.0)
near_both (inr a) (inr b) = inr (a.1, b.1)

near_add : (g v y : Float) → Near g v → Fits y → Near (add binary64 g y) (add binary64 v y)
near_add g v y (inl e) h = inl (ap (λ (x : Float). add binary64 x y) e)
near_add g v y (inr z) h = near_both (zero_then g y z.0 h) (zero_then v y z.1 h)

-- ---- no -0

pub no_minus_plus : (g : Float) → Fits g → is_minus_zero (add binary64 g nought) ≡ false
unfolding of_bits fits
no_minus_plus g h = add_no_minus g nought h tt (inr refl)

-- what is near g and no -0 is g + 0
pub near_plus : (g v : Float) → Fits g → Near g v → is_minus_zero v ≡ false → v ≡ add binary64 g nought
unfolding of_bits
near_plus g v h n p = settled (then_zero g nought h (false, refl)) (no_minus_plus g h) n p
  where
    plus_of : (x : Float) → IsZero x → is_minus_zero x ≡ false → x ≡ zero_of false
    plus_of x z q = z.1 ∙ ap zero_of (sym (ap is_minus_zero z.1) ∙ q)

    settled : {w : Float} → Near g w → is_minus_zero w ≡ false → Near g v → is_minus_zero v ≡ false → v ≡ w
    settled (inl a) q (inl b) r = b ∙ sym a
    settled {w = w} (inl a) q (inr b) r = plus_of v b.1 r ∙ sym (plus_of w (subst IsZero (sym a) b.0) q)
    settled {w = w} (inr a) q (inl b) r = plus_of v (subst IsZero (sym b) a.0) r ∙ sym (plus_of w a.1 q)
    settled {w = w} (inr a) q (inr b) r = plus_of v b.1 r ∙ sym (plus_of w a.1 q)

-- ---- the sum of t 0, t 1, .. up to t n

sum_fits : (n : ℕ) (t : ℕ → Float) → ((k : ℕ) → k ≤ n → Fits (t k)) → Fits (sum_to n t)
sum_fits zero t fit = fit zero (le_refl zero)
sum_fits (suc n) t fit = add-fits binary64 (sum_to n t) (t (suc n))

-- one term is no -0
no_minus : (n : ℕ) (t : ℕ → Float) → ((k : ℕ) → k ≤ n → Fits (t k)) → (w : ℕ) → is_minus_zero (t w) ≡ false → w ≤ n → is_minus_zero (sum_to n t) ≡ false
no_minus zero t fit w plus h = let e : w ≡ 0 = omega (arith, h) in subst (λ (x : ℕ). is_minus_zero (t x) ≡ false) e plus
no_minus (suc n) t fit w plus h = add_no_minus (sum_to n t) (t (suc n)) (sum_fits n t earlier) (fit (suc n) (le_refl (suc n))) (sides (no_minus n t earlier w plus) (eq-or-lt_of_le h))
  where
    earlier : (k : ℕ) → k ≤ n → Fits (t k)
    earlier k b = fit k (omega (arith, b))

    sides : (w ≤ n → is_minus_zero (sum_to n t) ≡ false) → (w ≡ suc n) ⊎ (w < suc n) → (is_minus_zero (sum_to n t) ≡ false) ⊎ (is_minus_zero (t (suc n)) ≡ false)
    sides before (inl e) = inr (subst (λ (x : ℕ). is_minus_zero (t x) ≡ false) e plus)
    sides before (inr l) = inl (before (omega (arith, l)))

-- a sum of zeros alone
pub all_zeros : (n : ℕ) (t : ℕ → Float) → ((k : ℕ) → k ≤ n → IsZero (t k)) → IsZero (sum_to n t)
all_zeros zero t z = z zero (le_refl zero)
all_zeros (suc n) t z = zero_zero (sum_to n t) (t (suc n)) (all_zeros n t (λ k b. z k (omega (arith, b)))) (z (suc n) (le_refl (suc n)))

-- only t a may be other than a zero
module _ (n : ℕ) (t : ℕ → Float) (a : ℕ) (fit : Fits (t a)) (zeros : (k : ℕ) → k ≤ n → (k ≡ a → ⊥) → IsZero (t k)) where
  -- one term more
  from_next : (m : ℕ) → suc m ≤ n → (a ≤ m → Near (t a) (sum_to m t)) → (a ≡ suc m) ⊎ (a < suc m) → Near (t a) (sum_to (suc m) t)
  from_next m b earlier (inl e) =
      subst (λ (x : ℕ). Near (t a) (add binary64 (sum_to m t) (t x))) e (zero_then (sum_to m t) (t a) (all_zeros m t (λ k l. zeros k (omega (arith, b, l)) (λ q. omega (arith, q, l, e)))) fit)
  from_next m b earlier (inr l) = near_then (t a) (sum_to m t) (t (suc m)) fit (earlier (omega (arith, l))) (zeros (suc m) b (λ e. omega (arith, e, l)))

  pub from : (m : ℕ) → m ≤ n → a ≤ m → Near (t a) (sum_to m t)
  from zero b h = let e : 0 ≡ a = omega (arith, h) in inl (ap t e)
  from (suc m) b h = from_next m b (from m (omega (arith, b))) (eq-or-lt_of_le h)

-- only t a and t b, further on, may be other than zeros
module _ (n : ℕ) (t : ℕ → Float) (a b : ℕ) (order : a < b) (fita : Fits (t a)) (fitb : Fits (t b)) (zeros : (k : ℕ) → k ≤ n → (k ≡ a → ⊥) → (k ≡ b → ⊥) → IsZero (t k)) where
  abbrev both : Float
  both = add binary64 (t a) (t b)

  first : (m : ℕ) → m ≤ n → m < b → a ≤ m → Near (t a) (sum_to m t)
  first m l lb la = from m t a fita (λ k q d. zeros k (omega (arith, q, l)) d (λ e. omega (arith, e, q, lb))) m (le_refl m) la

  second_next : (m : ℕ) → suc m ≤ n → (b ≤ m → Near both (sum_to m t)) → (b ≡ suc m) ⊎ (b < suc m) → Near both (sum_to (suc m) t)
  second_next m l earlier (inl e) =
      subst (λ (x : ℕ). Near both (add binary64 (sum_to m t) (t x))) e (near_add (t a) (sum_to m t) (t b) (first m (omega (arith, l)) (omega (arith, e)) (omega (arith, e, order))) fitb)
  second_next m l earlier (inr q) =
      near_then both (sum_to m t) (t (suc m)) (add-fits binary64 (t a) (t b)) (earlier (omega (arith, q))) (zeros (suc m) l (λ e. omega (arith, e, q, order)) (λ e. omega (arith, e, q)))

  second : (m : ℕ) → m ≤ n → b ≤ m → Near both (sum_to m t)
  second zero l h = absurd (omega (arith, h, order))
  second (suc m) l h = second_next m l (second m (omega (arith, l))) (eq-or-lt_of_le h)

-- what the sum is where one term, t w, is no -0: the one, or the two, + 0
module _ (n : ℕ) (t : ℕ → Float) (fit : (k : ℕ) → k ≤ n → Fits (t k)) (w : ℕ) (plus : is_minus_zero (t w) ≡ false) (within : w ≤ n) where
  pub picked : (a : ℕ) → a ≤ n → ((k : ℕ) → k ≤ n → (k ≡ a → ⊥) → IsZero (t k)) → sum_to n t ≡ add binary64 (t a) nought
  picked a h zeros = near_plus (t a) (sum_to n t) (fit a h) (from n t a (fit a h) zeros n (le_refl n) h) (no_minus n t fit w plus within)

  pub picked_two : (a b : ℕ) → a < b → b ≤ n → ((k : ℕ) → k ≤ n → (k ≡ a → ⊥) → (k ≡ b → ⊥) → IsZero (t k)) → sum_to n t ≡ add binary64 (add binary64 (t a) (t b)) nought
  picked_two a b l h zeros =
      near_plus (add binary64 (t a) (t b)) (sum_to n t) (add-fits binary64 (t a) (t b)) (second n t a b l (fit a (omega (arith, l, h))) (fit b h) zeros n (le_refl n) h) (no_minus n t fit w plus within)
