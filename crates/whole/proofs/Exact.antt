-- binary64 is exact on whole numbers up to 2 ^ 53 either way: sum, difference, order. -0 counts as 0.
use mathlib.Core.Path.{◌≡◌, refl, sym, ap, ap₂, ◌∙◌}
use mathlib.Core.Bool.{Bool, true, false, not, cond}
use Prim.Native.Nat.{ℕ, ◌+◌, ◌-◌, ◌*◌, ◌^◌, ◌≤◌, ◌<◌}
use native.Mathlib.Nat.{mul-one, mul_assoc, mul_comm, add-mul, mul-sub, mul-pos, mul-lt-mul_of_pos_right, mul-le-mul_right}
use native.Mathlib.Omega.{arith}
use borrow.Author.Tests.{lt-ltb, le-ltb, ltb-true, ltb-false}
use lib.Dec.{ltb, lit<}
use lib.Ieee.{Float, nan, inf, fin, Format, binary64, up, down, round, sum, add, sub, neg, lt, below, mul, unlike}
use lib.Ieee.Fits.{down_pos}
use lib.Ieee.Exact.{HasValue}
use lib.Ieee.Back.{round_whole}
use lib.Ieee.Scale.{round_same}
use Rattle.whole.specs.Integer.{Integer, ◌+Z◌, ◌-Z◌, neg_z, lt_z, Within}
use Rattle.whole.specs.Whole.{Signed, WholeValue}

-- ---- a common denominator
left : (m k u e d : ℕ) → m * u * 1 ≡ k * e → m * u * d ≡ k * (e * d)
left m k u e d h = ap (λ (x : ℕ). x * d) (sym (mul-one (m * u)) ∙ h) ∙ mul_assoc k e d

right : (n l u d e : ℕ) → n * u * 1 ≡ l * d → n * u * e ≡ l * (e * d)
right n l u d e h = left n l u d e h ∙ ap (λ (x : ℕ). l * x) (mul_comm d e)

ltb_scale : (k l c : ℕ) → 0 < c → ltb (k * c) (l * c) ≡ ltb k l
ltb_scale k l c h = go (ltb k l) refl
  where
    go : (b : Bool) → ltb k l ≡ b → ltb (k * c) (l * c) ≡ b
    go true e = lt-ltb (k * c) (l * c) (mul-lt-mul_of_pos_right (ltb-true k l e) h)
    go false e = le-ltb (k * c) (l * c) (mul-le-mul_right c (ltb-false k l e))

minus_mul : (k l c : ℕ) → (k * c - l * c) * 1 ≡ (k - l) * c
minus_mul k l c = mul-one (k * c - l * c) ∙ simp (mul_comm (k - l) c, mul-sub, mul_comm c k, mul_comm c l)

module _ (f : Format) (k l c : ℕ) (h : 0 < c) where
  plus_same : (s : Bool) → round f s (k * c + l * c) c ≡ round f s (k + l) 1
  plus_same s = round_same f s (k * c + l * c) c (k + l) 1 h (lit< tt) (mul-one (k * c + l * c) ∙ sym (add-mul k l c))

  minus_same : (s : Bool) → round f s (k * c - l * c) c ≡ round f s (k - l) 1
  minus_same s = round_same f s (k * c - l * c) c (k - l) 1 h (lit< tt) (minus_mul k l c)

sum_scale : (f : Format) (s t : Bool) (k l c : ℕ) → 0 < c → sum f s (k * c) t (l * c) c ≡ sum f s k t l 1
unfolding sum
sum_scale f s t k l c h = simp (plus_same f k l c h, minus_same f k l c h, minus_same f l k c h, ltb_scale k l c h, ltb_scale l k c h)

-- ---- the sum of two whole numbers
module _ (k l : ℕ) (a b : Integer) (small : Within (2 ^ 53) (a +Z b)) where
  sum_whole : (s t : Bool) → Signed s k a → Signed t l b → WholeValue (sum binary64 s k t l 1) (a +Z b)
  unfolding sum
  sum_whole false false p q = record { minus = false; mag = k + l; val = round_whole binary64 false (k + l) (omega arith); is = omega arith }
  sum_whole true true p q = record { minus = true; mag = k + l; val = round_whole binary64 true (k + l) (omega arith); is = omega arith }
  sum_whole false true p q = go (ltb k l) refl
    where
      go : (x : Bool) → ltb k l ≡ x → WholeValue (cond x (round binary64 true (l - k) 1) (round binary64 false (k - l) 1)) (a +Z b)
      go true e = let h = ltb-true k l e in record { minus = true; mag = l - k; val = round_whole binary64 true (l - k) (omega arith); is = omega arith }
      go false e = let h = ltb-false k l e in record { minus = false; mag = k - l; val = round_whole binary64 false (k - l) (omega arith); is = omega arith }
  sum_whole true false p q = go (ltb k l) refl (ltb l k) refl
    where
      go : (x : Bool) → ltb k l ≡ x → (y : Bool) → ltb l k ≡ y → WholeValue (cond x (round binary64 false (l - k) 1) (round binary64 y (k - l) 1)) (a +Z b)
      go true e y r = let h = ltb-true k l e in record { minus = false; mag = l - k; val = round_whole binary64 false (l - k) (omega arith); is = omega arith }
      go false e true r = let h = ltb-false k l e in record { minus = true; mag = k - l; val = round_whole binary64 true (k - l) (omega arith); is = omega arith }
      go false e false r = let h = ltb-false k l e in let g = ltb-false l k r in record { minus = false; mag = k - l; val = round_whole binary64 false (k - l) (omega arith); is = omega arith }

pub add_whole : (x y : Float) (a b : Integer) → WholeValue x a → WholeValue y b → Within (2 ^ 53) (a +Z b) → WholeValue (add binary64 x y) (a +Z b)
unfolding add
add_whole nan y a b p q h = absurd p.val
add_whole (inf s) y a b p q h = absurd p.val
add_whole (fin s m e) nan a b p q h = absurd q.val
add_whole (fin s m e) (inf t) a b p q h = absurd q.val
add_whole (fin s m e) (fin t n d) a b p q h =
    rw (
      left m p.mag (up e) (down e) (down d) p.val.1,
      right n q.mag (up d) (down d) (down e) q.val.1,
      p.val.0,
      q.val.0,
      sum_scale binary64 p.minus q.minus p.mag q.mag (down e * down d) (mul-pos (down_pos e) (down_pos d)),
    )
    (sum_whole p.mag q.mag a b h p.minus q.minus p.is q.is)

pub neg_whole : (x : Float) (a : Integer) → WholeValue x a → WholeValue (neg x) (neg_z a)
unfolding neg
neg_whole nan a p = absurd p.val
neg_whole (inf s) a p = absurd p.val
neg_whole (fin s m e) a p = record { minus = not p.minus; mag = p.mag; val = (ap not p.val.0, p.val.1); is = flip p.minus p.is }
  where
    flip : (b : Bool) → Signed b p.mag a → Signed (not b) p.mag (neg_z a)
    flip true h = h
    flip false h = h

pub sub_whole : (x y : Float) (a b : Integer) → WholeValue x a → WholeValue y b → Within (2 ^ 53) (a -Z b) → WholeValue (sub binary64 x y) (a -Z b)
unfolding sub
sub_whole x y a b p q h = add_whole x (neg y) a (neg_z b) p (neg_whole y b q) h

module _ (k l : ℕ) (a b : Integer) where
  below_whole : (s t : Bool) → Signed s k a → Signed t l b → below s k t l ≡ lt_z a b
  below_whole false false p q = go (ltb k l) refl
    where
      go : (x : Bool) → ltb k l ≡ x → x ≡ lt_z a b
      go true e = let h = ltb-true k l e in sym (lt-ltb (a.up + b.dn) (b.up + a.dn) (omega arith))
      go false e = let h = ltb-false k l e in sym (le-ltb (a.up + b.dn) (b.up + a.dn) (omega arith))
  below_whole false true p q = sym (le-ltb (a.up + b.dn) (b.up + a.dn) (omega arith))
  below_whole true false p q = go (ltb 0 (k + l)) refl
    where
      go : (x : Bool) → ltb 0 (k + l) ≡ x → x ≡ lt_z a b
      go true e = let h = ltb-true 0 (k + l) e in sym (lt-ltb (a.up + b.dn) (b.up + a.dn) (omega arith))
      go false e = let h = ltb-false 0 (k + l) e in sym (le-ltb (a.up + b.dn) (b.up + a.dn) (omega arith))
  below_whole true true p q = go (ltb l k) refl
    where
      go : (x : Bool) → ltb l k ≡ x → x ≡ lt_z a b
      go true e = let h = ltb-true l k e in sym (lt-ltb (a.up + b.dn) (b.up + a.dn) (omega arith))
      go false e = let h = ltb-false l k e in sym (le-ltb (a.up + b.dn) (b.up + a.dn) (omega arith))

below_scale : (s t : Bool) (k l c : ℕ) → 0 < c → below s (k * c) t (l * c) ≡ below s k t l
below_scale false false k l c h = ltb_scale k l c h
below_scale false true k l c h = refl
below_scale true false k l c h = ap (λ (x : ℕ). ltb 0 x) (sym (add-mul k l c)) ∙ ap (λ (x : ℕ). ltb x ((k + l) * c)) (sym (native.Mathlib.Nat.zero-mul c)) ∙ ltb_scale 0 (k + l) c h
below_scale true true k l c h = ltb_scale l k c h

pub lt_whole : (x y : Float) (a b : Integer) → WholeValue x a → WholeValue y b → lt x y ≡ lt_z a b
unfolding lt
lt_whole nan y a b p q = absurd p.val
lt_whole (inf s) y a b p q = absurd p.val
lt_whole (fin s m e) nan a b p q = absurd q.val
lt_whole (fin s m e) (inf t) a b p q = absurd q.val
lt_whole (fin s m e) (fin t n d) a b p q =
    rw (
      left m p.mag (up e) (down e) (down d) p.val.1,
      right n q.mag (up d) (down d) (down e) q.val.1,
      p.val.0,
      q.val.0,
      below_scale p.minus q.minus p.mag q.mag (down e * down d) (mul-pos (down_pos e) (down_pos d)),
    )
    (below_whole p.mag q.mag a b p.minus q.minus p.is q.is)

-- ---- products: the size of a product of whole numbers, up to 2 ^ 53
mul_cross : (m u e k n w d l : ℕ) → m * u * 1 ≡ k * e → n * w * 1 ≡ l * d → m * u * (n * w) * 1 ≡ k * l * (e * d)
mul_cross m u e k n w d l p q =
    let p' : m * u ≡ k * e = sym (mul-one (m * u)) ∙ p in
    let q' : n * w ≡ l * d = sym (mul-one (n * w)) ∙ q in
    mul-one (m * u * (n * w)) ∙ ap₂ ◌*◌ p' q' ∙ simp (mul_assoc, mul_comm, native.Mathlib.Nat.mul_left_comm)

pub mul_size : (x y : Float) (s t : Bool) (k l : ℕ) → HasValue x s k 1 → HasValue y t l 1 → k * l ≤ 2 ^ 53 → HasValue (mul binary64 x y) (unlike s t) (k * l) 1
unfolding mul
mul_size nan y s t k l p q h = absurd p
mul_size (inf s') y s t k l p q h = absurd p
mul_size (fin s' m e) nan s t k l p q h = absurd q
mul_size (fin s' m e) (inf t') s t k l p q h = absurd q
mul_size (fin s' m e) (fin t' n d) s t k l p q h =
    rw (p.0, q.0, round_same binary64 (unlike s t) (m * up e * (n * up d)) (down e * down d) (k * l) 1 (mul-pos (down_pos e) (down_pos d)) (lit< tt) (mul_cross m (up e) (down e) k n (up d) (down d) l p.1 q.1))
    (round_whole binary64 (unlike s t) (k * l) h)
