-- The distance between two finite places is a root that is never refused, so that no birth is. Assumes nothing.
use mathlib.Core.Path.{◌≡◌, refl, sym}
use mathlib.Core.Bool.{Bool, true, false, not, ◌&&◌, cond, beq}
use Prim.Native.Nat.{ℕ, zero, suc, ◌+◌, ◌-◌, ◌*◌, ◌^◌}
use lib.Dec.{ltb}
use lib.Ieee.{Float, nan, inf, fin, Format, binary64, prec, emax, low, up, down, odd, units, round, sum, neg, add, sub, mul, is_nan}
use lib.Ieee.Scale.{finite}
use Rattle.number.specs.Reply.{given}
use Rattle.square_root.specs.Root.{root_reply}
use Rattle.number.proofs.Zeros.{impossible}
use Rattle.matrix.specs.Matrix.{Vector, item, minus_vector}
use Rattle.finite.specs.Finite.{finite_vector}
use Rattle.detections.specs.Births.{squared_offset, root_or_nan, distance_of}
use Rattle.number.proofs.Zeros.{both}

-- a number with no minus before it, zero and infinity among them
upright : Float → Bool
upright nan = false
upright (inf s) = not s
upright (fin s m e) = not s

-- ---- what is rounded is a number, of the sign that it is rounded with

odd_number : (d : ℕ) (s : Bool) (q k l : ℕ) → is_nan (odd d s q k l) ≡ false
unfolding odd is_nan
odd_number d s zero k l = refl
odd_number d s (suc q) k l = refl

odd_upright : (d q k l : ℕ) → upright (odd d false q k l) ≡ true
unfolding odd upright
odd_upright d zero k l = refl
odd_upright d (suc q) k l = refl

module _ (f : Format) where
  units_number : (s : Bool) (q k : ℕ) → is_nan (units f s q k) ≡ false
  unfolding units is_nan
  units_number s q k = go (ltb (q * 2 ^ k) (2 ^ (low f + suc (emax f))))
    where
      go : (b : Bool) → is_nan (cond b (odd (suc (prec f)) s q k (low f)) (inf s)) ≡ false
      go true = odd_number (suc (prec f)) s q k (low f)
      go false = refl

  units_upright : (q k : ℕ) → upright (units f false q k) ≡ true
  unfolding units upright
  units_upright q k = go (ltb (q * 2 ^ k) (2 ^ (low f + suc (emax f))))
    where
      go : (b : Bool) → upright (cond b (odd (suc (prec f)) false q k (low f)) (inf false)) ≡ true
      go true = odd_upright (suc (prec f)) q k (low f)
      go false = refl

  round_number : (s : Bool) (n d : ℕ) → is_nan (round f s n d) ≡ false
  unfolding round
  round_number s n d = units_number s _ _

  round_upright : (n d : ℕ) → upright (round f false n d) ≡ true
  unfolding round
  round_upright n d = units_upright _ _

  sum_number : (s : Bool) (a : ℕ) (t : Bool) (b c : ℕ) → is_nan (sum f s a t b c) ≡ false
  unfolding sum
  sum_number s a t b c = go (beq s t) (ltb a b)
    where
      go : (x y : Bool) → is_nan (cond x (round f s (a + b) c) (cond y (round f t (b - a) c) (round f (s && ltb b a) (a - b) c))) ≡ false
      go true y = round_number s (a + b) c
      go false true = round_number t (b - a) c
      go false false = round_number (s && ltb b a) (a - b) c

-- ---- the steps of a distance

offset_number : (x y : Float) → finite x ≡ true → finite y ≡ true → is_nan (sub binary64 x y) ≡ false
unfolding sub add neg
offset_number nan y p q = impossible p
offset_number (inf s) y p q = impossible p
offset_number (fin s m e) nan p q = impossible q
offset_number (fin s m e) (inf t) p q = impossible q
offset_number (fin s m e) (fin t n d) p q = sum_number binary64 s (m * up e * down d) (not t) (n * up d * down e) (down e * down d)

square_upright : (x : Float) → is_nan x ≡ false → upright (mul binary64 x x) ≡ true
unfolding mul is_nan upright
square_upright nan p = impossible (sym p)
square_upright (inf true) p = refl
square_upright (inf false) p = refl
square_upright (fin true m e) p = round_upright binary64 (m * up e * (m * up e)) (down e * down e)
square_upright (fin false m e) p = round_upright binary64 (m * up e * (m * up e)) (down e * down e)

add_upright : (x y : Float) → upright x ≡ true → upright y ≡ true → upright (add binary64 x y) ≡ true
unfolding add sum upright
add_upright nan y p q = impossible p
add_upright (inf true) y p q = impossible p
add_upright (inf false) nan p q = impossible q
add_upright (inf false) (inf true) p q = impossible q
add_upright (inf false) (inf false) p q = refl
add_upright (inf false) (fin t n d) p q = refl
add_upright (fin true m e) y p q = impossible p
add_upright (fin false m e) nan p q = impossible q
add_upright (fin false m e) (inf true) p q = impossible q
add_upright (fin false m e) (inf false) p q = refl
add_upright (fin false m e) (fin true n d) p q = impossible q
add_upright (fin false m e) (fin false n d) p q = round_upright binary64 (m * up e * down d + n * up d * down e) (down e * down d)

root_given : (x : Float) → upright x ≡ true → root_reply x ≡ given (root_or_nan (root_reply x))
unfolding root_reply upright
root_given nan p = impossible p
root_given (inf true) p = impossible p
root_given (inf false) p = refl
root_given (fin true m e) p = impossible p
root_given (fin false zero e) p = refl
root_given (fin false (suc m) e) p = refl

module _ (a b : Vector) (p : finite_vector 3 a ≡ true) (q : finite_vector 3 b ≡ true) where
  offset_upright : (k : ℕ) → finite (item a k) ≡ true → finite (item b k) ≡ true → upright (mul binary64 (sub binary64 (item a k) (item b k)) (sub binary64 (item a k) (item b k))) ≡ true
  offset_upright k f g = square_upright (sub binary64 (item a k) (item b k)) (offset_number (item a k) (item b k) f g)

  pub distance_given : root_reply (squared_offset a b) ≡ given (distance_of a b)
  unfolding finite_vector minus_vector distance_of
  distance_given =
      let a₂ = both (true && finite (item a 0) && finite (item a 1)) (finite (item a 2)) p in
      let a₁ = both (true && finite (item a 0)) (finite (item a 1)) a₂.0 in
      let b₂ = both (true && finite (item b 0) && finite (item b 1)) (finite (item b 2)) q in
      let b₁ = both (true && finite (item b 0)) (finite (item b 1)) b₂.0 in
      root_given (squared_offset a b)
      (add_upright _ _ (add_upright _ _ (offset_upright 0 a₁.0 b₁.0) (offset_upright 1 a₁.1 b₁.1)) (offset_upright 2 a₂.1 b₂.1))
