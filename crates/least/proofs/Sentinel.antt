-- The sentinel of whole costs: a whole number, far above what allowed pairs and unmatched costs can come to.
use mathlib.Core.Path.{◌≡◌, refl, sym, ◌∙◌}
use mathlib.Core.Bool.{Bool, true, false, cond}
use mathlib.Core.List.{List, [], ◌∷◌}
use Prim.Native.Nat.{ℕ, suc, ◌+◌, ◌*◌, ◌^◌, ◌≤◌}
use native.Mathlib.Omega.{arith}
use borrow.Author.Tests.{ltb-true, ltb-false}
use lib.Dec.{ltb}
use lib.ListN.{get_or}
use lib.Ieee.{Float, nan, inf, fin, binary64, mul, lt, of_bits}
use lib.Ieee.Exact.{HasValue}
use lib.Ieee.Scale.{finite}
use Rattle.number.specs.Float.{absolute_of, larger_of}
use Rattle.whole.specs.Integer.{Integer, natural, ◌+Z◌, ◌≤Z◌, Within}
use Rattle.whole.specs.Whole.{WholeValue, Signed}
use Rattle.whole.proofs.Exact.{add_whole, lt_whole, mul_size}
use Rattle.kuhn_munkres.specs.Assignment.{largest, largest_of, sentinel_of}

-- a whole number in 01's range
abbrev pub Ranged : Float → Type 0
Ranged x = (d : Integer) × WholeValue x d × Within 1_000_000 d

either : (b : Bool) (x y : Float) → Ranged x → Ranged y → Ranged (cond b x y)
either true x y p q = p
either false x y p q = q

pub larger_ranged : (x y : Float) → Ranged x → Ranged y → Ranged (larger_of x y)
larger_ranged x y p q = either (lt x y) y x q p

largest_ranged : (m : Float) (l : List Float) → Ranged m → ((j : ℕ) → finite (get_or l j nan) ≡ true → Ranged (get_or l j nan)) → Ranged (largest m l)
unfolding largest
largest_ranged m [] p h = p
largest_ranged m (x ∷ l) p h = largest_ranged (cond (finite x) (larger_of m x) m) l (go (finite x) refl) (λ j. h (suc j))
  where
    go : (b : Bool) → finite x ≡ b → Ranged (cond b (larger_of m x) m)
    go true e = larger_ranged m x p (h 0 e)
    go false e = p

pub largest_of_ranged : (m : Float) (rows : List (List Float)) → Ranged m → ((i j : ℕ) → finite (get_or (get_or rows i []) j nan) ≡ true → Ranged (get_or (get_or rows i []) j nan)) → Ranged (largest_of m rows)
unfolding largest_of
largest_of_ranged m [] p h = p
largest_of_ranged m (r ∷ rows) p h = largest_of_ranged (largest m r) rows (largest_ranged m r p (h 0)) (λ i. h (suc i))

-- ---- m + larger(|m|, 1) × 1e6 + 1e9
absolute_size : (m : Float) (s : Bool) (k : ℕ) → HasValue m s k 1 → HasValue (absolute_of m) false k 1
absolute_size nan s k h = absurd h
absolute_size (inf t) s k h = absurd h
absolute_size (fin t m e) s k h = (refl, h.1)

natural_value : (x : Float) (k : ℕ) → HasValue x false k 1 → WholeValue x (natural k)
natural_value x k h = record { minus = false; mag = k; val = h; is = omega arith }

abbrev 1_f : Float
1_f = of_bits binary64 0x3ff0_0000_0000_0000

at_least_one : (x : Float) (k : ℕ) → HasValue x false k 1 → (l : ℕ) × HasValue (larger_of x 1_f) false l 1 × (1 ≤ l) × (k ≤ l) × (l ≤ k + 1)
unfolding of_bits
at_least_one x k h = go (lt x 1_f) refl
  where
    order : lt x 1_f ≡ ltb (k + 0) (1 + 0)
    order = lt_whole x 1_f (natural k) (natural 1) (natural_value x k h) (natural_value 1_f 1 (refl, refl))

    go : (b : Bool) → lt x 1_f ≡ b → (l : ℕ) × HasValue (cond b 1_f x) false l 1 × (1 ≤ l) × (k ≤ l) × (l ≤ k + 1)
    go true e = let o = ltb-true (k + 0) (1 + 0) (sym order ∙ e) in (1, (refl, refl), omega arith, omega arith, omega arith)
    go false e = let o = ltb-false (k + 0) (1 + 0) (sym order ∙ e) in (k, h, omega arith, omega arith, omega arith)

size_of : (s : Bool) (k : ℕ) (d : Integer) → Signed s k d → Within 1_000_000 d → k ≤ 1_000_000
size_of true k d h w = omega arith
size_of false k d h w = omega arith

low_of : (s : Bool) (k : ℕ) (d : Integer) → Signed s k d → (d.dn ≤ d.up + k) × (d.up ≤ d.dn + k)
low_of true k d h = (omega arith, omega arith)
low_of false k d h = (omega arith, omega arith)

pub sentinel_whole : (m : Float) → Ranged m → (f : Integer) × WholeValue (sentinel_of m) f × (natural 1_000_000_000 ≤Z f) × Within (2 ^ 48) f
unfolding sentinel_of of_bits
sentinel_whole m (d, v, w) =
    let k = v.mag in
    let kb = size_of v.minus k d v.is w in
    let lb = low_of v.minus k d v.is in
    let g = at_least_one (absolute_of m) k (absolute_size m v.minus k v.val) in
    let l = g.0 in
    let p : l ≤ 1_000_001 = omega (arith, g.4) in
    let q : k ≤ l * 1_000_000 = omega (arith, g.3) in
    let x = mul_size (larger_of (absolute_of m) 1_f) (of_bits binary64 0x412e_8480_0000_0000) false false l 1_000_000 g.1 (refl, refl) (omega arith) in
    let y = add_whole m (mul binary64 (larger_of (absolute_of m) 1_f) (of_bits binary64 0x412e_8480_0000_0000)) d (natural (l * 1_000_000)) v (natural_value _ (l * 1_000_000) x) (omega arith, omega arith) in
    let z = add_whole _ (of_bits binary64 0x41cd_cd65_0000_0000) (d +Z natural (l * 1_000_000)) (natural 1_000_000_000) y (natural_value (of_bits binary64 0x41cd_cd65_0000_0000) 1_000_000_000 (refl, refl)) (omega arith, omega arith) in
    (d +Z natural (l * 1_000_000) +Z natural 1_000_000_000, z, omega (arith, lb.0), (omega arith, omega arith))
