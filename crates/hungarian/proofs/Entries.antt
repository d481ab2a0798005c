-- The laws of `out` at binary64, and the entries of the square, stretch by stretch.
use mathlib.Core.Path.{◌≡◌, refl}
use mathlib.Core.Bool.{true, false, cond}
use Prim.Native.Nat.{ℕ, suc, ◌+◌, ◌-◌, ◌*◌, ◌≤◌, ◌<◌}
use native.Mathlib.Omega.{arith}
use native.Mathlib.Nat.{mul-le-mul_right, suc-mul}
use borrow.Author.Tests.{le-leb, lt-leb, eq-eqb, ne_eqb}
use lib.ListN.{get_or}
use lib.Ieee.{Float, nan, inf, fin, lt, add, sub}
use Rattle.kuhn_munkres.specs.Ops.{Ops}
use Rattle.kuhn_munkres.specs.Binary64.{float}
use Rattle.hungarian.proofs.Mask.{Outside}
use Rattle.kuhn_munkres.specs.Square.{Square, entry}

lt_nan : (x : Float) → lt x nan ≡ false
unfolding lt
lt_nan nan = refl
lt_nan (inf true) = refl
lt_nan (inf false) = refl
lt_nan (fin s m e) = refl

pub outside : Outside float
unfolding lt sub add
outside = record { not_below = lt_nan; not_above = λ x. refl; stays = λ x. refl }

module _ {N : Type 0} (O : Ops N) (q : Square N) (i k : ℕ) where
  pub at_table : i ≤ q.rows → k < q.cols → entry O q i (k + 1) ≡ (let c = get_or q.costs ((i - 1) * q.cols + k) O.out in cond (O.finite c) c q.far)
  unfolding entry
  at_table h l = let e : k + 1 - 1 ≡ k = omega arith in simp (le-leb i q.rows h, le-leb (k + 1) q.cols (omega arith), e)

  pub at_own : i ≤ q.rows → q.cols < k + 1 → k + 1 ≡ q.cols + i → entry O q i (k + 1) ≡ q.row
  unfolding entry
  at_own h l e = simp (le-leb i q.rows h, lt-leb (k + 1) q.cols l, eq-eqb (k + 1) (q.cols + i) e)

  pub at_far : i ≤ q.rows → q.cols < k + 1 → (k + 1 ≡ q.cols + i → ⊥) → entry O q i (k + 1) ≡ q.far
  unfolding entry
  at_far h l e = simp (le-leb i q.rows h, lt-leb (k + 1) q.cols l, ne_eqb (k + 1) (q.cols + i) e)

  pub at_col : q.rows < i → k < q.cols → i ≡ q.rows + (k + 1) → entry O q i (k + 1) ≡ q.col
  unfolding entry
  at_col h l e = simp (lt-leb i q.rows h, le-leb (k + 1) q.cols (omega arith), eq-eqb i (q.rows + (k + 1)) e)

  pub at_off : q.rows < i → k < q.cols → (i ≡ q.rows + (k + 1) → ⊥) → entry O q i (k + 1) ≡ q.far
  unfolding entry
  at_off h l e = simp (lt-leb i q.rows h, le-leb (k + 1) q.cols (omega arith), ne_eqb i (q.rows + (k + 1)) e)

  pub at_zero : q.rows < i → q.cols < k + 1 → entry O q i (k + 1) ≡ O.zer
  unfolding entry
  at_zero h l = simp (lt-leb i q.rows h, lt-leb (k + 1) q.cols l)

pub row_fits : (i r k : ℕ) → 0 < i → i ≤ r → (i - 1) * k + k ≤ r * k
row_fits i r k i1 ir =
    let m = i - 1 in
    let h : suc m ≤ r = omega arith in
    omega (arith, mul-le-mul_right k h, suc-mul m k)

pub few : (r k : ℕ) → r ≤ 64 → k ≤ 64 → r * k ≤ 4096
few r k hr hk = omega (arith, mul-le-mul_right k hr)
