-- I − K H for an H that selects items, and a finite K: outside the columns that H selects it is I, and a zero of K H has no say. Assumes nothing.
use mathlib.Core.Path.{◌≡◌, refl, sym, ap, ap₂, ◌∙◌, subst}
use mathlib.Core.Logic.{inl, inr}
use mathlib.Core.Bool.{Bool, true, false, cond}
use Prim.Native.Nat.{ℕ, zero, suc, ◌+◌, ◌-◌, ◌≤◌, ◌<◌}
use native.Mathlib.Omega.{arith}
use lib.Dec.{T, ltb, eqb}
use lib.Ieee.{Float, nan, binary64, sub, mul, fits, of_bits}
use lib.Ieee.Scale.{finite}
use borrow.Author.Tests.{clash, eq-eqb, ne_eqb, eqb-true, eqb-false, ltb-true, ltb-false}
use Rattle.number.proofs.Held.{zero_of, mul_turned}
use Rattle.matrix.specs.Matrix.{Vector, item, entry, tabulate, nought, one, sum_to, sum_of, row_times, minus_vector}
use Rattle.models.specs.Models.{selection}
use Rattle.selected.specs.Units.{unit_at, less_from, rest_row}
use Rattle.selected.proofs.Picks.{Held, IsZero, Near, all_zeros}
use Rattle.selected.proofs.Selected.{nought_times, selected_near, turned}
use Rattle.matrix.proofs.Terms.{terms_finite}
use Rattle.matrix.proofs.Tabulated.{get_d_tabulate, tabulate_same, sum_same}
use Rattle.selected.proofs.Reading.{selection_entry}

-- ---- 1 or +0 less a zero

less_zero : (b s : Bool) → sub binary64 (cond b one nought) (zero_of s) ≡ cond b one nought
unfolding sub of_bits
less_zero true true = refl
less_zero true false = refl
less_zero false true = refl
less_zero false false = refl

less_zero_of : (b : Bool) (v : Float) → IsZero v → sub binary64 (cond b one nought) v ≡ cond b one nought
less_zero_of b v z = ap (sub binary64 (cond b one nought)) z.1 ∙ less_zero b z.0

less_near : (b : Bool) (g v : Float) → Near g v → sub binary64 (cond b one nought) v ≡ sub binary64 (cond b one nought) g
less_near b g v (inl e) = ap (sub binary64 (cond b one nought)) e
less_near b g v (inr z) = less_zero_of b v z.1 ∙ sym (less_zero_of b g z.0)

-- ---- a row of K times H

module _ (c n first : ℕ) (x : Vector) (held : (m : ℕ) → m ≤ c → Held (item x m)) where
  abbrev pub term : ℕ → ℕ → Float
  term j m = mul binary64 (item x m) (unit_at (m + first) j)

  abbrev pub rest : ℕ → ℕ → Float
  rest i j = cond (ltb j first) (unit_at j i) (cond (ltb j (suc c + first)) (sub binary64 (unit_at j i) (item x (j - first))) (unit_at j i))

  outside : (j : ℕ) → ((m : ℕ) → m ≤ c → j ≡ m + first → ⊥) → IsZero (sum_to c (term j))
  outside j d = all_zeros c (term j) (λ m b. subst IsZero (sym (ap (λ (t : Bool). mul binary64 (item x m) (cond t one nought)) (ne_eqb j (m + first) (d m b)) ∙ mul_turned binary64 (item x m) nought)) (nought_times (item x m) (held m b)))

  same_test : (a m : ℕ) → eqb (a + first) (m + first) ≡ eqb m a
  same_test a m = go (eqb m a) refl
    where
      go : (t : Bool) → eqb m a ≡ t → eqb (a + first) (m + first) ≡ t
      go true e = eq-eqb (a + first) (m + first) (ap (λ (k : ℕ). k + first) (sym (eqb-true m a e)))
      go false e = ne_eqb (a + first) (m + first) (λ q. eqb-false m a e (omega (arith, q)))

  inside : (a : ℕ) → a ≤ c → Near (item x a) (sum_to c (term (a + first)))
  inside a b =
      subst (λ (v : Float). Near (item x a) v)
      (sym (sum_same c (term (a + first)) (λ m. mul binary64 (item x m) (unit_at a m)) (λ m q. ap (λ (t : Bool). mul binary64 (item x m) (cond t one nought)) (same_test a m)) ∙ turned c a (λ m. item x m)))
      (selected_near c a (λ m. item x m) held b)

  rest_entry : (i j : ℕ) → sub binary64 (unit_at j i) (sum_to c (term j)) ≡ rest i j
  rest_entry i j = low (ltb j first) refl
    where
      high : (t : Bool) → ltb j (suc c + first) ≡ t → first ≤ j → sub binary64 (unit_at j i) (sum_to c (term j)) ≡ cond t (sub binary64 (unit_at j i) (item x (j - first))) (unit_at j i)
      high false e h = less_zero_of (eqb i j) (sum_to c (term j)) (outside j (λ m b q. omega (arith, b, q, ltb-false j (suc c + first) e)))
      high true e h =
          let q : j - first + first ≡ j = omega (arith, h) in
          less_near (eqb i j) (item x (j - first)) (sum_to c (term j))
          (subst (λ (k : ℕ). Near (item x (j - first)) (sum_to c (term k))) q (inside (j - first) (omega (arith, h, ltb-true j (suc c + first) e))))

      low : (t : Bool) → ltb j first ≡ t → sub binary64 (unit_at j i) (sum_to c (term j)) ≡ cond t (unit_at j i) (cond (ltb j (suc c + first)) (sub binary64 (unit_at j i) (item x (j - first))) (unit_at j i))
      low true e = less_zero_of (eqb i j) (sum_to c (term j)) (outside j (λ m b q. omega (arith, q, ltb-true j first e)))
      low false e = high (ltb j (suc c + first)) refl (ltb-false j first e)

  pub rest_read : (i : ℕ) → less_from n i (row_times (suc c) n x (selection (suc c) n first)) ≡ rest_row n (suc c) first x i
  unfolding less_from minus_vector row_times rest_row
  rest_read i =
      let h = selection (suc c) n first in
      tabulate_same n (λ j. sub binary64 (item (tabulate n (λ j. unit_at j i)) j) (item (tabulate n (λ j. sum_to c (λ m. mul binary64 (item x m) (entry h m j)))) j)) (λ j. rest i j)
      (λ j hj. ap₂ (sub binary64) (get_d_tabulate nan n j (λ j. unit_at j i) hj)
      (get_d_tabulate nan n j (λ j. sum_to c (λ m. mul binary64 (item x m) (entry h m j))) hj
      ∙ sum_same c (λ m. mul binary64 (item x m) (entry h m j)) (term j) (λ m b. ap (mul binary64 (item x m)) (selection_entry (suc c) n first m j (omega (arith, b)) hj)))
      ∙ rest_entry i j)

-- no item selected: nothing but +0 is taken away
none_read : (n first : ℕ) (x : Vector) (i : ℕ) → less_from n i (row_times 0 n x (selection 0 n first)) ≡ rest_row n 0 first x i
unfolding less_from minus_vector row_times rest_row of_bits
none_read n first x i =
    tabulate_same n (λ j. sub binary64 (item (tabulate n (λ j. unit_at j i)) j) (item (tabulate n (λ j. nought)) j)) (λ j. cond (ltb j first) (unit_at j i) (cond (ltb j (0 + first)) (sub binary64 (unit_at j i) (item x (j - first))) (unit_at j i)))
    (λ j hj. ap₂ (sub binary64) (get_d_tabulate nan n j (λ j. unit_at j i) hj) (get_d_tabulate nan n j (λ j. nought) hj)
    ∙ less_zero_of (eqb i j) nought (false, refl)
    ∙ sym (either (ltb j first) (ltb j (0 + first)) (unit_at j i) (sub binary64 (unit_at j i) (item x (j - first))) (ap (ltb j) (omega arith))))
  where
    either : (t s : Bool) (u w : Float) → t ≡ s → cond t u (cond s w u) ≡ u
    either true s u w e = refl
    either false true u w e = absurd (clash e)
    either false false u w e = refl

-- a row of K whose sum is finite
pub finite_read : (k n first : ℕ) (x : Vector) (i : ℕ) → ((m : ℕ) → m < k → T (fits binary64 (item x m))) → finite (sum_of k (λ m. item x m)) ≡ true → rest_row n k first x i ≡ less_from n i (row_times k n x (selection k n first))
finite_read zero n first x i fit t = sym (none_read n first x i)
finite_read (suc c) n first x i fit t = sym (rest_read c n first x (λ m h. (fit m (omega (arith, h)), terms_finite c (item x) t m h)) i)
