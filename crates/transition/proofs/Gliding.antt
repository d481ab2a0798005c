-- The products with the transition F, for a time that goes on and a covariance P with finite entries and a diagonal above 0: each full sum is the sum of its one or two terms that need not be zeros, + 0. Assumes nothing.
use mathlib.Core.Path.{◌≡◌, refl, sym, ap, ap₂, ◌∙◌, subst}
use mathlib.Core.Bool.{Bool, true, false, ◌&&◌, cond}
use mathlib.Core.List.{[]}
use Prim.Native.Nat.{ℕ, suc, ◌+◌, ◌≤◌, ◌<◌}
use native.Mathlib.Omega.{arith}
use borrow.Author.Tests.{eq-eqb, ne_eqb, eqb-true, eqb-false, ltb-true, ltb-false}
use lib.Dec.{eqb, ltb}
use lib.Ieee.{Float, nan, binary64, add, mul, lt}
use lib.Ieee.Fits.{add-fits, mul-fits}
use lib.Ieee.Scale.{finite}
use Rattle.number.proofs.Zeros.{both}
use Rattle.number.proofs.Held.{one_times, mul_turned}
use Rattle.number.proofs.Minus.{is_minus_zero}
use Rattle.number.proofs.Finite.{add_finite}
use Rattle.matrix.specs.Matrix.{Matrix, item, row, entry, tabulate, nought, one, sum_to, row_times, product, transposed, congruence}
use Rattle.matrix.proofs.Tabulated.{get_d_tabulate, tabulate_same, sum_same}
use Rattle.matrix.proofs.Entries.{transposed_entry}
use Rattle.models.specs.Models.{transition}
use Rattle.selected.specs.Units.{unit_at, is_above, is_plain}
use Rattle.selected.proofs.Picks.{Fits, Held, IsZero, picked_two}
use Rattle.selected.proofs.Selected.{nought_times, plus_times, plus_itself, above_times, selected_plus}
use Rattle.selected.proofs.Plain.{above_at, plain_finite, plain_above}
use Rattle.transition.specs.Glide.{glided_item, glided_rows, glided_row, glided_columns, can_glide}

-- ---- the entries of F

abbrev f_entry : ℕ → Float → ℕ → ℕ → Float
f_entry axes dt i j = cond (eqb i j) one (cond (eqb j (i + axes)) dt nought)

transition_entry : (axes : ℕ) (dt : Float) (i j : ℕ) → i < axes + axes → j < axes + axes → entry (transition axes dt) i j ≡ f_entry axes dt i j
unfolding transition
transition_entry axes dt i j hi hj =
    ap (λ r. item r j) (get_d_tabulate [] (axes + axes) i (λ i. tabulate (axes + axes) (λ j. f_entry axes dt i j)) hi)
    ∙ get_d_tabulate nan (axes + axes) j (λ j. f_entry axes dt i j) hj

-- ---- a row of F times the numbers g, one of which is above 0

module _ (axes l : ℕ) (size : axes + axes ≡ suc l) (dt : Float) (ahead : lt nought dt ≡ true) (g : ℕ → Float) (held : (k : ℕ) → k ≤ l → Held (g k)) (w : ℕ) (within : w ≤ l) (above : lt nought (g w) ≡ true) where
  abbrev term : ℕ → ℕ → Float
  term i k = mul binary64 (f_entry axes dt i k) (g k)

  term_own : (i k : ℕ) → i ≡ k → k ≤ l → term i k ≡ g k
  term_own i k e h = ap (λ (b : Bool). mul binary64 (cond b one (cond (eqb k (i + axes)) dt nought)) (g k)) (eq-eqb i k e) ∙ one_times (g k) (held k h).0

  term_off : (i k : ℕ) → (i ≡ k → ⊥) → term i k ≡ mul binary64 (cond (eqb k (i + axes)) dt nought) (g k)
  term_off i k d = ap (λ (b : Bool). mul binary64 (cond b one (cond (eqb k (i + axes)) dt nought)) (g k)) (ne_eqb i k d)

  term_far : (i k : ℕ) → (i ≡ k → ⊥) → k ≡ i + axes → term i k ≡ mul binary64 dt (g k)
  term_far i k d e = term_off i k d ∙ ap (λ (b : Bool). mul binary64 (cond b dt nought) (g k)) (eq-eqb k (i + axes) e)

  term_zero : (i k : ℕ) → (i ≡ k → ⊥) → (k ≡ i + axes → ⊥) → term i k ≡ mul binary64 nought (g k)
  term_zero i k d e = term_off i k d ∙ ap (λ (b : Bool). mul binary64 (cond b dt nought) (g k)) (ne_eqb k (i + axes) e)

  term_plus : (i : ℕ) → is_minus_zero (term i w) ≡ false
  term_plus i = own (eqb i w) refl
    where
      far : (x : Bool) → eqb w (i + axes) ≡ x → (i ≡ w → ⊥) → is_minus_zero (term i w) ≡ false
      far true e d = ap is_minus_zero (term_far i w d (eqb-true w (i + axes) e)) ∙ above_times dt (g w) ahead above
      far false e d = ap is_minus_zero (term_zero i w d (eqb-false w (i + axes) e)) ∙ plus_times (g w) (held w within) above

      own : (x : Bool) → eqb i w ≡ x → is_minus_zero (term i w) ≡ false
      own true e = ap is_minus_zero (term_own i w (eqb-true i w e) within) ∙ plus_itself (g w) (held w within) above
      own false e = far (eqb w (i + axes)) refl (eqb-false i w e)

  position : (i : ℕ) → i < axes → sum_to l (term i) ≡ add binary64 (add binary64 (g i) (mul binary64 dt (g (i + axes)))) nought
  position i h =
      let b : i + axes ≤ l = omega (arith, h, size) in
      let o : i < i + axes = omega (arith, h) in
      picked_two l (term i) (λ k q. mul-fits binary64 (f_entry axes dt i k) (g k)) w (term_plus i) within i (i + axes) o b
      (λ k q d e. subst IsZero (sym (term_zero i k (λ x. d (sym x)) e)) (nought_times (g k) (held k q)))
      ∙ ap₂ (λ (x y : Float). add binary64 (add binary64 x y) nought) (term_own i i refl (omega (arith, o, b))) (term_far i (i + axes) (λ e. omega (arith, e, o)) refl)

  velocity : (i : ℕ) → axes ≤ i → i ≤ l → sum_to l (term i) ≡ add binary64 (g i) nought
  velocity i h b = sum_same l (term i) (λ k. mul binary64 (unit_at i k) (g k)) (λ k q. ap (λ (x : Float). mul binary64 x (g k)) (at k q (eqb k i) refl)) ∙ selected_plus l i g held b w within above
    where
      at : (k : ℕ) → k ≤ l → (x : Bool) → eqb k i ≡ x → f_entry axes dt i k ≡ cond x one nought
      at k q true e = ap (λ (b : Bool). cond b one (cond (eqb k (i + axes)) dt nought)) (eq-eqb i k (sym (eqb-true k i e)))
      at k q false e = ap₂ (λ (b c : Bool). cond b one (cond c dt nought)) (ne_eqb i k (λ p. eqb-false k i e (sym p))) (ne_eqb k (i + axes) (λ p. omega (arith, p, q, h, size)))

  glided : (i : ℕ) → i ≤ l → sum_to l (term i) ≡ glided_item axes dt g i
  glided i h = go (ltb i axes) refl
    where
      go : (x : Bool) → ltb i axes ≡ x → sum_to l (term i) ≡ cond x (add binary64 (add binary64 (g i) (mul binary64 dt (g (i + axes)))) nought) (add binary64 (g i) nought)
      go true e = position i (ltb-true i axes e)
      go false e = velocity i (ltb-false i axes e) h

-- ---- what is read off is finite only where what it is read off is

item_finite : (axes : ℕ) (dt : Float) (g : ℕ → Float) (i : ℕ) → finite (glided_item axes dt g i) ≡ true → finite (g i) ≡ true
item_finite axes dt g i = go (ltb i axes)
  where
    go : (x : Bool) → finite (cond x (add binary64 (add binary64 (g i) (mul binary64 dt (g (i + axes)))) nought) (add binary64 (g i) nought)) ≡ true → finite (g i) ≡ true
    go true t = let s = (add_finite (add binary64 (g i) (mul binary64 dt (g (i + axes)))) nought t).0 in (add_finite (g i) (mul binary64 dt (g (i + axes))) s).0
    go false t = (add_finite (g i) nought t).0

item_fits : (axes : ℕ) (dt : Float) (g : ℕ → Float) (i : ℕ) → Fits (glided_item axes dt g i)
item_fits axes dt g i = go (ltb i axes)
  where
    go : (x : Bool) → Fits (cond x (add binary64 (add binary64 (g i) (mul binary64 dt (g (i + axes)))) nought) (add binary64 (g i) nought))
    go true = add-fits binary64 (add binary64 (g i) (mul binary64 dt (g (i + axes)))) nought
    go false = add-fits binary64 (g i) nought

-- ---- (F P) Fᵀ

module _ (axes l : ℕ) (size : axes + axes ≡ suc l) (dt : Float) (p : Matrix) (fit : (i j : ℕ) → i < suc l → j < suc l → Fits (entry p i j)) (can : can_glide (suc l) dt p (glided_rows (suc l) axes dt p) ≡ true) where
  abbrev n : ℕ
  n = suc l

  abbrev f : Matrix
  f = transition axes dt

  abbrev m : Matrix
  m = glided_rows n axes dt p

  first : (lt nought dt && is_above n p) ≡ true
  first = (both (lt nought dt && is_above n p) (is_plain n m) can).0

  plain : is_plain n m ≡ true
  plain = (both (lt nought dt && is_above n p) (is_plain n m) can).1

  ahead : lt nought dt ≡ true
  ahead = (both (lt nought dt) (is_above n p) first).0

  m_entry : (i j : ℕ) → i ≤ l → j ≤ l → entry m i j ≡ glided_item axes dt (λ k. entry p k j) i
  unfolding glided_rows
  m_entry i j hi hj =
      ap (λ r. item r j) (get_d_tabulate [] n i (λ i. tabulate n (λ j. glided_item axes dt (λ k. entry p k j) i)) (omega (arith, hi)))
      ∙ get_d_tabulate nan n j (λ j. glided_item axes dt (λ k. entry p k j) i) (omega (arith, hj))

  p_held : (i j : ℕ) → i ≤ l → j ≤ l → Held (entry p i j)
  p_held i j hi hj = (
    fit i j (omega (arith, hi)) (omega (arith, hj)),
    item_finite axes dt (λ k. entry p k j) i (ap finite (sym (m_entry i j hi hj)) ∙ plain_finite l m plain i j hi hj),
  )

  m_held : (i j : ℕ) → i ≤ l → j ≤ l → Held (entry m i j)
  m_held i j hi hj = (subst Fits (sym (m_entry i j hi hj)) (item_fits axes dt (λ k. entry p k j) i), plain_finite l m plain i j hi hj)

  f_entry_lem : (i j : ℕ) → i ≤ l → j ≤ l → entry f i j ≡ f_entry axes dt i j
  f_entry_lem i j hi hj = transition_entry axes dt i j (omega (arith, hi, size)) (omega (arith, hj, size))

  rows_read : product n n n f p ≡ m
  unfolding product row_times glided_rows
  rows_read =
      tabulate_same n (λ i. row_times n n (row f i) p) (λ i. tabulate n (λ j. glided_item axes dt (λ k. entry p k j) i))
      (λ i hi. tabulate_same n (λ j. sum_to l (λ k. mul binary64 (entry f i k) (entry p k j))) (λ j. glided_item axes dt (λ k. entry p k j) i)
      (λ j hj. let h : i ≤ l = omega (arith, hi) in let b : j ≤ l = omega (arith, hj) in
      sum_same l (λ k. mul binary64 (entry f i k) (entry p k j)) (λ k. mul binary64 (f_entry axes dt i k) (entry p k j)) (λ k q. ap (λ (x : Float). mul binary64 x (entry p k j)) (f_entry_lem i k h q))
      ∙ glided axes l size dt ahead (λ k. entry p k j) (λ k q. p_held k j q b) j b (above_at l p (both (lt nought dt) (is_above n p) first).1 j b) i h))

  columns_read : product n n n m (transposed n n f) ≡ glided_columns n axes dt m
  unfolding product row_times glided_columns glided_row
  columns_read =
      tabulate_same n (λ i. row_times n n (row m i) (transposed n n f)) (λ i. glided_row n axes dt (row m i))
      (λ i hi. tabulate_same n (λ j. sum_to l (λ k. mul binary64 (entry m i k) (entry (transposed n n f) k j))) (λ j. glided_item axes dt (λ k. entry m i k) j)
      (λ j hj. let h : i ≤ l = omega (arith, hi) in let b : j ≤ l = omega (arith, hj) in
      sum_same l (λ k. mul binary64 (entry m i k) (entry (transposed n n f) k j)) (λ k. mul binary64 (f_entry axes dt j k) (entry m i k))
      (λ k q. ap (mul binary64 (entry m i k)) (transposed_entry n n f k j (omega (arith, q)) hj ∙ f_entry_lem j k b q) ∙ mul_turned binary64 (entry m i k) (f_entry axes dt j k))
      ∙ glided axes l size dt ahead (λ k. entry m i k) (λ k q. m_held i k h q) i h (plain_above l m plain i h) j b))

  pub glided_read : congruence n n f p ≡ glided_columns n axes dt m
  unfolding congruence
  glided_read = ap (λ x. product n n n x (transposed n n f)) rows_read ∙ columns_read
