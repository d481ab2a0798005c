-- The padded square of a table in integers: a least assignment of the square is a least pairing of the table. Each row below r is met once by an assignment,
-- so the row cost of every row can be taken off the entries: what is left of an entry is then the weight of its column.
use Rattle.std.specs.Prelude.{None, Option, Some}
use mathlib.Core.Path.{◌≡◌, refl, sym, ap, ◌∙◌, subst}
use mathlib.Core.Logic.{◌⊎◌, inl, inr}
use mathlib.Core.Bool.{Bool, true, false, cond}
use Prim.Native.Nat.{ℕ, zero, suc, ◌+◌, ◌-◌, ◌*◌, ◌≤◌, ◌<◌}
use native.Mathlib.Decide.{ℕ_discrete, dec_lt}
use native.Mathlib.Omega.{arith}
use borrow.Author.Tests.{eq-eqb, ne_eqb, lt-ltb, le-ltb}
use lib.Dec.{eqb, ltb}
use Rattle.whole.specs.Integer.{Integer, 0_z, natural, ◌+Z◌, ◌≤Z◌, ◌≈◌, Within, sum, times}
use Rattle.whole.specs.Takers.{weight_of, weight, Takes, LeastTakes}
use Rattle.whole.specs.OneOne.{Inj}
use Rattle.whole.proofs.OneOne.{Hit, hit?, sum_same, sum_add, sum_front, sum_perm}
use Rattle.kuhn_munkres.specs.Assignment.{taker_of}
use Rattle.kuhn_munkres.proofs.Labels.{none_some, some_same}
use Rattle.kuhn_munkres.proofs.Columns.{taker_is}

-- ---- sums of terms in range
module _ (f : ℕ → Integer) where
  sum_low : (n : ℕ) → ((j : ℕ) → j < n → (f j).dn ≤ (f j).up + 1_000_000) → (sum f n).dn ≤ (sum f n).up + n * 1_000_000
  unfolding sum
  sum_low zero h = omega arith
  sum_low (suc n) h = let s = sum_low n (λ j l. h j (omega arith)) in omega (arith, h n (omega arith))

  sum_high : (n : ℕ) → ((j : ℕ) → j < n → (f j).up ≤ (f j).dn + 1_000_000) → (sum f n).up ≤ (sum f n).dn + n * 1_000_000
  unfolding sum
  sum_high zero h = omega arith
  sum_high (suc n) h = let s = sum_high n (λ j l. h j (omega arith)) in omega (arith, h n (omega arith))

  -- one large term makes a large sum
  sum_far : (n k : ℕ) → k < n → ((j : ℕ) → j < n → (f j).dn ≤ (f j).up + 1_000_000) → natural 1_000_000_000 ≤Z f k → 1_000_000_000 + (sum f n).dn ≤ (sum f n).up + n * 1_000_000
  unfolding sum
  sum_far zero k l h far = absurd (omega arith)
  sum_far (suc n) k l h far = go (ℕ_discrete k n) (λ m. sum_far n k m (λ j q. h j (omega arith)) far)
    where
      go : Dec (k ≡ n) → (k < n → 1_000_000_000 + (sum f n).dn ≤ (sum f n).up + n * 1_000_000) → 1_000_000_000 + (sum f (suc n)).dn ≤ (sum f (suc n)).up + suc n * 1_000_000
      go (yes e) ih = let s = sum_low n (λ j q. h j (omega arith)) in let d : natural 1_000_000_000 ≤Z f n = rw e at far in unfold sum in omega arith
      go (no d) ih = let s = ih (omega arith) in let b = h n (omega arith) in unfold sum in omega arith

-- a taker as a number, so that a row's column can be looked for
place : Option ℕ → ℕ
place None = 0
place (Some i) = suc i

place_is : (o : Option ℕ) (i : ℕ) → place o ≡ suc i → o ≡ Some i
unfolding place
place_is None i e = absurd (omega arith)
place_is (Some x) i e = let z : x ≡ i = omega arith in ap Some z

-- the row of the table that column j takes under p, if it takes one
abbrev pub taker : ℕ → (ℕ → ℕ) → ℕ → Option ℕ
taker r p j = taker_of r (suc (p j))

module _ (r c : ℕ) (allowed : ℕ → ℕ → Bool) (cost : ℕ → ℕ → Integer) (row column far : Integer) where
  -- the entry of row i and column j of the square, both counted from 0
  abbrev pub padded : ℕ → ℕ → Integer
  padded i j =
      cond (ltb i r)
      (cond (ltb j c) (cond (allowed i j) (cost i j) far) (cond (eqb j (c + i)) row far))
      (cond (ltb j c) (cond (eqb i (r + j)) column far) 0_z)

  -- an entry that is not the sentinel: an allowed pair, a row or a column with its own dummy, or two dummies
  data Plain (i j : ℕ) : Type 0 where
    pair : i < r → j < c → allowed i j ≡ true → Plain i j
    alone_row : i < r → j ≡ c + i → Plain i j
    alone_column : j < c → i ≡ r + j → Plain i j
    dummies : r ≤ i → c ≤ j → Plain i j

  plain? : (i j : ℕ) → Plain i j ⊎ (padded i j ≡ far)
  plain? i j = go (dec_lt i r) (dec_lt j c)
    where
      real : (b : Bool) → allowed i j ≡ b → i < r → j < c → Plain i j ⊎ (padded i j ≡ far)
      real true e h l = inl (pair h l e)
      real false e h l = inr (rw (lt-ltb i r h, lt-ltb j c l, e))

      right : Dec (j ≡ c + i) → i < r → c ≤ j → Plain i j ⊎ (padded i j ≡ far)
      right (yes e) h l = inl (alone_row h e)
      right (no e) h l = inr (rw (lt-ltb i r h, le-ltb j c l, ne_eqb j (c + i) e))

      below : Dec (i ≡ r + j) → r ≤ i → j < c → Plain i j ⊎ (padded i j ≡ far)
      below (yes e) h l = inl (alone_column l e)
      below (no e) h l = inr (rw (le-ltb i r h, lt-ltb j c l, ne_eqb i (r + j) e))

      go : Dec (i < r) → Dec (j < c) → Plain i j ⊎ (padded i j ≡ far)
      go (yes h) (yes l) = real (allowed i j) refl h l
      go (yes h) (no l) = right (ℕ_discrete j (c + i)) h (omega arith)
      go (no h) (yes l) = below (ℕ_discrete i (r + j)) (omega arith) l
      go (no h) (no l) = inl (dummies (omega arith) (omega arith))

  plain_may : {i j : ℕ} → Plain i j → i < r → j < c → allowed i j ≡ true
  plain_may (pair h l e) a b = e
  plain_may (alone_row h e) a b = absurd (omega arith)
  plain_may (alone_column l e) a b = absurd (omega arith)
  plain_may (dummies h l) a b = absurd (omega arith)

  -- ---- an entry is the row cost of its row and the weight of its column
  abbrev saved : ℕ → Integer
  saved i = cond (ltb i r) row 0_z

  abbrev weighs : ℕ → ℕ → Integer
  weighs i j = cond (ltb j c) (weight_of cost row column j (taker_of r (suc i))) 0_z

  plain_is : {i j : ℕ} → Plain i j → padded i j ≈ weighs i j +Z saved i
  unfolding taker_of
  plain_is {i} {j} (pair h l e) = rw (lt-ltb i r h, lt-ltb j c l, e) (omega arith)
  plain_is {i} {j} (alone_row h e) = rw (lt-ltb i r h, le-ltb j c (omega arith), eq-eqb j (c + i) e) (omega arith)
  plain_is {i} {j} (alone_column l e) = rw (le-ltb i r (omega arith), lt-ltb j c l, eq-eqb i (r + j) e) (omega arith)
  plain_is {i} {j} (dummies h l) = rw (le-ltb i r h, le-ltb j c l) (omega arith)

  plain_sum : (p : ℕ → ℕ) → Inj (r + c) p → ((j : ℕ) → j < r + c → Plain (p j) j) → sum (λ j. padded (p j) j) (r + c) ≈ weight cost row column (taker r p) c +Z times r row
  plain_sum p I plain =
      let a = sum_same (λ j. padded (p j) j) (λ j. weighs (p j) j +Z saved (p j)) (r + c) (λ j l. plain_is (plain j l)) in
      let b = sum_add (λ j. weighs (p j) j) (λ j. saved (p j)) (r + c) in
      let d = sum_perm saved (r + c) p I in
      let s = sum_front saved (λ i. row) r (r + c) (omega arith) (λ i h. rw (lt-ltb i r h) (omega arith)) (λ i h. rw (le-ltb i r h) (omega arith)) in
      let w = sum_front (λ j. weighs (p j) j) (λ j. weight_of cost row column j (taker r p j)) c (r + c) (omega arith) (λ j h. rw (lt-ltb j c h) (omega arith)) (λ j h. rw (le-ltb j c h) (omega arith)) in
      unfold times in omega arith

  -- ---- a pairing as an assignment of the square
  module _ (t : ℕ → Option ℕ) where
    -- x is the row of column k: a column is with its row, or with its own dummy; the dummy column of a row is with that row, or with the dummy of its column
    data At (k x : ℕ) : Type 0 where
      with_row : k < c → t k ≡ Some x → At k x
      left_column : k < c → t k ≡ None → x ≡ r + k → At k x
      spare : (i j : ℕ) → k ≡ c + i → j < c → t j ≡ Some i → x ≡ r + j → At k x
      left_row : k ≡ c + x → ((j : ℕ) → j < c → t j ≡ Some x → ⊥) → At k x

    placed : (k : ℕ) → (x : ℕ) × At k x
    placed k = go (dec_lt k c) (t k) refl
      where
        dummy : c ≤ k → Hit (λ j. place (t j)) c (suc (k - c)) ⊎ ((j : ℕ) → j < c → place (t j) ≡ suc (k - c) → ⊥) → (x : ℕ) × At k x
        dummy h (inl f) = (r + f.0, spare (k - c) f.0 (omega arith) f.1 (place_is (t f.0) (k - c) f.2) refl)
        dummy h (inr f) = (k - c, left_row (omega arith) (λ j l e. f j l (ap place e ∙ (unfold place in refl))))

        go : Dec (k < c) → (o : Option ℕ) → t k ≡ o → (x : ℕ) × At k x
        go (yes h) None e = (r + k, left_column h e refl)
        go (yes h) (Some i) e = (i, with_row h e)
        go (no h) o e = dummy (omega arith) (hit? (λ j. place (t j)) c (suc (k - c)))

    pad : ℕ → ℕ
    pad k = (placed k).0

    pad_at : (k : ℕ) → At k (pad k)
    unfolding pad
    pad_at k = (placed k).1

    module _ (T : Takes allowed r c t) where
      at_in : {k x : ℕ} → k < r + c → At k x → x < r + c
      at_in {k} {x} l (with_row h e) = let z = T.row_in_lem k x h e in omega arith
      at_in l (left_column h e z) = omega arith
      at_in l (spare i j z h e y) = omega arith
      at_in l (left_row z f) = omega arith

      both : {k j i : ℕ} → k ≡ j → t k ≡ None → t j ≡ Some i → ⊥
      both z e d = none_some (sym e ∙ ap t z ∙ d)

      at_once : {j k x : ℕ} → j < r + c → k < r + c → At j x → At k x → j ≡ k
      at_once {j} {k} {x} m n (with_row h e) (with_row l d) = T.once j k x h l e d
      at_once {j} {k} {x} m n (with_row h e) (left_column l d z) = absurd (let y = T.row_in_lem j x h e in omega arith)
      at_once {j} {k} {x} m n (with_row h e) (spare i b z l d y) = absurd (let w = T.row_in_lem j x h e in omega arith)
      at_once {j} {k} {x} m n (with_row h e) (left_row z f) = absurd (f j h e)
      at_once {j} {k} {x} m n (left_column h e y) (with_row l d) = absurd (let w = T.row_in_lem k x l d in omega arith)
      at_once m n (left_column h e y) (left_column l d z) = omega arith
      at_once m n (left_column h e y) (spare i b z l d w) = absurd (both (omega arith) e d)
      at_once m n (left_column h e y) (left_row z f) = absurd (omega arith)
      at_once {j} {k} {x} m n (spare i a y h e w) (with_row l d) = absurd (let v = T.row_in_lem k x l d in omega arith)
      at_once m n (spare i a y h e w) (left_column l d z) = absurd (both (omega arith) d e)
      at_once m n (spare i a y h e w) (spare i' b z l d v) = let q : a ≡ b = omega arith in let s = some_same (sym e ∙ ap t q ∙ d) in omega arith
      at_once m n (spare i a y h e w) (left_row z f) = absurd (omega arith)
      at_once {j} {k} {x} m n (left_row y f) (with_row l d) = absurd (f k l d)
      at_once m n (left_row y f) (left_column l d z) = absurd (omega arith)
      at_once m n (left_row y f) (spare i b z l d w) = absurd (omega arith)
      at_once m n (left_row y f) (left_row z g) = omega arith

      pad_inj : Inj (r + c) pad
      pad_inj = record { in_range = λ k h. at_in h (pad_at k); one_one = λ j k h l e. at_once h l (pad_at j) (subst (λ (x : ℕ). At k x) (sym e) (pad_at k)) }

      at_plain : {k x : ℕ} → k < r + c → At k x → Plain x k
      at_plain {k} {x} l (with_row h e) = pair (T.row_in_lem k x h e) h (T.may k x h e)
      at_plain l (left_column h e z) = alone_column h z
      at_plain l (spare i j z h e y) = dummies (omega arith) (omega arith)
      at_plain l (left_row z f) = alone_row (omega arith) z

      at_taken : {k x : ℕ} → k < c → At k x → taker_of r (suc x) ≡ t k
      unfolding taker_of
      at_taken {k} {x} l (with_row h e) = rw (lt-ltb x r (T.row_in_lem k x h e), e)
      at_taken {k} {x} l (left_column h e z) = rw (le-ltb x r (omega arith), e)
      at_taken l (spare i j z h e y) = absurd (omega arith)
      at_taken l (left_row z f) = absurd (omega arith)

      pad_sum : sum (λ j. padded (pad j) j) (r + c) ≈ weight cost row column t c +Z times r row
      pad_sum =
          let a = plain_sum pad pad_inj (λ j l. at_plain l (pad_at j)) in
          let b = sum_same (λ j. weight_of cost row column j (taker r pad j)) (λ j. weight_of cost row column j (t j)) c (λ j l. rw (at_taken l (pad_at j)) (omega arith)) in
          omega arith

  -- no pair at all
  apart : Takes allowed r c (λ j. None)
  apart = record { row_in_lem = λ j i h e. none_some e; may = λ j i h e. none_some e; once = λ j k i h l e d. none_some e }

  -- ---- entries in range, and a sentinel above all that they can make up
  module _ (rows_few : r ≤ 64) (columns_few : c ≤ 64) (costs-near : (i j : ℕ) → i < r → j < c → allowed i j ≡ true → Within 1_000_000 (cost i j)) (row_Near : Within 1_000_000 row) (column-near : Within 1_000_000 column) (is_far_lem : natural 1_000_000_000 ≤Z far) where
    plain_near : {i j : ℕ} → Plain i j → Within 1_000_000 (padded i j)
    plain_near {i} {j} (pair h l e) = rw (lt-ltb i r h, lt-ltb j c l, e) (costs-near i j h l e)
    plain_near {i} {j} (alone_row h e) = rw (lt-ltb i r h, le-ltb j c (omega arith), eq-eqb j (c + i) e) row_Near
    plain_near {i} {j} (alone_column l e) = rw (le-ltb i r (omega arith), lt-ltb j c l, eq-eqb i (r + j) e) column-near
    plain_near {i} {j} (dummies h l) = rw (le-ltb i r h, le-ltb j c l) (omega arith, omega arith)

    entry_low : (i j : ℕ) → (padded i j).dn ≤ (padded i j).up + 1_000_000
    entry_low i j = elim (plain? i j) [ inl h ↦ (plain_near h).1 | inr e ↦ rw e (omega arith) ]

    module _ (p : ℕ → ℕ) (I : Inj (r + c) p) (least : (q : ℕ → ℕ) → Inj (r + c) q → sum (λ j. padded (p j) j) (r + c) ≤Z sum (λ j. padded (q j) j) (r + c)) where
      -- with the sentinel the total would be above the total of no pair at all
      no_far : (k : ℕ) → k < r + c → padded (p k) k ≡ far → ⊥
      no_far k h e =
          let q = pad (λ j. None) in
          let a = sum_far (λ j. padded (p j) j) (r + c) k h (λ j l. entry_low (p j) j) (rw e is_far_lem) in
          let b = sum_high (λ j. padded (q j) j) (r + c) (λ j l. (plain_near (at_plain (λ j. None) apart l (pad_at (λ j. None) j))).0) in
          let d = least q (pad_inj (λ j. None) apart) in
          omega arith

      all_plain : (j : ℕ) → j < r + c → Plain (p j) j
      all_plain j h = elim (plain? (p j) j) [ inl a ↦ a | inr e ↦ absurd (no_far j h e) ]

      taker_takes : Takes allowed r c (taker r p)
      taker_takes = record {
        row_in_lem = λ j i h e. (taker_is r (suc (p j)) i e).1;
        may = λ j i h e. let z = taker_is r (suc (p j)) i e in let y : p j ≡ i = omega (arith, z.0) in plain_may (subst (λ (x : ℕ). Plain x j) y (all_plain j (omega arith))) z.1 h;
        once = λ j k i h l e d. I.one_one j k (omega arith) (omega arith) (let y = (taker_is r (suc (p j)) i e).0 in let z = (taker_is r (suc (p k)) i d).0 in omega arith);
      }

      -- a least assignment of the square gives a least pairing of the table
      pub padded_least : LeastTakes allowed cost row column r c (taker r p)
      padded_least = record { takes = taker_takes; least = λ other T. let a = plain_sum p I all_plain in let b = pad_sum other T in let d = least (pad other) (pad_inj other T) in omega arith }
