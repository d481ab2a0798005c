-- The row that takes a column, as it is read off the steps' rows; the column that a row takes, as it is looked for column by column.
use Rattle.std.specs.Prelude.{None, Option, Some}
use mathlib.Core.Path.{◌≡◌, refl, sym, ap, ◌∙◌}
use mathlib.Core.Bool.{Bool, true, false, cond, true≢false}
use mathlib.Core.List.{List, [], ◌∷◌}
use Prim.Native.Nat.{ℕ, zero, suc, ◌-◌, ◌≤◌, ◌<◌}
use native.Mathlib.Decide.{dec_lt}
use native.Mathlib.Omega.{arith}
use borrow.Author.Tests.{eq-eqb, eqb-true, lt-ltb, le-ltb}
use lib.ListN.{get_or}
use Rattle.kuhn_munkres.specs.Groups.{is_label}
use Rattle.kuhn_munkres.specs.Assignment.{taker_of, column_of}
use Rattle.kuhn_munkres.proofs.Labels.{none_some, some_same}

pub taker_is : (n x y : ℕ) → taker_of n x ≡ Some y → (x ≡ suc y) × (y < n)
unfolding taker_of
taker_is n zero y e = none_some e
taker_is n (suc i) y e = go (dec_lt i n)
  where
    go : Dec (i < n) → (suc i ≡ suc y) × (y < n)
    go (yes h) = let w : i ≡ y = some_same (rw (lt-ltb i n h) at e) in (ap suc w, rw w at h)
    go (no h) = none_some (rw (le-ltb i n (let b : n ≤ i = omega arith in b)) at e)

-- the column of a row is one that it takes
found_takes : (i k j : ℕ) (t : List (Option ℕ)) → column_of i k t ≡ Some j → (k ≤ j) × (get_or t (j - k) None ≡ Some i)
unfolding column_of
found_takes i k j [] e = none_some e
found_takes i k j (o ∷ t) e = go (is_label i o) refl (found_takes i (suc k) j t) e
  where
    label : (p : Option ℕ) → is_label i p ≡ true → p ≡ Some i
    label None q = unfold is_label in absurd (true≢false (sym q))
    label (Some g) q = ap Some (sym (eqb-true i g (unfold is_label in q)))

    go : (b : Bool) → is_label i o ≡ b → (column_of i (suc k) t ≡ Some j → (suc k ≤ j) × (get_or t (j - suc k) None ≡ Some i)) → cond b (Some k) (column_of i (suc k) t) ≡ Some j → (k ≤ j) × (get_or (o ∷ t) (j - k) None ≡ Some i)
    go true q ih w = let z : k ≡ j = cc in let v : j - k ≡ 0 = omega arith in (omega arith, rw v (label o q))
    go false q ih w = let r = ih w in let l = r.0 in let v : j - k ≡ suc (j - suc k) = omega arith in (omega arith, rw v r.1)

-- a row that takes a column has one
takes_found : (i k j : ℕ) (t : List (Option ℕ)) → get_or t j None ≡ Some i → (c : ℕ) × (column_of i k t ≡ Some c)
unfolding column_of
takes_found i k j [] e = none_some e
takes_found i k j (o ∷ t) e = go (is_label i o) refl j e (λ j' q. takes_found i (suc k) j' t q)
  where
    go : (b : Bool) → is_label i o ≡ b → (j : ℕ) → get_or (o ∷ t) j None ≡ Some i → ((j' : ℕ) → get_or t j' None ≡ Some i → (c : ℕ) × (column_of i (suc k) t ≡ Some c)) → (c : ℕ) × (cond b (Some k) (column_of i (suc k) t) ≡ Some c)
    go true q j w ih = (k, refl)
    go false q zero w ih = absurd (true≢false (sym (ap (is_label i) w ∙ (unfold is_label in eq-eqb i i refl)) ∙ q))
    go false q (suc j) w ih = ih j w

module _ (t : List (Option ℕ)) where
  pub column_takes : (i j : ℕ) → column_of i 0 t ≡ Some j → get_or t j None ≡ Some i
  column_takes i j e = let z : j - 0 ≡ j = omega arith in rw z at (found_takes i 0 j t e).1

  -- where no row takes two
  pub column_is : ((j k i : ℕ) → get_or t j None ≡ Some i → get_or t k None ≡ Some i → j ≡ k) → (i j : ℕ) → get_or t j None ≡ Some i → column_of i 0 t ≡ Some j
  column_is once i j e = let r = takes_found i 0 j t e in r.1 ∙ ap Some (once r.0 j i (column_takes i r.0 r.1) e)
