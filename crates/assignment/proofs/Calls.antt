-- The whole table at once: what the groups give is the definition's pairing.
use Rattle.std.specs.Prelude.{None, Option, Result}
use mathlib.Core.Path.{◌≡◌, refl, sym, ap, ◌∙◌}
use mathlib.Core.Bool.{Bool, true, false, cond, ◌&&◌}
use mathlib.Core.List.{List, [], ◌∷◌, ◌++◌, map}
use Prim.Native.Nat.{ℕ, zero, suc, ◌-◌, ◌*◌, ◌≤◌, ◌<◌}
use native.Mathlib.Nat.{suc-mul, zero-mul}
use native.Mathlib.Omega.{arith}
use borrow.Author.Tests.{lt-leb, le-leb, eq-eqb, ne_eqb}
use lib.Dec.{eqb, leb}
use lib.ListN.{length, take, drop, replicate, length-drop, take-append-drop}
use lib.Ieee.{Float}
use lib.Ieee.Scale.{finite}
use Rattle.number.specs.Float.{larger_of}
use Rattle.number.specs.Reply.{Reply, refused, refuse_unless}
use Rattle.lists.specs.Masks.{up_from}
use Rattle.kuhn_munkres.specs.Groups.{labels}
use Rattle.kuhn_munkres.specs.Assignment.{rows_of, largest, largest_of, sentinel_of, groups, pairing, takers_reply}
use Rattle.assignment.specs.Labelling.{row_or}
use Rattle.groups.specs.Solvers.{own_reply}
use Rattle.hungarian.specs.declared.RunError.{RunError}
use Rattle.hungarian.specs.Ends.{reply_of_run}
use Rattle.assignment.specs.Taking.{takers_of, AllTaken}

largest_append : (m : Float) (a b : List Float) → largest m (a ++ b) ≡ largest (largest m a) b
unfolding largest
largest_append m [] b = refl
largest_append m (x ∷ a) b = largest_append (cond (finite x) (larger_of m x) m) a b

-- the largest of a table is that of its rows
pub largest_rows : (n w : ℕ) (m : Float) (l : List Float) → length l ≡ n * w → largest m l ≡ largest_of m (rows_of n w l)
unfolding largest_of rows_of
largest_rows zero w m [] e = unfold largest in refl
largest_rows zero w m (x ∷ l) e = absurd (omega (arith, zero-mul w))
largest_rows (suc n) w m l e =
    ap (largest m) (sym (take-append-drop w l)) ∙ largest_append m (take w l) (drop w l)
    ∙ largest_rows n w (largest m (take w l)) (drop w l) (length-drop w l ∙ (let q : length l - w ≡ n * w = omega (arith, suc-mul n w) in q))

none_takers : (k m : ℕ) → m ≤ k → map row_or (take m (replicate k 64)) ≡ replicate m None
none_takers k zero h = refl
none_takers zero (suc m) h = absurd (omega arith)
none_takers (suc k) (suc m) h = ap (λ (l : List (Option ℕ)). None ∷ l) (none_takers k m (omega arith))

pub paired : (costs : List Float) (n m : ℕ) (far rowCost columnCost : Float) (r : Result (Unit {0}) RunError) (before after : List ℕ) → m ≤ 64 → length costs ≡ n * m → before ≡ replicate 64 64 → far ≡ sentinel_of (largest (larger_of rowCost columnCost) costs)
    → AllTaken costs n m far rowCost columnCost r before after → reply_of_run r (takers_of m after) ≡ pairing rowCost columnCost (rows_of n m costs) m
unfolding pairing
paired costs n m far rowCost columnCost r before after hm size b f a =
    a.is
    ∙ ap (λ (t : List (Option ℕ)). groups (own_reply far rowCost columnCost) (rows_of n m costs) (labels finite (rows_of n m costs) m) (up_from zero (rows_of n m costs)) t) (ap (takers_of m) b ∙ none_takers 64 m hm)
    ∙ ap (λ (x : Float). groups (own_reply x rowCost columnCost) (rows_of n m costs) (labels finite (rows_of n m costs) m) (up_from zero (rows_of n m costs)) (replicate m None)) (f ∙ ap sentinel_of (largest_rows n m (larger_of rowCost columnCost) costs size))

-- ---- the checks, in 01's order
module _ (costs : List Float) (n m : ℕ) (rowCost columnCost : Float) where
  abbrev whole : Bool → Bool → Bool → Bool → Bool → Reply (List (Option ℕ))
  whole a b c d e = refuse_unless (a && b) 11 (refuse_unless (c && d) 9 (refuse_unless e 10 (pairing rowCost columnCost (rows_of n m costs) m)))

  by : (a b c d e : Bool) → leb n 64 ≡ a → leb m 64 ≡ b → finite rowCost ≡ c → finite columnCost ≡ d → eqb (length costs) (n * m) ≡ e → takers_reply costs n m rowCost columnCost ≡ whole a b c d e
  unfolding takers_reply
  by a b c d e p q r s t = rw (p, q, r, s, t)

  pub rows_over : 64 < n → refused 11 ≡ takers_reply costs n m rowCost columnCost
  rows_over h = sym (by false (leb m 64) (finite rowCost) (finite columnCost) (eqb (length costs) (n * m)) (lt-leb n 64 h) refl refl refl refl)

  module _ (hn : n ≤ 64) where
    pub columns_over : 64 < m → refused 11 ≡ takers_reply costs n m rowCost columnCost
    columns_over h = sym (by true false (finite rowCost) (finite columnCost) (eqb (length costs) (n * m)) (le-leb n 64 hn) (lt-leb m 64 h) refl refl refl)

    module _ (hm : m ≤ 64) where
      pub row_cost_bad : finite rowCost ≡ false → refused 9 ≡ takers_reply costs n m rowCost columnCost
      row_cost_bad h = sym (by true true false (finite columnCost) (eqb (length costs) (n * m)) (le-leb n 64 hn) (le-leb m 64 hm) h refl refl)

      module _ (hr : finite rowCost ≡ true) where
        pub column_cost_bad : finite columnCost ≡ false → refused 9 ≡ takers_reply costs n m rowCost columnCost
        column_cost_bad h = sym (by true true true false (eqb (length costs) (n * m)) (le-leb n 64 hn) (le-leb m 64 hm) hr h refl)

        module _ (hc : finite columnCost ≡ true) where
          pub size_bad : (length costs ≡ n * m → ⊥) → refused 10 ≡ takers_reply costs n m rowCost columnCost
          size_bad h = sym (by true true true true false (le-leb n 64 hn) (le-leb m 64 hm) hr hc (ne_eqb (length costs) (n * m) h))

          pub checked : length costs ≡ n * m → takers_reply costs n m rowCost columnCost ≡ pairing rowCost columnCost (rows_of n m costs) m
          checked h = by true true true true true (le-leb n 64 hn) (le-leb m 64 hm) hr hc (eq-eqb (length costs) (n * m) h)
