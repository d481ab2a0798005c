-- What the place that a search gives says of its table. Assumes nothing.
use Rattle.std.specs.Prelude.{None, Option, Some}
use mathlib.Core.Path.{◌≡◌, ap, sym, ◌∙◌}
use mathlib.Core.Bool.{Bool}
use mathlib.Core.List.{List}
use Prim.Native.Nat.{ℕ, ◌<◌, min}
use native.Mathlib.Omega.{arith}
use lib.ListN.{length, take, get_or, set}
use lib.Seq.{get_or-take}
use Rattle.lists.specs.First.{first_at, change_first}
use Rattle.lists.specs.Table.{table, over_table}
use Rattle.lists.proofs.Firsts.{Leads, first_leads, change_at, change_none}
use Rattle.lists.proofs.Tables.{rows, rows_length, stored, unchanged}

-- a search for p in a table of n taken places answered r
module _ {A : Type 0} (a : List A) (most count n : ℕ) (size : length a ≡ most) (taken : n ≡ min count most) (p : A → Bool) (d : A) (r : Option ℕ) (answer : r ≡ first_at p (take count a)) where
  front : first_at p (take n a) ≡ r
  front = ap (first_at p) (sym (rows a most count n size taken)) ∙ sym answer

  leads : (i : ℕ) → r ≡ Some i → Leads p d (take n a) i
  leads i e = first_leads p d (take n a) i (front ∙ e)

  absent : r ≡ None → first_at p (take n a) ≡ None
  absent e = front ∙ e

  pub inside : (i : ℕ) → r ≡ Some i → i < n
  inside i e = omega (arith, (leads i e).inside, rows_length a most count n size taken)

  -- the element there, changed
  pub changed : (f : A → A) (i : ℕ) (y : A) → r ≡ Some i → y ≡ f (get_or a i d) → table (set a i y) n ≡ over_table (change_first p f (take count a)) a
  changed f i y e q =
      stored a most count n size taken (change_first p f) i y (inside i e)
      (change_at p d f (take n a) i (leads i e)
      ∙ ap (λ (z : A). set (take n a) i z) (ap f (get_or-take n a i d (inside i e)) ∙ sym q))

  pub same : (f : A → A) → r ≡ None → table a n ≡ over_table (change_first p f (take count a)) a
  same f e = unchanged a most count n size taken (change_first p f) (change_none p f (take n a) (absent e))
