-- The head of a line: what a number with its blank leaves, and what each stage makes of it.
use Rattle.std.specs.Prelude.{Option}
use mathlib.Core.Path.{◌≡◌, refl, ap, ◌∙◌}
use mathlib.Core.Bool.{Bool, true, false, cond}
use mathlib.Core.List.{List, [], ◌∷◌}
use Prim.Native.Nat.{ℕ}
use lib.Dec.{eqb}
use lib.IntN.{ℤ, pos, negsuc}
use lib.ListN.{drop}
use lib.Ieee.{binary64, of_int}
use Rattle.std.proofs.Common.{Some, None}
use Rattle.forms.specs.Shape.{past_word}
use Rattle.forms.proofs.Shapes.{never, Tail, one, more, on, past_tail}
use Rattle.forms.specs.Decimal.{decimal_of}
use Rattle.request.specs.Request.{word_of, leaving, blank, argument_of, counted, count_of, begins, opening, found_of, head_answer, Sizes, costed, columned, rowed, head_of}
use Rattle.request.proofs.Lists.{rest_of, place, Leaves, Got, found_none}

-- ---- a number and its blank leave a tail
later : {l m : List ℕ} → Tail (0 ∷ l) m → (c : ℕ) (r : List ℕ) → m ≡ c ∷ r → Tail l r
later one c r e = rw e one
later (more t) c r e = on (rw e at t) one

at_blank : {X : Type 0} (l r m : List ℕ) (c : ℕ) (x y : X) (t : Bool) → past_word l ≡ c ∷ m → cond {A = Option (X × List ℕ)} t (Some (y, m)) None ≡ Some (x, r) → Tail l r
unfolding rest_of
at_blank l r m c x y true q k = let u : m ≡ r = ap rest_of k in rw u at (later (past_tail 0 l) c m q)
at_blank l r m c x y false q k = never k

blank_leaves : {X : Type 0} (l r : List ℕ) (x : X) (o : Option X) → blank (leaving (past_word l) o) ≡ Some (x, r) → Tail l r
unfolding blank leaving
blank_leaves l r x None h = never h
blank_leaves {X} l r x (Some y) h = go (past_word l) refl h
  where
    go : (m : List ℕ) → past_word l ≡ m → blank (Some (y, m)) ≡ Some (x, r) → Tail l r
    go [] q g = never g
    go (c ∷ m) q g = at_blank l r m c x y (eqb c 32) q g

pub argument_leaves : Leaves argument_of
unfolding argument_of
argument_leaves l r z h = blank_leaves l r z (decimal_of (word_of l)) h

-- ---- and so does a number that is not below zero
counted_leaves : (l r : List ℕ) (n : ℕ) (o : Option (ℤ × List ℕ)) → counted o ≡ Some (n, r) → ((z : ℤ) → o ≡ Some (z, r) → Tail l r) → Tail l r
unfolding counted rest_of
counted_leaves l r n None h f = never h
counted_leaves l r n (Some (pos m, k)) h f = let u : k ≡ r = ap rest_of h in f (pos m) (ap (λ (x : List ℕ). Some (pos m, x)) u)
counted_leaves l r n (Some (negsuc m, k)) h f = never h

pub count_leaves : Leaves count_of
unfolding count_of
count_leaves l r n h = counted_leaves l r n (argument_of l) h (λ z q. argument_leaves l r z q)

-- ---- the stages by what is not below zero
after_rows : Option (ℕ × List ℕ) → Option (Sizes × List ℕ)
after_rows None = None
after_rows (Some (r, l)) = columned r (argument_of l)

after_columns : ℕ → Option (ℕ × List ℕ) → Option (Sizes × List ℕ)
after_columns r None = None
after_columns r (Some (c, l)) = costed r c (argument_of l)

rowed_is : (o : Option (ℤ × List ℕ)) → rowed o ≡ after_rows (counted o)
unfolding rowed counted after_rows
rowed_is None = refl
rowed_is (Some (pos n, l)) = refl
rowed_is (Some (negsuc n, l)) = refl

columned_is : (r : ℕ) (o : Option (ℤ × List ℕ)) → columned r o ≡ after_columns r (counted o)
unfolding columned counted after_columns
columned_is r None = refl
columned_is r (Some (pos n, l)) = refl
columned_is r (Some (negsuc n, l)) = refl

module _ (s : List ℕ) where
  pub head_other : begins opening s ≡ false → None ≡ head_answer s (head_of s)
  unfolding head_of
  head_other h = rw h

  module _ (h : begins opening s ≡ true) where
    head_is : head_of s ≡ after_rows (count_of (drop 8 s))
    unfolding head_of count_of
    head_is = rw h (rowed_is (argument_of (drop 8 s)))

    pub head_no_rows : None ≡ found_of s (count_of (drop 8 s)) → None ≡ head_answer s (head_of s)
    unfolding after_rows
    head_no_rows g = rw (head_is, found_none s (count_of (drop 8 s)) g)

    module _ (r e : ℕ) (g : Got count_of s 8 r e) where
      columns_is : head_of s ≡ after_columns r (count_of (drop e s))
      unfolding after_rows count_of
      columns_is = head_is ∙ ap after_rows g.left ∙ columned_is r (argument_of (drop e s))

      pub head_no_columns : None ≡ found_of s (count_of (drop e s)) → None ≡ head_answer s (head_of s)
      unfolding after_columns
      head_no_columns k = rw (columns_is, found_none s (count_of (drop e s)) k)

      module _ (c f : ℕ) (k : Got count_of s e c f) where
        cost_is : head_of s ≡ costed r c (argument_of (drop f s))
        unfolding after_columns
        cost_is = columns_is ∙ ap (after_columns r) k.left

        pub head_no_cost : None ≡ found_of s (argument_of (drop f s)) → None ≡ head_answer s (head_of s)
        unfolding costed
        head_no_cost q = rw (cost_is, found_none s (argument_of (drop f s)) q)

        pub head_stated : (z : ℤ) (i : ℕ) → Got argument_of s f z i
            → Some (record { value = record { rows = r; columns = c; cost = of_int binary64 z }; end = i }) ≡ head_answer s (head_of s)
        unfolding costed
        head_stated z i q = rw (cost_is, q.left, place s i q.within)
