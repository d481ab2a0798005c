-- The place of the first element that a test picks: what the library's search for it answers, and a loop over the first elements of a table. Assumes nothing.
use Rattle.std.specs.Prelude.{None, Option, Some}
use Rattle.std.specs.Option.{MatchOption}
use Rattle.std.specs.List.{AllWithin, HoldsAt}
use mathlib.Core.Path.{◌≡◌, ap, sym, subst, ◌∙◌}
use mathlib.Core.Bool.{Bool, true, false}
use mathlib.Core.List.{List}
use Prim.Native.Nat.{ℕ, ◌+◌, ◌≤◌, ◌<◌, min}
use native.Mathlib.Omega.{arith}
use lib.ListN.{length, take, get_or}
use lib.Seq.{length-take-le, get_or-take}
use borrow.Author.Count.{below_more}
use Rattle.lists.specs.First.{first_at}
use Rattle.lists.proofs.Firsts.{first_at_lem, first_none}
use Rattle.lists.proofs.Tables.{rows}

pub first_by : {A : Type 0} (p : A → Bool) (d : A) (l : List A) (r : Option ℕ)
    → MatchOption r (AllWithin (λ x. p x ≡ false) l 0 (length l)) (λ i. (i < length l) × HoldsAt (λ x. p x ≡ true) l i × AllWithin (λ x. p x ≡ false) l 0 i)
    → r ≡ first_at p l
first_by p d l None h = sym (first_none p d l (λ k q. h k d (omega arith) q))
first_by p d l (Some i) h = sym (first_at_lem p d l i (record { inside = h.0; misses = λ k q. h.2 k d (omega arith) q; hits = h.1 d }))

-- none of l's first i elements has p
pub record Missed {A : Type 0} (p : A → Bool) (d : A) (l : List A) (i : ℕ) : Type 0 where
  pub misses : (k : ℕ) → k < i → p (get_or l k d) ≡ false

module _ {A : Type 0} (p : A → Bool) (d : A) where
  pub missed_start : (l : List A) → Missed p d l 0
  missed_start l = record { misses = λ k h. absurd (omega arith) }

  pub missed_more : (l : List A) (i : ℕ) → Missed p d l i → p (get_or l i d) ≡ false → Missed p d l (i + 1)
  missed_more l i s e = record { misses = below_more _ _ s.misses e }

  -- the first of l's first n elements stands at i, or nowhere
  pub missed_first : (l : List A) (n i : ℕ) → Missed p d l i → n ≤ length l → i < n → p (get_or l i d) ≡ true → first_at p (take n l) ≡ Some i
  missed_first l n i s h k e =
      first_at_lem p d (take n l) i
      (record {
        inside = omega (arith, length-take-le n l h);
        misses = λ j q. rw (get_or-take n l j d (omega arith)) (s.misses j q);
        hits = rw (get_or-take n l i d k) e;
      })

  pub missed_nowhere : (l : List A) (n : ℕ) → Missed p d l n → n ≤ length l → first_at p (take n l) ≡ None
  missed_nowhere l n s h =
      first_none p d (take n l)
      (λ j q. let b : j < n = omega (arith, length-take-le n l h) in rw (get_or-take n l j d b) (s.misses j b))

-- a search of a table of n taken places that ends at i, and one that ends at no place
module _ {A : Type 0} (a : List A) (most count n : ℕ) (size : length a ≡ most) (taken : n ≡ min count most) (p : A → Bool) (d : A) (i : ℕ) (s : Missed p d a i) where
  pub found : i < n → p (get_or a i d) ≡ true → first_at p (take count a) ≡ Some i
  found h e = ap (first_at p) (rows a most count n size taken) ∙ missed_first p d a n i s (omega (arith, size, taken)) h e

  pub nowhere : i ≡ n → first_at p (take count a) ≡ None
  nowhere e = ap (first_at p) (rows a most count n size taken) ∙ missed_nowhere p d a n (subst (Missed p d a) e s) (omega (arith, size, taken))
