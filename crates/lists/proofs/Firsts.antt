-- Where the first element that a test picks stands. Assumes nothing.
use Rattle.std.specs.Prelude.{None, Option, Some}
use mathlib.Core.Path.{◌≡◌, refl, ap, subst}
use mathlib.Core.List.{List, [], ◌∷◌}
use mathlib.Core.Bool.{Bool, true, false, cond, ◌||◌}
use Prim.Native.Nat.{ℕ, suc, zero, ◌<◌, zero-le, suc-le-suc}
use native.Mathlib.Omega.{arith}
use lib.ListN.{length, get_or, set}
use Rattle.std.specs.List.{list_any}
use Rattle.lists.specs.First.{one_place_on, any, first_at, first_of, change_first}

some_same : {A : Type 0} {x y : A} → Some x ≡ Some y → x ≡ y
some_same e = cc

-- i is the place of the first element of l that has p
pub record Leads {A : Type 0} (p : A → Bool) (d : A) (l : List A) (i : ℕ) : Type 0 where
  pub inside : i < length l
  pub misses : (k : ℕ) → k < i → p (get_or l k d) ≡ false
  pub hits : p (get_or l i d) ≡ true

module _ {A : Type 0} where
  pub any_at : (p : A → Bool) (l : List A) (i : ℕ) (d : A) → i < length l → p (get_or l i d) ≡ true → any p l ≡ true
  unfolding any
  any_at p [] i d h hits = absurd (omega arith)
  any_at p (x ∷ xs) zero d h hits = rw hits
  any_at p (x ∷ xs) (suc i) d h hits = go (p x) (any_at p xs i d (omega arith) hits)
    where
      go : (b : Bool) → any p xs ≡ true → cond b true (any p xs) ≡ true
      go true e = refl
      go false e = e

  pub any_none : (p : A → Bool) (l : List A) (d : A) → ((k : ℕ) → k < length l → p (get_or l k d) ≡ false) → any p l ≡ false
  unfolding any
  any_none p [] d misses = refl
  any_none p (x ∷ xs) d misses = rw (misses zero (suc-le-suc zero-le)) (any_none p xs d (λ k q. misses (suc k) (suc-le-suc q)))

  -- std's test of a list is the same
  pub list_any_is : (p : A → Bool) (l : List A) → list_any p l ≡ any p l
  unfolding any
  list_any_is p [] = refl
  list_any_is p (x ∷ xs) = go (p x) (list_any_is p xs)
    where
      go : (b : Bool) → list_any p xs ≡ any p xs → (b || list_any p xs) ≡ cond b true (any p xs)
      go true e = refl
      go false e = e

  -- the place in a longer list, and in its rest
  later : (p : A → Bool) (d x : A) (xs : List A) (i : ℕ) → p x ≡ false → Leads p d xs i → Leads p d (x ∷ xs) (suc i)
  later p d x xs i h f = record { inside = omega (arith, f.inside); misses = miss; hits = f.hits }
    where
      miss : (k : ℕ) → k < suc i → p (get_or (x ∷ xs) k d) ≡ false
      miss zero q = h
      miss (suc k) q = f.misses k (omega arith)

  pub rest : (p : A → Bool) (d x : A) (xs : List A) (i : ℕ) → Leads p d (x ∷ xs) (suc i) → Leads p d xs i
  rest p d x xs i f = record { inside = omega (arith, f.inside); misses = λ k q. f.misses (suc k) (suc-le-suc q); hits = f.hits }

  pub passed : (p : A → Bool) (d x : A) (xs : List A) (i : ℕ) → Leads p d (x ∷ xs) (suc i) → p x ≡ false
  passed p d x xs i f = f.misses zero (suc-le-suc zero-le)

  -- the place, and back
  pub first_at_lem : (p : A → Bool) (d : A) (l : List A) (i : ℕ) → Leads p d l i → first_at p l ≡ Some i
  unfolding first_at
  first_at_lem p d [] i f = absurd (omega (arith, f.inside))
  first_at_lem p d (x ∷ xs) zero f = rw f.hits
  first_at_lem p d (x ∷ xs) (suc i) f = rw (passed p d x xs i f, first_at_lem p d xs i (rest p d x xs i f))

  pub first_none : (p : A → Bool) (d : A) (l : List A) → ((k : ℕ) → k < length l → p (get_or l k d) ≡ false) → first_at p l ≡ None
  unfolding first_at
  first_none p d [] misses = refl
  first_none p d (x ∷ xs) misses = rw (misses zero (suc-le-suc zero-le), first_none p d xs (λ k q. misses (suc k) (suc-le-suc q)))

  pub first_leads : (p : A → Bool) (d : A) (l : List A) (i : ℕ) → first_at p l ≡ Some i → Leads p d l i
  unfolding first_at
  first_leads p d [] i e = cc
  first_leads p d (x ∷ xs) i e = go (p x) refl (first_at p xs) (λ j. first_leads p d xs j) e
    where
      go : (b : Bool) → p x ≡ b → (o : Option ℕ) → ((j : ℕ) → o ≡ Some j → Leads p d xs j) → cond b (Some 0) (one_place_on o) ≡ Some i → Leads p d (x ∷ xs) i
      go true h o q e =
          subst (Leads p d (x ∷ xs)) (some_same e)
          (record { inside = suc-le-suc zero-le; misses = λ k r. absurd (omega arith); hits = h })
      go false h None q e = cc
      go false h (Some j) q e =
          subst (Leads p d (x ∷ xs)) (some_same e) (later p d x xs j h (q j refl))

  -- what the place says of the element and of a change
  pub first_of_lem : (p : A → Bool) (d : A) (l : List A) (i : ℕ) → Leads p d l i → first_of p l ≡ Some (get_or l i d)
  unfolding first_of
  first_of_lem p d [] i f = absurd (omega (arith, f.inside))
  first_of_lem p d (x ∷ xs) zero f = rw f.hits
  first_of_lem p d (x ∷ xs) (suc i) f = rw (passed p d x xs i f) (first_of_lem p d xs i (rest p d x xs i f))

  pub change_at : (p : A → Bool) (d : A) (f : A → A) (l : List A) (i : ℕ) → Leads p d l i → change_first p f l ≡ set l i (f (get_or l i d))
  unfolding change_first
  change_at p d f [] i h = absurd (omega (arith, h.inside))
  change_at p d f (x ∷ xs) zero h = rw h.hits
  change_at p d f (x ∷ xs) (suc i) h = rw (passed p d x xs i h) (ap (λ (q : List A). x ∷ q) (change_at p d f xs i (rest p d x xs i h)))

  -- no place: no element, and no change
  pub none_of : (p : A → Bool) (l : List A) → first_at p l ≡ None → first_of p l ≡ None
  unfolding first_at first_of
  none_of p [] e = refl
  none_of p (x ∷ xs) e = go (p x) (first_at p xs) (none_of p xs) e
    where
      go : (b : Bool) (o : Option ℕ) → (o ≡ None → first_of p xs ≡ None) → cond b (Some 0) (one_place_on o) ≡ None → cond b (Some x) (first_of p xs) ≡ None
      go true o q e = cc
      go false None q e = q refl
      go false (Some j) q e = cc

  pub change_none : (p : A → Bool) (f : A → A) (l : List A) → first_at p l ≡ None → change_first p f l ≡ l
  unfolding first_at change_first
  change_none p f [] e = refl
  change_none p f (x ∷ xs) e = go (p x) (first_at p xs) (change_none p f xs) e
    where
      go : (b : Bool) (o : Option ℕ) → (o ≡ None → change_first p f xs ≡ xs) → cond b (Some 0) (one_place_on o) ≡ None → cond b (f x ∷ xs) (x ∷ change_first p f xs) ≡ x ∷ xs
      go true o q e = cc
      go false None q e = ap (λ (r : List A). x ∷ r) (q refl)
      go false (Some j) q e = cc

-- ---- a search, and whether there is any

module _ {A : Type 0} (p : A → Bool) where
  pub any_nowhere : (l : List A) → first_at p l ≡ None → any p l ≡ false
  unfolding first_at any
  any_nowhere [] e = refl
  any_nowhere (x ∷ l) e = go (p x) (first_at p l) (any_nowhere l) e
    where
      go : (b : Bool) (o : Option ℕ) → (o ≡ None → any p l ≡ false) → cond b (Some 0) (one_place_on o) ≡ None → cond b true (any p l) ≡ false
      go true o f e = absurd (let z : ◌≡◌ {A = ℕ} 0 1 = cc in omega arith)
      go false None f e = f refl
      go false (Some i) f e = absurd (let z : ◌≡◌ {A = ℕ} 0 1 = cc in omega arith)

  pub any_somewhere : (l : List A) (i : ℕ) → first_at p l ≡ Some i → any p l ≡ true
  unfolding first_at any
  any_somewhere [] i e = absurd (let z : ◌≡◌ {A = ℕ} 0 1 = cc in omega arith)
  any_somewhere (x ∷ l) i e = go (p x) (first_at p l) (any_somewhere l) e
    where
      go : (b : Bool) (o : Option ℕ) → ((j : ℕ) → o ≡ Some j → any p l ≡ true) → cond b (Some 0) (one_place_on o) ≡ Some i → cond b true (any p l) ≡ true
      go true o f e = refl
      go false None f e = absurd (let z : ◌≡◌ {A = ℕ} 0 1 = cc in omega arith)
      go false (Some j) f e = f j refl
