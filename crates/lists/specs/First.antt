-- Whether a test picks any element; of the first that it picks, the place, the element, and the list with it changed.
use Rattle.std.specs.Prelude.{ℕ, suc, List, [], ◌∷◌, Bool, true, false, cond, None, Option, Some}

abbrev pub one_place_on : Option ℕ → Option ℕ
one_place_on None = None
one_place_on (Some i) = Some (suc i)

module _ {A : Type 0} where
  unfoldable pub any : (A → Bool) → List A → Bool
  any p [] = false
  any p (x ∷ xs) = cond (p x) true (any p xs)

  -- its place
  unfoldable pub first_at : (A → Bool) → List A → Option ℕ
  first_at p [] = None
  first_at p (x ∷ xs) = cond (p x) (Some 0) (one_place_on (first_at p xs))

  -- the element
  unfoldable pub first_of : (A → Bool) → List A → Option A
  first_of p [] = None
  first_of p (x ∷ xs) = cond (p x) (Some x) (first_of p xs)

  -- the list with it changed; as it was where there is none
  unfoldable pub change_first : (A → Bool) → (A → A) → List A → List A
  change_first p f [] = []
  change_first p f (x ∷ xs) = cond (p x) (f x ∷ xs) (x ∷ change_first p f xs)
