-- Each element changed or dropped, in order.
use Rattle.std.specs.Prelude.{List, [], ◌∷◌, None, Option, Some}

module _ {A : Type 0} where
  abbrev pub kept : Option A → List A → List A
  kept None l = l
  kept (Some x) l = x ∷ l

  unfoldable pub sift : (A → Option A) → List A → List A
  sift f [] = []
  sift f (x ∷ xs) = kept (f x) (sift f xs)
