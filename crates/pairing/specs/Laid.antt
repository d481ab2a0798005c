-- Answers laid into an array, one after another.
use Rattle.std.specs.Prelude.{ℕ, ◌≡◌, List, [], ◌∷◌}
use Rattle.std.proofs.lemmas.List.Edits.{sets}
use Rattle.number.specs.Reply.{Reply, refused, given, and_then}
use Rattle.lists.specs.Each.{each}

-- what f gives for the elements before the first that it refuses
abbrev pub ahead : {B : Type 0} → Reply B → List B → List B
ahead (refused n) l = []
ahead (given y) l = y ∷ l

unfoldable pub front : {A B : Type 0} → (A → Reply B) → List A → List B
front f [] = []
front f (x ∷ l) = ahead (f x) (front f l)

-- each element in order, its answer laid from k on; the first refusal is the reply, and what stands behind is as it was
pub record Laid {A B : Type 0} (f : A → Reply B) (l : List A) (k : ℕ) (reply : Reply (Unit {0})) (before after : List B) : Type 0 where
  pub is : reply ≡ and_then (each f l) (λ m. given tt)
  pub content : after ≡ sets before k (front f l)
