-- Replies for each element of a list: the list of what was given, or the first refusal.
use Rattle.std.specs.Prelude.{ℕ, suc, List, [], ◌∷◌}
use Rattle.number.specs.Reply.{Reply, given, and_then}

-- each element in order
unfoldable pub each : {A B : Type 0} → (A → Reply B) → List A → Reply (List B)
each f [] = given []
each f (x ∷ l) = and_then (f x) (λ y. and_then (each f l) (λ m. given (y ∷ m)))

-- the same, by a step that also knows the element's place, from i on
unfoldable pub each_at : {A B : Type 0} → (ℕ → A → Reply B) → ℕ → List A → Reply (List B)
each_at f i [] = given []
each_at f i (x ∷ l) = and_then (f i x) (λ y. and_then (each_at f (suc i) l) (λ m. given (y ∷ m)))
