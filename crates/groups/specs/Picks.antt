-- What a pass over numbered places keeps, in order.
use Rattle.std.specs.Prelude.{Bool, true, false, cond, List, [], ◌∷◌, ◌++◌, ℕ, zero, suc}

abbrev pub add_if : {A : Type 0} → Bool → A → List A → List A
add_if true x l = l ++ (x ∷ [])
add_if false x l = l

-- f's values at the places below n that the mask names
unfoldable pub picked : {A : Type 0} → (ℕ → Bool) → (ℕ → A) → ℕ → List A
picked m f zero = []
picked m f (suc n) = add_if (m n) (f n) (picked m f n)

-- how many places below n the mask names
unfoldable pub ticks : (ℕ → Bool) → ℕ → ℕ
ticks m zero = 0
ticks m (suc n) = cond (m n) (suc (ticks m n)) (ticks m n)
