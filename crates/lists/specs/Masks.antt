-- Masks: which elements of a list stay, and what is put back at those that stayed.
use Rattle.std.specs.Prelude.{List, [], ◌∷◌, ◌≡◌, Bool, true, false, ℕ, zero, suc, None, Option}

module _ {A : Type 0} where
  -- What the mask leaves of a list: `true` stays. 01's "striking .. leaves".
  unfoldable pub left_by : List Bool → List A → List A
  left_by [] l = []
  left_by (b ∷ k) [] = []
  left_by (true ∷ k) (x ∷ l) = x ∷ left_by k l
  left_by (false ∷ k) (x ∷ l) = left_by k l

  -- the elements of l, in order, at the places of t that the mask names
  unfoldable pub spread : List Bool → List A → List A → List A
  spread [] l t = t
  spread (b ∷ m) l [] = []
  spread (true ∷ m) [] (o ∷ t) = o ∷ spread m [] t
  spread (true ∷ m) (x ∷ l) (o ∷ t) = x ∷ spread m l t
  spread (false ∷ m) l (o ∷ t) = o ∷ spread m l t

  -- the mask is as long as the list, and R holds of each one that it strikes
  unfoldable pub Struck : (A → Type 0) → List Bool → List A → Type 0
  Struck R [] [] = Unit {0}
  Struck R [] (x ∷ l) = ⊥
  Struck R (b ∷ k) [] = ⊥
  Struck R (true ∷ k) (x ∷ l) = Struck R k l
  Struck R (false ∷ k) (x ∷ l) = R x × Struck R k l

  abbrev pub Absent : Option A → Type 0
  Absent o = o ≡ None

  -- R holds of every one
  unfoldable pub Every : (A → Type 0) → List A → Type 0
  Every R [] = Unit {0}
  Every R (x ∷ l) = R x × Every R l

-- how many stay
unfoldable pub count : List Bool → ℕ
count [] = zero
count (true ∷ k) = suc (count k)
count (false ∷ k) = count k

-- k, k + 1, .., as many as the list has
unfoldable pub up_from : {A : Type 0} → ℕ → List A → List ℕ
up_from k [] = []
up_from k (x ∷ l) = k ∷ up_from (suc k) l

unfoldable pub zipped : {A B C : Type 0} → (A → B → C) → List A → List B → List C
zipped f [] m = []
zipped f (x ∷ l) [] = []
zipped f (x ∷ l) (y ∷ m) = f x y ∷ zipped f l m
