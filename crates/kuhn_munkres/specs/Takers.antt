-- Takers by column: for each column the row that takes it, or none. `some 1 ∷ none ∷ some 0 ∷ []` says that row 1 takes column 0, no row takes column 1, and
-- row 0 takes column 2.
use Rattle.std.specs.Prelude.{ℕ, Bool, true, false, List, [], ◌∷◌, eqb, None, Option, Some}

abbrev pub Takers : Type 0
Takers = List (Option ℕ)

-- no row takes the column
unfoldable pub free : {A : Type 0} → Option A → Bool
free None = true
free (Some x) = false

-- what row i took of l, which has what stands in each column
unfoldable pub taken_by : {A : Type 0} → Takers → List A → ℕ → Option A
taken_by [] l i = None
taken_by (o ∷ t) [] i = None
taken_by (None ∷ t) (x ∷ l) i = taken_by t l i
taken_by (Some r ∷ t) (x ∷ l) i = let rest = taken_by t l i in elim (eqb i r) [ true ↦ Some x | false ↦ rest ]

-- the takers of a second pairing put into the columns that the first one left free
unfoldable pub both_takers : Takers → Takers → Takers
both_takers [] l = []
both_takers (Some i ∷ t) l = Some i ∷ both_takers t l
both_takers (None ∷ t) [] = None ∷ both_takers t []
both_takers (None ∷ t) (o ∷ l) = o ∷ both_takers t l
