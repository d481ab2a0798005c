-- A table is an array with a count, read as the list of its first places, whatever the count says. What is done with such a list.
use Rattle.std.specs.Prelude.{ℕ, ◌-◌, cond, List, [], ◌∷◌, ◌++◌, ltb, length, take, drop, set, None, Option, Some, slice_get}
use Rattle.lists.specs.Lay.{lay}

pub record Table (A : Type 0) : Type 0 where
  pub array : List A
  pub count : ℕ

module _ {A : Type 0} where
  abbrev pub table : List A → ℕ → Table A
  table a n = record { array = a; count = n }

  -- a list in the table's first places; those behind it are as they were
  abbrev pub over_table : List A → List A → Table A
  over_table l a = table (lay l a) (length l)

  -- x behind the others, where there is room for it
  unfoldable pub pushed : ℕ → A → List A → List A
  pushed most x l = cond (ltb (length l) most) (l ++ (x ∷ [])) l

  -- x before the one at i
  abbrev pub inserted : ℕ → A → List A → List A
  inserted i x l = take i l ++ (x ∷ drop i l)

  abbrev pub last_into : ℕ → List A → Option A → List A
  last_into i l None = []
  last_into i l (Some z) = take (length l - 1) (set l i z)

  -- the one at i is out, and the last one in its place; past the end there is none to take out
  unfoldable pub swap_remove : ℕ → List A → List A
  swap_remove i l = cond (ltb i (length l)) (last_into i l (slice_get l (length l - 1))) l
