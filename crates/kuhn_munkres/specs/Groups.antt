-- The joined groups: rows and columns that allowed pairs link, directly or through others. 01, Assignment: "For all costs the joined groups and the steps of
-- `hungarian_square` fix which pairing is given." A group is named by a row, so that no column's place is ever a name: the last of its rows.
use Rattle.std.specs.Prelude.{List, [], ◌∷◌, ◌++◌, map, Bool, true, false, cond, ℕ, zero, suc, replicate, eqb, None, Option, Some}
use Rattle.lists.specs.First.{any}
use Rattle.lists.specs.Masks.{zipped}

-- The row that names each row's group, and each column's; a column that may pair with no row is in no group.
pub record Labels : Type 0 where
  pub of_rows : List ℕ
  pub of_columns : List (Option ℕ)

-- a group that the new row touches takes the new row's name
unfoldable pub relabel : List ℕ → ℕ → ℕ → ℕ
relabel hits i l = cond (any (eqb l) hits) i l

unfoldable pub relabelled : List ℕ → ℕ → Option ℕ → Option ℕ
relabelled hits i None = None
relabelled hits i (Some l) = Some (relabel hits i l)

unfoldable pub hit : Bool → Option ℕ → List ℕ → List ℕ
hit false o l = l
hit true None l = l
hit true (Some g) l = g ∷ l

module _ {F : Type 0} (finite : F → Bool) where
  -- the groups that a row touches: those of the columns that it may pair with
  unfoldable pub hits : List F → List (Option ℕ) → List ℕ
  hits [] cols = []
  hits (x ∷ row) [] = []
  hits (x ∷ row) (o ∷ cols) = hit (finite x) o (hits row cols)

  unfoldable pub joined_to : List ℕ → ℕ → F → Option ℕ → Option ℕ
  joined_to hs i x o = cond (finite x) (Some i) (relabelled hs i o)

  -- row i joins all groups that it touches
  unfoldable pub join : ℕ → List F → Labels → Labels
  join i row s = let hs = hits row s.of_columns in
      record { of_rows = map (relabel hs i) s.of_rows ++ (i ∷ []); of_columns = zipped (joined_to hs i) row s.of_columns }

  unfoldable pub joins : ℕ → List (List F) → Labels → Labels
  joins i [] s = s
  joins i (r ∷ rows) s = joins (suc i) rows (join i r s)

  -- no row yet, and each column alone
  abbrev pub alone : ℕ → Labels
  alone n = record { of_rows = []; of_columns = replicate n None }

  -- the groups of a table with n columns
  unfoldable pub labels : List (List F) → ℕ → Labels
  labels rows n = joins zero rows (alone n)

unfoldable pub is_label : ℕ → Option ℕ → Bool
is_label g None = false
is_label g (Some l) = eqb g l
