-- One group of a table: the masks of its columns and rows, these in order, and its own table, as the definition has them.
use Rattle.std.specs.Prelude.{Bool, false, List, map, ℕ, zero, eqb, get_or, Float}
use Rattle.std.specs.Float.Ieee.Scale.{finite}
use Rattle.lists.specs.Masks.{left_by, up_from}
use Rattle.kuhn_munkres.specs.Groups.{Labels, labels, is_label}
use Rattle.kuhn_munkres.specs.Assignment.{rows_of}
use Rattle.groups.specs.Picks.{picked, ticks}

module _ (costs : List Float) (n m : ℕ) where
  abbrev pub table_of : List (List Float)
  table_of = rows_of n m costs

  abbrev pub labels_of : Labels
  labels_of = labels finite table_of m

  module _ (g : ℕ) where
    abbrev pub column_mask : List Bool
    column_mask = map (is_label g) labels_of.of_columns

    abbrev pub row_mask : List Bool
    row_mask = map (eqb g) labels_of.of_rows

    abbrev pub column_in : ℕ → Bool
    column_in j = get_or column_mask j false

    abbrev pub row_in : ℕ → Bool
    row_in i = get_or row_mask i false

    -- how many columns and rows the group has
    abbrev pub width : ℕ
    width = ticks column_in m

    abbrev pub height : ℕ
    height = ticks row_in n

    -- its k-th column, its x-th row
    abbrev pub column_at : ℕ → ℕ
    column_at k = get_or (picked column_in (λ j. j) m) k 0

    abbrev pub row_at : ℕ → ℕ
    row_at x = get_or (picked row_in (λ i. i) n) x 0

    abbrev pub own_table : List (List Float)
    own_table = map (left_by column_mask) (left_by row_mask table_of)

    abbrev pub own_rows : List ℕ
    own_rows = left_by row_mask (up_from zero table_of)
