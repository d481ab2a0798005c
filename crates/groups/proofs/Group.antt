-- A group by its labels: who is in its masks, the size of its own table, and the costs in it.
use Rattle.std.specs.Prelude.{None, Option, Some}
use mathlib.Core.Path.{◌≡◌, refl, sym, ap, ◌∙◌}
use mathlib.Core.Bool.{Bool, true, false, true≢false}
use mathlib.Core.List.{List, [], map}
use Prim.Native.Nat.{ℕ, zero, ◌+◌, ◌*◌, ◌<◌}
use native.Mathlib.Nat.{mul-le-mul_right}
use native.Mathlib.Omega.{arith}
use borrow.Author.Tests.{eq-eqb, eqb-true}
use lib.Dec.{eqb}
use lib.ListN.{get_or, length, drop, length-map}
use lib.Seq.{get_or-take, get_or-drop}
use lib.Ieee.{Float, nan}
use lib.Ieee.Scale.{finite}
use Rattle.lists.specs.First.{any}
use Rattle.lists.specs.Masks.{left_by, up_from}
use Rattle.lists.proofs.Masks.{any_out, up_at, up_long}
use Rattle.kuhn_munkres.specs.Groups.{is_label}
use Rattle.kuhn_munkres.specs.Assignment.{same}
use Rattle.kuhn_munkres.proofs.Rows.{rows_count, rows_at, row_long}
use Rattle.kuhn_munkres.proofs.Labels.{Named, named_all, map_at}
use Rattle.groups.specs.Picks.{picked}
use Rattle.groups.specs.Group.{table_of, labels_of, column_mask, row_mask, column_in, row_in, width, height, column_at, row_at, own_table, own_rows}
use Rattle.groups.proofs.Picking.{picked_long, picked_same, picked_map, picked_at, ticks_some}
use Rattle.groups.proofs.Masks.{left_picked}

module _ (costs : List Float) (n m : ℕ) (size : length costs ≡ n * m) where
  abbrev R : List (List Float)
  R = table_of costs n m

  pub labelled : Named finite nan refl n m (labels_of costs n m)
  labelled = named_all finite nan refl n m costs (rw size (omega arith))

  module _ (g : ℕ) where
    abbrev C : ℕ → Bool
    C = column_in costs n m g

    abbrev B : ℕ → Bool
    B = row_in costs n m g

    pub columns_long : length (column_mask costs n m g) ≡ m
    columns_long = length-map (labels_of costs n m).of_columns (is_label g) ∙ labelled.cols_long

    rows_long : length (row_mask costs n m g) ≡ n
    rows_long = length-map (labels_of costs n m).of_rows (eqb g) ∙ labelled.rows_long

    label_some : (o : Option ℕ) → is_label g o ≡ true → o ≡ Some g
    unfolding is_label
    label_some None e = absurd (true≢false (sym e))
    label_some (Some l) e = ap Some (sym (eqb-true g l e))

    pub column_label : (j : ℕ) → j < m → C j ≡ true → get_or (labels_of costs n m).of_columns j None ≡ Some g
    column_label j h e = label_some (get_or (labels_of costs n m).of_columns j None) (sym (map_at (is_label g) (labels_of costs n m).of_columns j None false (rw labelled.cols_long h)) ∙ e)

    pub label_column : (j : ℕ) → j < m → get_or (labels_of costs n m).of_columns j None ≡ Some g → C j ≡ true
    unfolding is_label
    label_column j h e = map_at (is_label g) (labels_of costs n m).of_columns j None false (rw labelled.cols_long h) ∙ ap (is_label g) e ∙ eq-eqb g g refl

    pub row_label : (i : ℕ) → i < n → B i ≡ true → get_or (labels_of costs n m).of_rows i 0 ≡ g
    row_label i h e = sym (eqb-true g (get_or (labels_of costs n m).of_rows i 0) (sym (map_at (eqb g) (labels_of costs n m).of_rows i 0 false (rw labelled.rows_long h)) ∙ e))

    pub label_row : (i : ℕ) → i < n → get_or (labels_of costs n m).of_rows i 0 ≡ g → B i ≡ true
    label_row i h e = map_at (eqb g) (labels_of costs n m).of_rows i 0 false (rw labelled.rows_long h) ∙ eq-eqb g (get_or (labels_of costs n m).of_rows i 0) (sym e)

    -- a column in the group has a row in it
    pub some_row : any same (column_mask costs n m g) ≡ true → 0 < height costs n m g
    some_row e =
        let q = any_out (column_mask costs n m g) e in
        let h : q.0 < m = rw columns_long at q.1 in
        let w = column_label q.0 h q.2 in
        ticks_some B n g (labelled.col_low q.0 g w) (label_row g (labelled.col_low q.0 g w) (labelled.col_own q.0 g w))

    pub rows_are : own_rows costs n m g ≡ picked B (λ i. i) n
    rows_are =
        left_picked 0 (row_mask costs n m g) (up_from zero R) n rows_long (up_long zero R ∙ rows_count n m costs)
        ∙ picked_same _ _ _ _ n (λ i h. refl) (λ i h. up_at zero R i (rw (rows_count n m costs) h) ∙ (let z : 0 + i ≡ i = omega arith in z))

    -- ---- its own table, of the table's costs
    own_row : (i : ℕ) → i < n → left_by (column_mask costs n m g) (get_or R i []) ≡ picked C (λ j. get_or costs (i * m + j) nan) m
    own_row i h =
        let e = rows_at n m costs i h in
        let l : length (get_or R i []) ≡ m = ap length e ∙ row_long i m costs (omega (arith, mul-le-mul_right m h, size)) in
        left_picked nan (column_mask costs n m g) (get_or R i []) m columns_long l
        ∙ picked_same _ _ _ _ m (λ j q. refl) (λ j q. ap (λ (r : List Float). get_or r j nan) e ∙ get_or-take m (drop (i * m) costs) j nan q ∙ get_or-drop (i * m) costs j nan)

    pub own_table_is : own_table costs n m g ≡ picked B (λ i. picked C (λ j. get_or costs (i * m + j) nan) m) n
    own_table_is =
        ap (map (left_by (column_mask costs n m g))) (left_picked [] (row_mask costs n m g) R n rows_long (rows_count n m costs))
        ∙ picked_map (left_by (column_mask costs n m g)) B (λ i. get_or R i []) n
        ∙ picked_same _ _ _ _ n (λ i h. refl) own_row

    pub table_long : length (own_table costs n m g) ≡ height costs n m g
    table_long = ap length own_table_is ∙ picked_long B _ n

    row_at_lem : (x : ℕ) → x < height costs n m g → get_or (own_table costs n m g) x [] ≡ picked C (λ j. get_or costs (row_at costs n m g x * m + j) nan) m
    row_at_lem x h = ap (λ (t : List (List Float)). get_or t x []) own_table_is ∙ picked_at B _ n x [] h

    pub table_wide : (x : ℕ) → x < height costs n m g → length (get_or (own_table costs n m g) x []) ≡ width costs n m g
    table_wide x h = ap length (row_at_lem x h) ∙ picked_long C _ m

    pub table_at : (x k : ℕ) → x < height costs n m g → k < width costs n m g → get_or (get_or (own_table costs n m g) x []) k nan ≡ get_or costs (row_at costs n m g x * m + column_at costs n m g k) nan
    table_at x k h l = ap (λ (t : List Float). get_or t k nan) (row_at_lem x h) ∙ picked_at C _ m k nan l
