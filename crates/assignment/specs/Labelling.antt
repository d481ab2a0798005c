-- The labels of the definition as numbers of the items: rows first, then columns. What joining one row with its columns, one after the other, makes of them.
use Rattle.std.specs.Prelude.{◌≡◌, Bool, false, cond, ◌&&◌, ◌||◌, List, map, ℕ, zero, suc, ◌+◌, ◌-◌, ◌≤◌, ◌<◌, get_or, length, take, eqb, ltb, Float, None, Option, Some}
use Rattle.std.specs.Float.{nan}
use Rattle.std.specs.Float.Ieee.Scale.{finite}
use Rattle.kuhn_munkres.specs.Groups.{Labels, labels}
use Rattle.kuhn_munkres.specs.Assignment.{rows_of}
use Rattle.assignment.specs.Forest.{Forest, Ranked, Labelled}

-- whether column j of the row that begins at `at` may pair
abbrev pub allowed_at : List Float → ℕ → ℕ → Bool
allowed_at costs at j = finite (get_or costs (at + j) nan)

-- whether one of the first j columns that may pair has the label l; the columns' items begin at base
unfoldable pub touched : (ℕ → Bool) → (ℕ → ℕ) → ℕ → ℕ → ℕ → Bool
touched allowed label base zero l = false
touched allowed label base (suc j) l = (allowed j && eqb (label (base + j)) l) || touched allowed label base j l

-- the labels once row i is joined with the first j of its columns
abbrev pub row_label : (ℕ → Bool) → (ℕ → ℕ) → ℕ → ℕ → ℕ → ℕ → ℕ
row_label allowed label base i j z = cond (touched allowed label base j (label z)) i (label z)

-- these ranks rise, and there is room for n more
pub record Roomy (n : ℕ) (par rank : List ℕ) : Type 0 where
  pub k : ℕ
  pub forest : Forest k par rank
  pub room : k + n < 5000

pub record RowJoined (costs : List Float) (at base i j : ℕ) (par rank par' rank' : List ℕ) : Type 0 where
  pub forest : (k : ℕ) → Forest k par rank → Forest (k + j) par' rank'
  pub joined : (label : ℕ → ℕ) → Labelled label par → label i ≡ i → Labelled (row_label (allowed_at costs at) label base i j) par'

-- a column's label, or its item where it is alone
abbrev pub or_item : ℕ → Option ℕ → ℕ
or_item x None = x
or_item x (Some l) = l

-- the label of item x, of n rows, where s has those of the first rows and of the columns
unfoldable pub item_label : ℕ → Labels → ℕ → ℕ
item_label n s x = cond (ltb x (length s.of_rows)) (get_or s.of_rows x 0) (cond (ltb x n) x (or_item x (get_or s.of_columns (x - n) None)))

-- each item its own parent
pub record Alone (par : List ℕ) : Type 0 where
  pub long : length par ≡ 128
  pub own : (x : ℕ) → x < 128 → get_or par x 0 ≡ x

-- the trees are the groups of n rows of m costs
pub record Grouped (costs : List Float) (n m : ℕ) (par rank : List ℕ) : Type 0 where
  pub ranked : Ranked par rank
  pub labelled : Labelled (item_label n (labels finite (rows_of n m costs) m)) par

-- the last row of each tree, at its root; 64 where it has none
pub record LastRows (label : ℕ → ℕ) (i : ℕ) (par last : List ℕ) : Type 0 where
  pub long : length last ≡ 128
  pub least : (r k : ℕ) → r < 128 → get_or par r 0 ≡ r → k < i → label k ≡ label r → (k ≤ get_or last r 0) × (get_or last r 0 < i)
  pub from : (r : ℕ) → r < 128 → get_or par r 0 ≡ r → get_or last r 0 < 64 → (get_or last r 0 < i) × (label (get_or last r 0) ≡ label r)
  pub most : (r : ℕ) → get_or last r 0 ≤ 64

-- what a pass over the rows leaves: the same trees, and the last row of each
pub record Passed (n : ℕ) (par rank par' last : List ℕ) : Type 0 where
  pub ranked : Ranked par' rank
  pub kept : (label : ℕ → ℕ) → Labelled label par → Labelled label par' × LastRows label n par' last

-- v is what stands at the root of x's tree
pub record AtRoot (last par : List ℕ) (label : ℕ → ℕ) (x v : ℕ) : Type 0 where
  pub r : ℕ
  pub inside : r < 128
  pub root : get_or par r 0 ≡ r
  pub same : label r ≡ label x
  pub is : v ≡ get_or last r 0

-- what stands at the roots of items base, base + 1, .., n of them
pub record ReadOff (base n : ℕ) (par rank last par' names : List ℕ) : Type 0 where
  pub ranked : Ranked par' rank
  pub long : length names ≡ 64
  pub roots : (y : ℕ) → y < 128 → get_or par' y 0 ≡ y → get_or par y 0 ≡ y
  pub kept : (label : ℕ → ℕ) → Labelled label par → Labelled label par'
  pub at : (label : ℕ → ℕ) → Labelled label par → (x : ℕ) → x < n → AtRoot last par label (base + x) (get_or names x 0)

-- 64 stands for no row
abbrev pub row_or : ℕ → Option ℕ
row_or x = cond (ltb x 64) (Some x) None

-- the groups' names: of each row, and of each column
pub record NamedBy (s : Labels) (n m : ℕ) (rowLabels columnLabels : List ℕ) : Type 0 where
  pub of_rows_lem : take n rowLabels ≡ s.of_rows
  pub of_columns_lem : map row_or (take m columnLabels) ≡ s.of_columns
