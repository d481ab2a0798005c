-- The whole of `linear_assignment`: refusals, sentinel, groups, each group's own square and its steps, pairs and lists.
use Rattle.std.specs.Prelude.{List, [], ◌∷◌, ◌++◌, map, Bool, true, false, cond, ◌&&◌, ℕ, zero, suc, ◌+◌, ◌*◌, length, get_or, take, drop, replicate, eqb, ltb, leb, Float, None, Option, Some}
use Rattle.std.specs.Float.{binary64}
use Rattle.std.specs.Float.Ieee.{add, mul, of_bits}
use Rattle.std.specs.Float.Ieee.Scale.{finite}
use Rattle.number.specs.Reply.{Reply, refused, given, and_then, refuse_unless}
use Rattle.number.specs.Float.{absolute_of, larger_of}
use Rattle.kuhn_munkres.specs.Ops.{Ops}
use Rattle.kuhn_munkres.specs.Steps.{Search, found, stopped, spent, rows}
use Rattle.kuhn_munkres.specs.Square.{Square, entry}
use Rattle.kuhn_munkres.specs.Binary64.{float}
use Rattle.lists.specs.First.{any}
use Rattle.lists.specs.Masks.{left_by, spread, up_from}
use Rattle.kuhn_munkres.specs.Groups.{Labels, labels, is_label}
use Rattle.kuhn_munkres.specs.Takers.{Takers}

-- ---- the table
-- 01, Assignment: "The cost table is lent as 64-bit floats, row after row": its first n rows of w costs each
unfoldable pub rows_of : {F : Type 0} → ℕ → ℕ → List F → List (List F)
rows_of zero w l = []
rows_of (suc n) w l = take w l ∷ rows_of n w (drop w l)

-- a table, row after row
unfoldable pub in_one : {F : Type 0} → List (List F) → List F
in_one [] = []
in_one (r ∷ rows) = r ++ in_one rows

-- ---- the sentinel: one for the call, over all finite costs and both unmatched costs
unfoldable pub largest : Float → List Float → Float
largest m [] = m
largest m (x ∷ l) = largest (cond (finite x) (larger_of m x) m) l

unfoldable pub largest_of : Float → List (List Float) → Float
largest_of m [] = m
largest_of m (r ∷ rows) = largest_of (largest m r) rows

-- m + larger(|m|, 1) × 1e6 + 1e9, left to right
unfoldable pub sentinel_of : Float → Float
sentinel_of m = add binary64 (add binary64 m (mul binary64 (larger_of (absolute_of m) (of_bits binary64 0x3ff0_0000_0000_0000)) (of_bits binary64 0x412e_8480_0000_0000))) (of_bits binary64 0x41cd_cd65_0000_0000)

-- ---- one group, by the columns of its own table: the row that takes each, or none
-- `rows` counts from 1; a dummy row takes no column
unfoldable pub taker_of : ℕ → ℕ → Option ℕ
taker_of n zero = None
taker_of n (suc i) = cond (ltb i n) (Some i) None

-- 01, Assignment (refusals): "10 .. a step not finite". That the turns are never spent is a law (proofs/Ends).
unfoldable pub takers_in : {N : Type 0} → Square N → Search N → Reply Takers
takers_in q (found s) = given (map (taker_of q.rows) (take q.cols (drop 1 s.p)))
takers_in q stopped = refused 10
takers_in q spent = refused 10

unfoldable pub solved : {N : Type 0} → Ops N → Square N → Reply Takers
solved O q = takers_in q (rows O (entry O q) (q.rows + q.cols) (q.rows + q.cols))

abbrev pub width_of : {F : Type 0} → List (List F) → ℕ
width_of table = length (get_or table 0 [])

-- a group's own table as its square, with the sentinel and both unmatched costs
abbrev pub square_of : {F : Type 0} → F → F → F → List (List F) → Square F
square_of far rowCost columnCost table = record { costs = in_one table; rows = length table; cols = width_of table; far = far; row = rowCost; col = columnCost }

-- ---- all groups, by the columns of the whole table
unfoldable pub named : List ℕ → Option ℕ → Option ℕ
named names None = None
named names (Some i) = Some (get_or names i 0)

abbrev pub same : Bool → Bool
same b = b

module _ {F : Type 0} (dense : List (List F) → Reply Takers) where
  -- one group, of the rows and columns that the masks name: nothing where it has no column
  unfoldable pub group_in : Bool → List (List F) → List ℕ → List Bool → List Bool → Takers → Reply Takers
  group_in false rows names rm cm t = given t
  group_in true rows names rm cm t = and_then (dense (map (left_by cm) (left_by rm rows))) (λ own. given (spread cm (map (named (left_by rm names)) own) t))

  -- group after group, each put at its own columns
  unfoldable pub groups : List (List F) → Labels → List ℕ → Takers → Reply Takers
  groups rows s [] t = given t
  groups rows s (g ∷ gs) t = let cm = map (is_label g) s.of_columns in
      and_then (group_in (any same cm) rows (up_from zero rows) (map (eqb g) s.of_rows) cm t) (groups rows s gs)

-- the row that takes each of n columns of a table, or none
unfoldable pub pairing : Float → Float → List (List Float) → ℕ → Reply Takers
pairing rowCost columnCost rows n =
    let far = sentinel_of (largest_of (larger_of rowCost columnCost) rows) in
    groups (λ table. solved float (square_of far rowCost columnCost table)) rows (labels finite rows n) (up_from zero rows) (replicate n None)

-- ---- the call
-- 01, Assignment (refusals): "11 over 64 rows or columns; 9 an unmatched cost not finite; 10 table length isn't rows × columns, or a step not finite."
unfoldable pub takers_reply : List Float → ℕ → ℕ → Float → Float → Reply Takers
takers_reply costs n m rowCost columnCost =
    refuse_unless (leb n 64 && leb m 64) 11
    (refuse_unless (finite rowCost && finite columnCost) 9
    (refuse_unless (eqb (length costs) (n * m)) 10
    (pairing rowCost columnCost (rows_of n m costs) m)))

-- ---- pairs and lists. 01, Assignment: "Each row and column stands in one pair or one unmatched list; lists ascend."
pub record Pair : Type 0 where
  pub row : ℕ
  pub column : ℕ

pub record Pairs : Type 0 where
  pub pairs : List Pair
  pub rows : List ℕ
  pub columns : List ℕ

-- the column, from k on, that row i takes
unfoldable pub column_of : ℕ → ℕ → Takers → Option ℕ
column_of i k [] = None
column_of i k (o ∷ t) = let r = column_of i (suc k) t in cond (is_label i o) (Some k) r

unfoldable pub pair_at : ℕ → Option ℕ → List Pair → List Pair
pair_at i None l = l
pair_at i (Some j) l = record { row = i; column = j } ∷ l

unfoldable pub free_at : ℕ → Option ℕ → List ℕ → List ℕ
free_at i None l = i ∷ l
free_at i (Some j) l = l

-- rows i, i + 1, .., n of them
unfoldable pub pairs_from : Takers → ℕ → ℕ → List Pair
pairs_from t i zero = []
pairs_from t i (suc n) = pair_at i (column_of i 0 t) (pairs_from t (suc i) n)

unfoldable pub free_rows : Takers → ℕ → ℕ → List ℕ
free_rows t i zero = []
free_rows t i (suc n) = free_at i (column_of i 0 t) (free_rows t (suc i) n)

unfoldable pub free_columns : ℕ → Takers → List ℕ
free_columns k [] = []
free_columns k (o ∷ t) = free_at k o (free_columns (suc k) t)

unfoldable pub pairs_of : ℕ → Takers → Pairs
pairs_of n t = record { pairs = pairs_from t 0 n; rows = free_rows t 0 n; columns = free_columns 0 t }

-- what `linear_assignment` answers
unfoldable pub assignment_reply : List Float → ℕ → ℕ → Float → Float → Reply Pairs
assignment_reply costs n m rowCost columnCost = and_then (takers_reply costs n m rowCost columnCost) (λ t. given (pairs_of n t))
