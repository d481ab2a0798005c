-- The answer's arrays: each list in front, zeros after it.
use Rattle.std.specs.Prelude.{◌≡◌, cond, List, [], ◌∷◌, ◌++◌, map, ℕ, suc, ◌+◌, ◌-◌, ◌≤◌, length, take, replicate, eqb, ltb, Float, Result, Ok, Err, IfOk, Option}
use Rattle.number.specs.Reply.{Reply, refused, given}
use Rattle.lists.specs.Masks.{zipped}
use Rattle.kuhn_munkres.specs.Assignment.{Pair, Pairs, pairs_from, free_rows, free_columns, assignment_reply}
use Rattle.least.specs.Least.{LeastOnWholes}
use Rattle.assignment.specs.Replies.{number_of}
use Rattle.assignment.specs.declared.Assignment.{Assignment}
use Rattle.assignment.specs.declared.AssignmentError.{AssignmentError}

unfoldable pub padded : List ℕ → List ℕ
padded l = l ++ replicate (64 - length l) 0

abbrev pub row_of : Pair → ℕ
row_of p = p.row

abbrev pub column_in : Pair → ℕ
column_in p = p.column

-- the struct of pairs and lists
abbrev pub assignment_of : Pairs → Assignment
assignment_of a = record {
  pair_rows = padded (map row_of a.pairs);
  pair_columns = padded (map column_in a.pairs);
  pair_count = length a.pairs;
  unmatched_rows = padded a.rows;
  unmatched_row_count = length a.rows;
  unmatched_columns = padded a.columns;
  unmatched_column_count = length a.columns;
}

-- a refusal has nothing in it
abbrev pub assignment_for : Reply Pairs → Assignment
assignment_for (refused n) = assignment_of (record { pairs = []; rows = []; columns = [] })
assignment_for (given a) = assignment_of a

abbrev pub pair_of : ℕ → ℕ → Pair
pair_of i j = record { row = i; column = j }

-- the pairs and lists that a struct holds
abbrev pub pairs_in : Assignment → Pairs
pairs_in a = record {
  pairs = zipped pair_of (take a.pair_count a.pair_rows) (take a.pair_count a.pair_columns);
  rows = take a.unmatched_row_count a.unmatched_rows;
  columns = take a.unmatched_column_count a.unmatched_columns;
}

-- how often x stands in a list
unfoldable pub times : ℕ → List ℕ → ℕ
times x [] = 0
times x (y ∷ l) = cond (eqb x y) 1 0 + times x l

-- each one above the one before, and none below k
unfoldable pub Ascending : ℕ → List ℕ → Type 0
Ascending k [] = Unit {0}
Ascending k (x ∷ l) = (k ≤ x) × Ascending (suc x) l

-- 01, Assignment: "Each row and column stands in one pair or one unmatched list; lists ascend." There are n rows and m columns.
pub record Once (n m : ℕ) (a : Pairs) : Type 0 where
  pub rows_once : (i : ℕ) → times i (map row_of a.pairs) + times i a.rows ≡ cond (ltb i n) 1 0
  pub columns_once : (j : ℕ) → times j (map column_in a.pairs) + times j a.columns ≡ cond (ltb j m) 1 0
  pub pairs_ascend : Ascending 0 (map row_of a.pairs)
  pub rows_ascend : Ascending 0 a.rows
  pub columns_ascend : Ascending 0 a.columns

-- 01's number, or the pairs and lists that a struct holds
abbrev pub pairs_reply : Result Assignment AssignmentError → Reply Pairs
pairs_reply (Ok a) = given (pairs_in a)
pairs_reply (Err why) = refused (number_of why)

-- The whole reply for n rows and m columns: 01's number or the pairs and lists; every place of the arrays; each row and column once; and on whole costs the
-- least total.
pub record AssignmentAnswer (costs : List Float) (n m : ℕ) (rowCost columnCost : Float) (r : Result Assignment AssignmentError) : Type 0 where
  pub is : pairs_reply r ≡ assignment_reply costs n m rowCost columnCost
  pub whole : IfOk r (λ a. a ≡ assignment_for (assignment_reply costs n m rowCost columnCost))
  pub once : IfOk r (λ a. Once n m (pairs_in a))
  pub least : LeastOnWholes costs n m rowCost columnCost (pairs_reply r)

-- the pairs and the rows that are left, of n rows
pub record RowsListed (takers : List (Option ℕ)) (n : ℕ) (pairRows pairColumns free : List ℕ) (count : ℕ) : Type 0 where
  pub pairs_are : pairRows ≡ padded (map row_of (pairs_from takers 0 n))
  pub columns_are : pairColumns ≡ padded (map column_in (pairs_from takers 0 n))
  pub free_are : free ≡ padded (free_rows takers 0 n)
  pub count_is : count ≡ length (pairs_from takers 0 n)
  pub all : length (pairs_from takers 0 n) + length (free_rows takers 0 n) ≡ n

pub record ColumnsListed (takers : List (Option ℕ)) (free : List ℕ) (count : ℕ) : Type 0 where
  pub free_are : free ≡ padded (free_columns 0 takers)
  pub count_is : count ≡ length (free_columns 0 takers)
