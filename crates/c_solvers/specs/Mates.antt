-- The assignment as a C caller sees it: for each row the column that it is paired with.
use Rattle.std.specs.Prelude.{◌≡◌, Bool, cond, ◌&&◌, List, [], ◌∷◌, ◌++◌, map, ℕ, zero, suc, ◌≤◌, length, get_or, take, eqb, ltb, leb, Float, Option}
use Rattle.number.specs.Reply.{Reply, refused, given, code_of, refuse_unless}
use Rattle.lists.specs.Lay.{lay}
use Rattle.kuhn_munkres.specs.Assignment.{Pair, Pairs, pairs_from, assignment_reply}
use Rattle.whole.specs.Integer.{Integer, ◌≤Z◌}
use Rattle.least.specs.Least.{Pairing, total, allowed_in, WholeCosts}
use Rattle.assignment.specs.Listing.{padded, row_of, column_in}

-- 2⁶⁴ − 1, for a row that is left alone
abbrev pub alone : ℕ
alone = 0xffff_ffff_ffff_ffff

-- the column that row i is paired with
unfoldable pub mate_of : List Pair → ℕ → ℕ
mate_of [] i = alone
mate_of (p ∷ l) i = let r = mate_of l i in cond (eqb p.row i) p.column r

-- those of rows 0, 1, .., n of them
unfoldable pub mates_of : List Pair → ℕ → List ℕ
mates_of l zero = []
mates_of l (suc n) = mates_of l n ++ (mate_of l n ∷ [])

-- What the call answers: 11 also where there is no room for each row's mate, before 9 and 10.
unfoldable pub mates_reply : List Float → ℕ → ℕ → Float → Float → ℕ → Reply Pairs
mates_reply costs n m rowCost columnCost room = refuse_unless (leb n room) 11 (assignment_reply costs n m rowCost columnCost)

-- 01, What each call declines: "A refusal answers its number and changes nothing lent or held." Otherwise the first n places have the rows' mates, and those
-- behind them are as they were.
abbrev pub mates_after : ℕ → Reply Pairs → List ℕ → List ℕ
mates_after n (refused k) before = before
mates_after n (given a) before = lay (mates_of a.pairs n) before

-- the pairs that the mates of rows i, i + 1, .. tell
unfoldable pub pairs_told : ℕ → List ℕ → List Pair
pairs_told i [] = []
pairs_told i (c ∷ l) = let later = pairs_told (suc i) l in cond (eqb c alone) later (record { row = i; column = c } ∷ later)

-- a call whose code is 0, and whose mates tell a pairing of least total
pub record LeastMates (costs : List Float) (n m : ℕ) (cost : ℕ → ℕ → Integer) (row column : Integer) (r : ℕ) (after : List ℕ) : Type 0 where
  pub answered : r ≡ 0
  pub pairing : Pairing (allowed_in costs m) n m (pairs_told 0 (take n after))
  pub least : (other : List Pair) → Pairing (allowed_in costs m) n m other → total cost row column n m (pairs_told 0 (take n after)) ≤Z total cost row column n m other

-- the whole call: its code, what stands in mates afterwards, and, where there is room, the least total on whole costs
pub record AssignmentCall (costs : List Float) (n m : ℕ) (rowCost columnCost : Float) (r : ℕ) (before after : List ℕ) : Type 0 where
  pub code : r ≡ code_of (mates_reply costs n m rowCost columnCost (length before))
  pub mates : after ≡ mates_after n (mates_reply costs n m rowCost columnCost (length before)) before
  pub least : n ≤ length before → (cost : ℕ → ℕ → Integer) (row column : Integer) → WholeCosts costs n m rowCost columnCost cost row column → LeastMates costs n m cost row column r after

-- ---- the walk over the rows, beside the pairs by ascending row
-- the k-th of count pairs is row i's
abbrev pub hits : List ℕ → ℕ → ℕ → ℕ → Bool
hits pairRows count k i = ltb k count && eqb (get_or pairRows k 0) i

-- the arrays hold the pairs of n rows, for some takers of the columns
pub record PairsHeld (t : List (Option ℕ)) (n : ℕ) (pairRows pairColumns : List ℕ) (count : ℕ) : Type 0 where
  pub rows_are : pairRows ≡ padded (map row_of (pairs_from t 0 n))
  pub columns_are : pairColumns ≡ padded (map column_in (pairs_from t 0 n))
  pub count_is : count ≡ length (pairs_from t 0 n)

pub record MatesWritten (n : ℕ) (pairRows pairColumns : List ℕ) (count : ℕ) (before after : List ℕ) : Type 0 where
  pub is : (t : List (Option ℕ)) → PairsHeld t n pairRows pairColumns count → after ≡ lay (mates_of (pairs_from t 0 n) n) before
