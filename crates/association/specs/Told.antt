-- What the updates, the births and the report are told of the pairing, as the code holds it.
use Rattle.std.specs.Prelude.{ℕ, suc, ◌+◌, ◌*◌, ◌≤◌, ◌<◌, ◌≡◌, true, false, cond, List, [], ◌∷◌, ltb, Float, length, take, get_or, replicate, None, Option, Some, slice_get}
use Rattle.std.specs.Float.{nan}
use Rattle.lists.specs.Masks.{zipped}
use Rattle.lists.specs.Lay.{lay}
use Rattle.detections.specs.declared.Detection.{Detection}
use Rattle.detections.specs.declared.pairs.PairConfig.{PairConfig}
use Rattle.kuhn_munkres.specs.Takers.{free}
use Rattle.calls.specs.Update.{Match, Column, entry_of}
use Rattle.pairing.specs.declared.Row.{Row}
use Rattle.pairing.specs.Rows.{price_reply}
use Rattle.association.specs.declared.Pair.{Pair}

-- ---- the detection of each track

-- that of the track at i, by its place among the detections; 64 and more is none
abbrev pub mate_of : List ℕ → List Detection → ℕ → Option Detection
mate_of mates ds i = cond (ltb (get_or mates i 0) 64) (Some (get_or ds (get_or mates i 0) (record { position = []; covariance = []; velocity = None; class_label = None; score = None }))) None

-- ---- the track of each detection

-- a detection that no track took
abbrev pub alone : Option Pair
alone = None

abbrev pub pair_for : Option Match → Option Pair
pair_for None = None
pair_for (Some m) = Some (record { track = m.track; cost = m.cost })

abbrev pub pair_in : Column → Option Pair
pair_in c = pair_for c.pair

-- and back
abbrev pub match_for : Option Pair → Option Match
match_for None = None
match_for (Some p) = Some (record { track = p.track; cost = p.cost })

abbrev pub column_from : Option Pair → Detection → Column
column_from p d = record { pair = match_for p; detection = d }

unfoldable pub columns_from : ℕ → List (Option Pair) → List Detection → List Column
columns_from m pairs ds = zipped column_from (take m pairs) (take m ds)

-- The pair of a column, where a row takes it: `columnFor` of calls, of rows. 01, What demand 3 speaks of: "The cost is that pair's cost with prior penalty."
abbrev pub pair_with : PairConfig → Option Row → Detection → Option Pair
pair_with c None d = alone
pair_with c (Some r) d = Some (record { track = r.id; cost = entry_of (price_reply c r.target d) })

unfoldable pub pair_of : PairConfig → List Row → Option ℕ → Detection → Option Pair
pair_of c rows None d = alone
pair_of c rows (Some i) d = pair_with c (slice_get rows i) d

-- column j, which the row at i takes: its track's number, and the cost that stands in the table
abbrev pub pair_at : List ℕ → ℕ → ℕ → List Float → ℕ → ℕ → Option Pair
pair_at ids n m costs i j = cond (ltb i n) (Some (record { track = get_or ids i 0; cost = get_or costs (i * m + j) nan })) alone

-- the first k columns have their pairs, the others none
pub record PairsTold (ids : List ℕ) (n m : ℕ) (costs : List Float) (takers : List ℕ) (k : ℕ) (pairs : List (Option Pair)) : Type 0 where
  pub long : length pairs ≡ 64
  pub at : (j : ℕ) → j < k → get_or pairs j alone ≡ pair_at ids n m costs (get_or takers j 0) j
  pub rest : (j : ℕ) → k ≤ j → j < 64 → get_or pairs j alone ≡ alone

-- ---- the numbers of the tracks that took no detection, in track order: `unmatchedFrom` of calls, of numbers

unfoldable pub unmatched_of : (ℕ → Option Detection) → ℕ → List ℕ → List ℕ
unmatched_of took i [] = []
unmatched_of took i (x ∷ l) = let rest = unmatched_of took (suc i) l in elim (free (took i)) [ true ↦ x ∷ rest | false ↦ rest ]

-- ---- numbers in the front of an array, with 0 behind them

pub record Listed (l : List ℕ) (ids : List ℕ) (count : ℕ) : Type 0 where
  pub slots : ids ≡ lay l (replicate 64 0)
  pub many : count ≡ length l
