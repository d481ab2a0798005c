-- Rows as the code holds them: what the pairing reads of a track; the column of each row as a number, with 64 for none.
use Rattle.std.specs.Prelude.{ℕ, ◌<◌, ◌≡◌, Bool, List, map, ℤ, Float, length, get_or, replicate, None, Option, Some}
use Rattle.number.specs.Reply.{Reply, given, and_then, reply_or}
use Rattle.matrix.specs.Matrix.{nought}
use Rattle.kuhn_munkres.specs.Assignment.{column_of}
use Rattle.lists.specs.Each.{each}
use Rattle.detections.specs.declared.Detection.{Detection}
use Rattle.detections.specs.declared.pairs.PairConfig.{PairConfig}
use Rattle.detections.specs.declared.pairs.Target.{Target}
use Rattle.detections.specs.Pairs.{verdict_of}
use Rattle.types.specs.declared.track.Track3D.{Track3D}
use Rattle.calls.specs.Pairing.{target_for, cost_of, recent_since}
use Rattle.pairing.specs.declared.Row.{Row}

-- ---- what is read of a track

abbrev pub row_of : Track3D → Row
row_of t = record { target = target_for t; id = t.id; last_observation = t.lifecycle.last_observation }

-- a place where no track stands
abbrev pub blank_row : Row
blank_row =
    record {
      target = record { expected = record { position = replicate 3 nought; covariance = replicate 9 nought }; class_label = None; class_prior = None };
      id = 0;
      last_observation = None;
    }

abbrev pub ids_of : List Row → List ℕ
ids_of rows = map (λ r. r.id) rows

-- whether it was seen within the window: `recent` of calls, of a row
unfoldable pub recent_row : ℤ → ℤ → Row → Reply Bool
recent_row window now r = recent_since window now r.last_observation

-- the cost of a pair, from what of its track it depends on: `costReply` of calls, of a target
unfoldable pub price_reply : PairConfig → Target → Detection → Reply Float
price_reply c t d = and_then (verdict_of c t d) (λ r. given (cost_of r))

-- a row of costs for each track: `costTable` of calls, of rows
unfoldable pub row_costs : PairConfig → List Row → List Detection → Reply (List (List Float))
row_costs c rows ds = each (λ r. each (price_reply c r.target) ds) rows

-- ---- the column of each row

abbrev pub column_or : Option ℕ → ℕ
column_or None = 64
column_or (Some j) = j

-- the first column of each of 64 rows, where t has the row that takes each column
pub record Mates (t : List (Option ℕ)) (mates : List ℕ) : Type 0 where
  pub long : length mates ≡ 64
  pub at : (i : ℕ) → i < 64 → get_or mates i 0 ≡ column_or (column_of i 0 t)

-- ---- the enum in 01's terms

abbrev pub reply_of_recency : Option Bool → Reply Bool
reply_of_recency o = reply_or 8 o
