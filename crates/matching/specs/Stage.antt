-- The pairing stage of a batch as one answer. 01, Batch: "distances of class-compatible pairs in track order, and in detection order within a track, 7, 9 not finite; 8 a window age overflows; 10 the
-- assignment's smallest step isn't finite".
use Rattle.std.specs.Prelude.{ℕ, ◌≡◌, List, [], map, ℤ, Float, length, replicate, Err, Ok, Option, Result}
use Rattle.number.specs.Reply.{Reply, refused, given, and_then}
use Rattle.lists.specs.Lay.{lay}
use Rattle.lists.specs.Masks.{zipped}
use Rattle.kuhn_munkres.specs.Takers.{taken_by}
use Rattle.detections.specs.declared.Detection.{Detection}
use Rattle.detections.specs.declared.pairs.PairConfig.{PairConfig}
use Rattle.types.specs.Refusals.{number_of}
use Rattle.types.specs.declared.refusal.Refusal.{Refusal}
use Rattle.types.specs.declared.track.Track3D.{Track3D}
use Rattle.assignment.specs.Taking.{takers_of}
use Rattle.calls.specs.Pairing.{cost_table, paired_in}
use Rattle.calls.specs.Update.{Column, column_for, unmatched_from}
use Rattle.pairing.specs.declared.Row.{Row}
use Rattle.pairing.specs.Rows.{Mates, ids_of, row_costs}
use Rattle.association.specs.declared.Pair.{Pair}
use Rattle.association.specs.Told.{mate_of, alone, pair_in, pair_of, PairsTold, unmatched_of, Listed}
use Rattle.matching.specs.declared.Paired.{Paired}
use Rattle.matching.specs.Takers.{rows_paired}

-- the track that takes each detection: the cost table, then the pairing
unfoldable pub takers_for : PairConfig → Option ℤ → ℤ → List Track3D → List Detection → Reply (List (Option ℕ))
takers_for rule window now ts ds = and_then (cost_table rule ts ds) (λ rows. paired_in rule.gate_squared_mahalanobis window now ts rows (length ds))

-- ---- what it tells of the takers

abbrev pub columns_in : PairConfig → List Track3D → List Detection → List (Option ℕ) → List Column
columns_in rule ts ds takers = zipped (column_for rule ts) takers ds

abbrev pub unmatched_in : List Track3D → List Detection → List (Option ℕ) → List ℕ
unmatched_in ts ds takers = unmatched_from (taken_by takers ds) 0 ts

-- ---- the same of rows: what pair_tracks reads of the tracks

unfoldable pub rows_taken : PairConfig → Option ℤ → ℤ → List Row → List Detection → Reply (List (Option ℕ))
rows_taken rule window now rows ds = and_then (row_costs rule rows ds) (λ costs. rows_paired rule.gate_squared_mahalanobis window now rows costs (length ds))

abbrev pub pairs_in : PairConfig → List Row → List Detection → List (Option ℕ) → List (Option Pair)
pairs_in rule rows ds takers = zipped (pair_of rule rows) takers ds

abbrev pub ids_left : List Row → List Detection → List (Option ℕ) → List ℕ
ids_left rows ds takers = unmatched_of (taken_by takers ds) 0 (ids_of rows)

-- ---- the whole answer: the number of a refusal, or takers, and each place of the arrays that tell of them

pub record Settles (reply : Reply (List (Option ℕ))) (told : List (Option ℕ) → List (Option Pair)) (left : List (Option ℕ) → List ℕ) (r : Paired) : Type 0 where
  pub takers : List (Option ℕ)
  pub outcome : reply ≡ given takers
  pub mates : Mates takers r.mates
  pub pairs : r.pairs ≡ lay (told takers) (replicate 64 alone)
  pub unmatched : Listed (left takers) r.unmatched r.unmatched_count

abbrev pub Matches : PairConfig → List Track3D → List Detection → Reply (List (Option ℕ)) → Result Paired Refusal → Type 0
Matches rule ts ds reply (Ok r) = Settles reply (λ takers. map pair_in (columns_in rule ts ds takers)) (unmatched_in ts ds) r
Matches rule ts ds reply (Err why) = reply ≡ refused (number_of why)

abbrev pub RowsMatch : PairConfig → List Row → List Detection → Reply (List (Option ℕ)) → Result Paired Refusal → Type 0
RowsMatch rule rows ds reply (Ok r) = Settles reply (pairs_in rule rows ds) (ids_left rows ds) r
RowsMatch rule rows ds reply (Err why) = reply ≡ refused (number_of why)

-- ---- its end: takers and costs, as the code holds them, and what is told of them

pub record Tells (ids : List ℕ) (costs : List Float) (takers : List ℕ) (r : Paired) : Type 0 where
  pub mates : Mates (takers_of (length takers) takers) r.mates
  pub pairs : PairsTold ids (length ids) (length takers) costs takers (length takers) r.pairs
  pub unmatched : Listed (unmatched_of (mate_of r.mates []) 0 ids) r.unmatched r.unmatched_count
