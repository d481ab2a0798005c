-- The cost table in one array. 01, Assignment: "The cost table is lent as 64-bit floats, row after row".
use Rattle.types.specs.declared.refusal.Refusal.{Refusal}
use Rattle.std.specs.Prelude.{◌≡◌, List, [], ◌∷◌, ◌++◌, Float, Option, Result, ℕ}
use Rattle.std.proofs.lemmas.List.Edits.{sets}
use Rattle.number.specs.Reply.{Reply, refused, given, and_then, reply_by}
use Rattle.matrix.specs.Matrix.{Vector, Matrix}
use Rattle.filter.specs.Filter.{distance_with}
use Rattle.detections.specs.declared.Detection.{Detection}
use Rattle.detections.specs.declared.pairs.PairConfig.{PairConfig}
use Rattle.detections.specs.declared.pairs.Target.{Target}
use Rattle.detections.specs.Pairs.{ruled}
use Rattle.types.specs.Refusals.{number_of}
use Rattle.calls.specs.Pairing.{cost_of}
use Rattle.lists.specs.Each.{each}
use Rattle.pairing.specs.declared.Row.{Row}
use Rattle.pairing.specs.Rows.{price_reply, row_costs}
use Rattle.pairing.specs.Laid.{front}

-- ---- a pair

-- the enum in 01's terms
abbrev pub reply_of_entry : Result Float Refusal → Reply Float
reply_of_entry r = reply_by number_of r

-- the cost of a pair by a factor of S
unfoldable pub priced_by : PairConfig → Target → Vector → Option ℕ → Reply Matrix → Reply Float
priced_by c t z seen factor = and_then (ruled c t.class_label t.class_prior seen (distance_with t.expected z factor)) (λ r. given (cost_of r))

-- ---- the table

-- the rows behind a row are only there where none of it is refused
abbrev pub with_rows : {C : Type 0} → Reply (List C) → List C → List C → List C
with_rows (refused n) row rest = row
with_rows (given m) row rest = row ++ rest

-- what f gives for the pairs before the first that it refuses, row after row
unfoldable pub front_rows : {A B C : Type 0} → (A → B → Reply C) → List A → List B → List C
front_rows f [] ds = []
front_rows f (t ∷ ts) ds = with_rows (each (f t) ds) (front (f t) ds) (front_rows f ts ds)

-- The reply, and the whole array afterwards, also where a pair is refused. 01, Batch: "distances of class-compatible pairs in track order, and in detection order within a track, 7, 9 not finite".
pub record Tabled (c : PairConfig) (rows : List Row) (ds : List Detection) (reply : Reply (Unit {0})) (before after : List Float) : Type 0 where
  pub is : reply ≡ and_then (row_costs c rows ds) (λ costs. given tt)
  pub content : after ≡ sets before 0 (front_rows (λ r. price_reply c r.target) rows ds)
