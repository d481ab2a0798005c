-- What the owner of a batch reads off the stage: the rest of `matchedWith` of calls, over the arrays that `pair_tracks` gives. Assumes nothing.
use Rattle.std.specs.Prelude.{Err, Ok, None, Option, Result, Some}
use mathlib.Core.Path.{◌≡◌, refl, sym, ap, ◌∙◌, subst}
use mathlib.Core.Bool.{Bool, not}
use mathlib.Core.List.{List, [], ◌∷◌, map}
use Prim.Native.Nat.{ℕ, suc}
use native.Mathlib.Omega.{arith}
use lib.IntN.{ℤ}
use lib.Ieee.{Float}
use lib.ListN.{length, take, replicate, length-map, length-take}
use Rattle.number.specs.Reply.{Reply, refused, given, and_then}
use Rattle.settings.specs.declared.Cartesian3DTrackerConfig.{Cartesian3DTrackerConfig}
use Rattle.lists.specs.Masks.{left_by, zipped, count, up_from}
use Rattle.matrix.specs.Matrix.{nought}
use Rattle.lists.specs.Each.{each}
use Rattle.kuhn_munkres.specs.Takers.{free, taken_by, both_takers}
use Rattle.number.proofs.Replies.{bound, given_same}
use Rattle.kuhn_munkres.specs.Assignment.{in_one, named}
use Rattle.detections.specs.declared.Detection.{Detection}
use Rattle.detections.specs.declared.pairs.PairConfig.{PairConfig}
use Rattle.types.specs.Refusals.{number_of}
use Rattle.types.specs.declared.refusal.Refusal.{Refusal}
use Rattle.types.specs.declared.track.Track3D.{Track3D}
use Rattle.lists.specs.Lay.{lay}
use Rattle.calls.specs.Numbers.{numbers_of}
use Rattle.calls.specs.Pairing.{pair_config, cost_table, assigned, cascaded, recent, paired_in, paired}
use Rattle.calls.specs.Update.{Matched, column_for, unmatched_from, updated_by, updates, matched_with}
use Rattle.cascade.proofs.Cascade.{takers_long}
use Rattle.pairing.specs.declared.Row.{Row}
use Rattle.pairing.specs.Rows.{row_of, ids_of, row_costs}
use Rattle.pairing.proofs.Rows.{costs_of_rows, recent_of_rows}
use Rattle.association.specs.declared.Pair.{Pair}
use Rattle.association.specs.Told.{mate_of, alone, columns_from, unmatched_of, Listed}
use Rattle.association.proofs.Columns.{pairs_of_tracks}
use Rattle.association.proofs.Telling.{unmatched_numbers}
use Rattle.association.proofs.Ties.{each_by_mates, columns_told, listed_told}
use Rattle.matching.specs.declared.Paired.{Paired}
use Rattle.matching.specs.Takers.{rows_paired}
use Rattle.matching.specs.Stage.{takers_for, rows_taken, Matches, RowsMatch}

-- ---- the rows of tracks are paired as the tracks

paired_rows : (gate : Float) (window : Option ℤ) (now : ℤ) (ts : List Track3D) (costs : List (List Float)) (m : ℕ) → rows_paired gate window now (map row_of ts) costs m ≡ paired_in gate window now ts costs m
unfolding rows_paired paired_in
paired_rows gate None now ts costs m = refl
paired_rows gate (Some window) now ts costs m = ap (λ (r : Reply (List Bool)). and_then r (λ flags. cascaded gate flags costs m)) (recent_of_rows window now ts)

taken_rows : (rule : PairConfig) (window : Option ℤ) (now : ℤ) (ts : List Track3D) (ds : List Detection) → rows_taken rule window now (map row_of ts) ds ≡ takers_for rule window now ts ds
unfolding rows_taken takers_for
taken_rows rule window now ts ds = go (row_costs rule (map row_of ts) ds) (cost_table rule ts ds) (costs_of_rows rule ts ds)
  where
    go : (x y : Reply (List (List Float))) → x ≡ y
        → and_then x (λ costs. rows_paired rule.gate_squared_mahalanobis window now (map row_of ts) costs (length ds)) ≡ and_then y (λ costs. paired_in rule.gate_squared_mahalanobis window now ts costs (length ds))
    go x (refused n) e = ap (λ (r : Reply (List (List Float))). and_then r (λ costs. rows_paired rule.gate_squared_mahalanobis window now (map row_of ts) costs (length ds))) e
    go x (given costs) e =
        ap (λ (r : Reply (List (List Float))). and_then r (λ c. rows_paired rule.gate_squared_mahalanobis window now (map row_of ts) c (length ds))) e
        ∙ paired_rows rule.gate_squared_mahalanobis window now ts costs (length ds)

ids_of_rows : (ts : List Track3D) → ids_of (map row_of ts) ≡ numbers_of ts
ids_of_rows [] = refl
ids_of_rows (t ∷ ts) = ap {B = List ℕ} (λ l. t.id ∷ l) (ids_of_rows ts)

pub rows_matched : (rule : PairConfig) (window : Option ℤ) (now : ℤ) (ts : List Track3D) (ds : List Detection) (rows : List Row) (r : Result Paired Refusal) → rows ≡ map row_of ts
    → RowsMatch rule rows ds (rows_taken rule window now rows ds) r → Matches rule ts ds (takers_for rule window now ts ds) r
rows_matched rule window now ts ds rows r e a =
    told r
    (subst (λ (x : Reply (List (Option ℕ))). RowsMatch rule (map row_of ts) ds x r) (taken_rows rule window now ts ds) (subst (λ (q : List Row). RowsMatch rule q ds (rows_taken rule window now q ds) r) e a))
  where
    told : (x : Result Paired Refusal) → RowsMatch rule (map row_of ts) ds (takers_for rule window now ts ds) x → Matches rule ts ds (takers_for rule window now ts ds) x
    told (Err why) s = s
    told (Ok p) s =
        record {
          takers = s.takers;
          outcome = s.outcome;
          mates = s.mates;
          pairs = s.pairs ∙ ap (λ (l : List (Option Pair)). lay l (replicate 64 alone)) (pairs_of_tracks rule ts s.takers ds);
          unmatched = subst (λ (l : List ℕ). Listed l p.unmatched p.unmatched_count) (ap (unmatched_of (taken_by s.takers ds) 0) (ids_of_rows ts) ∙ unmatched_numbers (taken_by s.takers ds) 0 ts) s.unmatched;
        }

-- ---- a pairing has a taker, or none, for each detection

merged_long : (a b : List (Option ℕ)) → length (both_takers a b) ≡ length a
unfolding both_takers
merged_long [] b = refl
merged_long (Some i ∷ a) b = ap suc (merged_long a b)
merged_long (None ∷ a) [] = ap suc (merged_long a [])
merged_long (None ∷ a) (o ∷ b) = ap suc (merged_long a b)

assigned_long : (gate : Float) (rows : List (List Float)) (m : ℕ) (t : List (Option ℕ)) → assigned gate rows m ≡ given t → length t ≡ m
unfolding assigned
assigned_long gate rows m t e = takers_long (in_one rows) (length rows) m gate nought t e

cascaded_long : (gate : Float) (flags : List Bool) (rows : List (List Float)) (m : ℕ) (t : List (Option ℕ)) → cascaded gate flags rows m ≡ given t → length t ≡ m
unfolding cascaded
cascaded_long gate flags rows m t e =
    let p = bound (assigned gate (left_by flags rows) m) _ t e in
    let q = bound (assigned gate (map (left_by (map free p.0)) (left_by (map not flags) rows)) (count (map free p.0))) _ t p.2 in
    ap length (sym (given_same _ t q.2))
    ∙ merged_long (map (named (left_by flags (up_from 0 rows))) p.0) (map (named (left_by (map not flags) (up_from 0 rows))) q.0)
    ∙ length-map p.0 (named (left_by flags (up_from 0 rows)))
    ∙ assigned_long gate (left_by flags rows) m p.0 p.1

paired_long : (gate : Float) (window : Option ℤ) (now : ℤ) (ts : List Track3D) (rows : List (List Float)) (m : ℕ) (t : List (Option ℕ)) → paired_in gate window now ts rows m ≡ given t → length t ≡ m
unfolding paired_in
paired_long gate None now ts rows m t e = assigned_long gate rows m t e
paired_long gate (Some window) now ts rows m t e = let p = bound (each (recent window now) ts) _ t e in cascaded_long gate p.0 rows m t p.2

pub takers_for_long : (rule : PairConfig) (window : Option ℤ) (now : ℤ) (ts : List Track3D) (ds : List Detection) (t : List (Option ℕ)) → takers_for rule window now ts ds ≡ given t → length t ≡ length ds
unfolding takers_for
takers_for_long rule window now ts ds t e = let p = bound (cost_table rule ts ds) _ t e in paired_long rule.gate_squared_mahalanobis window now ts p.0 (length ds) t p.2

-- ---- the rest of a batch's stage 6

module _ (c : Cartesian3DTrackerConfig) (sensor : ℕ) (now : ℤ) (tracks : List Track3D) (n : ℕ) (seen : List Detection) (m : ℕ) (st : length tracks ≡ 64) (sd : length seen ≡ 64) where
  abbrev ts : List Track3D
  ts = take n tracks

  abbrev ds : List Detection
  ds = take m seen

  -- the stage's reply under the settings: "paired" of calls
  abbrev reply : Reply (List (Option ℕ))
  reply = takers_for (pair_config c) (c.recent_track_window_ns) now ts ds

  abbrev rest : List (Option ℕ) → Reply Matched
  rest takers = and_then (updates c sensor now (taken_by takers ds) ts) (λ us. given (record { tracks = us; columns = zipped (column_for (pair_config c) ts) takers ds; unmatched = unmatched_from (taken_by takers ds) 0 ts }))

  pub matched_stage : matched_with c sensor now ds ts ≡ and_then reply rest
  unfolding matched_with takers_for paired
  matched_stage = go (cost_table (pair_config c) ts ds)
    where
      go : (x : Reply (List (List Float))) → and_then x (λ rows. and_then (paired c now ts rows (length ds)) rest) ≡ and_then (and_then x (λ rows. paired c now ts rows (length ds))) rest
      go (refused k) = refl
      go (given rows) = refl

  pub stage_refused : (why : Refusal) → Matches (pair_config c) ts ds reply (Err why) → matched_with c sensor now ds ts ≡ refused (number_of why)
  stage_refused why a = matched_stage ∙ ap (λ (x : Reply (List (Option ℕ))). and_then x rest) a

  -- all that is left of `matchedWith`: the updates by the mates, and what was told
  pub stage_given : (r : Paired) → Matches (pair_config c) ts ds reply (Ok r)
      → matched_with c sensor now ds ts
      ≡ and_then (updates c sensor now (mate_of r.mates seen) ts) (λ us. given (record { tracks = us; columns = columns_from m r.pairs seen; unmatched = take r.unmatched_count r.unmatched }))
  unfolding updates
  stage_given r a =
      let long = takers_for_long (pair_config c) (c.recent_track_window_ns) now ts ds a.takers a.outcome in
      matched_stage
      ∙ ap (λ (x : Reply (List (Option ℕ))). and_then x rest) a.outcome
      ∙ rw (
        columns_told (pair_config c) ts seen m sd a.takers long r.pairs a.pairs,
        listed_told (unmatched_from (taken_by a.takers ds) 0 ts) r.unmatched r.unmatched_count a.unmatched,
        each_by_mates a.takers r.mates seen m a.mates sd long (updated_by c sensor now) ts (let q = length-take n tracks in omega arith),
      )
