-- What the stage answers, from what its parts leave. Assumes nothing.
use Rattle.std.specs.Prelude.{Err, Ok, Result, Option}
use mathlib.Core.Path.{◌≡◌, refl, sym, ap, ◌∙◌, subst}
use mathlib.Core.List.{List, map}
use Prim.Native.Nat.{ℕ, ◌*◌, ◌≤◌, min}
use native.Mathlib.Nat.{mul-le-mul_right}
use native.Mathlib.Omega.{arith}
use lib.IntN.{ℤ}
use lib.Ieee.{Float}
use lib.ListN.{length, take}
use lib.Seq.{length-take-le, take_all}
use Rattle.number.specs.Reply.{Reply, refused, given, and_then}
use Rattle.lists.proofs.Tables.{rows as front}
use Rattle.kuhn_munkres.specs.Assignment.{rows_of, in_one}
use Rattle.number.proofs.Replies.{never_given}
use Rattle.assignment.specs.Taking.{takers_of}
use Rattle.detections.specs.declared.Detection.{Detection}
use Rattle.detections.specs.declared.pairs.PairConfig.{PairConfig}
use Rattle.types.specs.Refusals.{number_of, reply_of}
use Rattle.types.specs.declared.refusal.Refusal.{Refusal}
use Rattle.pairing.specs.declared.Row.{Row}
use Rattle.pairing.specs.Rows.{ids_of, price_reply, row_costs}
use Rattle.cost_table.specs.Table.{Tabled}
use Rattle.cost_table.proofs.Tabling.{table_rows, table_given}
use Rattle.assignment.specs.Labelling.{row_or}
use Rattle.pairing.specs.Rows.{Mates}
use Rattle.association.proofs.Columns.{told_front, pairs_all, unmatched_all}
use Rattle.matching.specs.declared.Paired.{Paired}
use Rattle.matching.specs.Takers.{rows_paired, Takes}
use Rattle.matching.specs.Stage.{rows_taken, RowsMatch, Tells}

-- the first `wanted` rows and detections are asked for; counts above 64 count as 64
module _ (rule : PairConfig) (all : List Row) (seen : List Detection) (wanted_rows wanted : ℕ) (n m : ℕ) (st : length all ≡ 64) (sd : length seen ≡ 64) (en : n ≡ min wanted_rows 64) (em : m ≡ min wanted 64) where
  hn : n ≤ 64
  hn = omega (arith, en)

  hm : m ≤ 64
  hm = omega (arith, em)

  abbrev rows : List Row
  rows = take n all

  abbrev ds : List Detection
  ds = take m seen

  rows_long : length rows ≡ n
  rows_long = length-take-le n all (omega arith)

  seen_long : length ds ≡ m
  seen_long = length-take-le m seen (omega arith)

  tells_answers : (ids : List ℕ) → take n ids ≡ take n (ids_of all) → (table : List (List Float)) (costs : List Float) → row_costs rule rows ds ≡ given table → rows_of n m (take (n * m) costs) ≡ table → (takers : List ℕ) → length takers ≡ 64
      → n ≤ length ids → (r : Paired) → Tells (take n ids) costs (take m takers) r → RowsMatch rule rows ds (given (takers_of m takers)) (Ok r)
  tells_answers ids numbers table costs e cut takers sk h r s =
      let mates : Mates (takers_of m takers) r.mates = subst (λ (l : List ℕ). Mates (map row_or l) r.mates) (take_all (length (take m takers)) (take m takers) (omega arith)) s.mates in
      record {
        takers = takers_of m takers;
        outcome = refl;
        mates = mates;
        pairs = pairs_all rule all ids seen n m st numbers sd hn hm takers sk table costs e cut r.pairs (told_front ids n m costs takers r.pairs h (omega (arith, sk)) s.pairs);
        unmatched = unmatched_all rule all ids seen n m st numbers sd hn hm takers sk r.mates r.unmatched r.unmatched_count mates s.unmatched;
      }

  -- ---- the stage

  module _ (window : Option ℤ) (now : ℤ) where
    abbrev reply : Reply (List (Option ℕ))
    reply = rows_taken rule window now rows ds

    abbrev pub Answer : Result Paired Refusal → Type 0
    Answer r = RowsMatch rule (take wanted_rows all) (take wanted seen) (rows_taken rule window now (take wanted_rows all) (take wanted seen)) r

    by_counts : (r : Result Paired Refusal) → RowsMatch rule rows ds reply r → Answer r
    by_counts r a = rw (front all 64 wanted_rows n st en, front seen 64 wanted m sd em) a

    module _ (before : List Float) (size : length before ≡ 4096) (o : Result (Unit {0}) Refusal) (costs : List Float) (tabled : Tabled rule rows ds (reply_of o) before costs) where
      -- a distance is refused
      pub stage_unpriced : (why : Refusal) → o ≡ Err why → Answer (Err why)
      unfolding rows_taken
      stage_unpriced why e = by_counts (Err why) (go (row_costs rule rows ds) refl)
        where
          is : ◌≡◌ {A = Reply (Unit {0})} (refused (number_of why)) (and_then (row_costs rule rows ds) (λ table. given (tt {0})))
          is = ap {B = Reply (Unit {0})} reply_of (sym e) ∙ tabled.is

          go : (x : Reply (List (List Float))) → row_costs rule rows ds ≡ x → and_then x (λ costs. rows_paired rule.gate_squared_mahalanobis window now rows costs (length ds)) ≡ refused (number_of why)
          go (refused k) w = let z : ◌≡◌ {A = Reply (Unit {0})} (refused (number_of why)) (refused k) = is ∙ ap (λ (x : Reply (List (List Float))). and_then x (λ table. given tt)) w in cc
          go (given table) w = never_given (number_of why) tt (is ∙ ap (λ (x : Reply (List (List Float))). and_then x (λ table. given tt)) w)

      module _ (e : o ≡ Ok tt) where
        -- the table in the array
        pub record Priced : Type 0 where
          pub table : List (List Float)
          pub given_table : row_costs rule rows ds ≡ given table
          pub cut : rows_of n m (take (n * m) costs) ≡ table

        in_rows : (table : List (List Float)) → row_costs rule rows ds ≡ given table → take (length rows * length ds) costs ≡ in_one table → rows_of n m (take (n * m) costs) ≡ table
        unfolding row_costs
        in_rows table g w =
            let size_is : length rows * length ds ≡ n * m = ap (λ (k : ℕ). k * length ds) rows_long ∙ ap (λ (k : ℕ). n * k) seen_long in
            ap (λ (k : ℕ). rows_of n m (take k costs)) (sym size_is)
            ∙ ap (rows_of n m) w
            ∙ ap (λ (k : ℕ). rows_of k m (in_one table)) (sym rows_long)
            ∙ ap (λ (k : ℕ). rows_of (length rows) k (in_one table)) (sym seen_long)
            ∙ table_rows (λ r. price_reply rule r.target) ds rows table g

        priced : Priced
        priced =
            let room : n * m ≤ 64 * m = mul-le-mul_right m hn in
            let g = table_given rule all ds before rows costs (rw (rows_long, seen_long) (omega (arith, room))) (subst (λ (q : Result (Unit {0}) Refusal). Tabled rule rows ds (reply_of q) before costs) e tabled) in
            record { table = g.0; given_table = g.1; cut = in_rows g.0 g.1 g.2 }

        taken : (p : Priced) → reply ≡ rows_paired rule.gate_squared_mahalanobis window now rows (rows_of n m (take (n * m) costs)) m
        unfolding rows_taken
        taken p =
            ap (λ (x : Reply (List (List Float))). and_then x (λ costs. rows_paired rule.gate_squared_mahalanobis window now rows costs (length ds))) p.given_table
            ∙ ap (λ (k : ℕ). rows_paired rule.gate_squared_mahalanobis window now rows p.table k) seen_long
            ∙ ap (λ (table : List (List Float)). rows_paired rule.gate_squared_mahalanobis window now rows table m) (sym p.cut)

        module _ (takers : List ℕ) (q : Result (Unit {0}) Refusal) (s : Takes m (reply_of q) takers (rows_paired rule.gate_squared_mahalanobis window now rows (rows_of n m (take (n * m) costs)) m)) where
          ends : (x : Result (Unit {0}) Refusal) → q ≡ x → reply ≡ and_then (reply_of x) (λ u. given (takers_of m takers))
          ends x w = taken priced ∙ sym s.is ∙ ap (λ (y : Result (Unit {0}) Refusal). and_then (reply_of y) (λ u. given (takers_of m takers))) w

          -- a window age or the assignment is refused
          pub stage_unpaired : (why : Refusal) → q ≡ Err why → Answer (Err why)
          stage_unpaired why w = by_counts (Err why) (ends (Err why) w)

          pub stage_told : q ≡ Ok tt → (ids : List ℕ) → take n ids ≡ take n (ids_of all) → n ≤ length ids → (r : Paired) → Tells (take n ids) costs (take m takers) r → Answer (Ok r)
          stage_told w ids numbers l r h =
              by_counts (Ok r)
              (subst (λ (x : Reply (List (Option ℕ))). RowsMatch rule rows ds x (Ok r)) (sym (ends (Ok tt) w))
              (tells_answers ids numbers priced.table costs priced.given_table priced.cut takers s.long l r h))
