-- What a pair costs by the factor that is held, and what of the detections the table reads. Assumes nothing.
use Rattle.std.specs.Prelude.{Option}
use Rattle.cholesky.specs.declared.Lower.{Lower}
use mathlib.Core.Path.{◌≡◌, refl, sym, ap, ◌∙◌, subst}
use mathlib.Core.Bool.{Bool, true, false}
use mathlib.Core.List.{List, [], ◌∷◌, map}
use lib.Ieee.{Float}
use Prim.Native.Nat.{ℕ, ◌<◌}
use lib.ListN.{get_or}
use lib.Seq.{sets}
use Rattle.number.specs.Reply.{Reply, given, and_then}
use Rattle.matrix.specs.Matrix.{Vector, Matrix}
use Rattle.lists.specs.Each.{each}
use Rattle.cholesky.specs.Factor.{reply_of_factor}
use Rattle.filter.specs.Filter.{factor_from, distance_with}
use Rattle.filter.proofs.Split.{distance_factored}
use Rattle.detections.specs.declared.Detection.{Detection}
use Rattle.detections.specs.declared.pairs.PairConfig.{PairConfig}
use Rattle.detections.specs.declared.pairs.Target.{Target}
use Rattle.detections.specs.declared.pairs.Rule.TheVariants.{Classes}
use Rattle.detections.specs.declared.pairs.Ruling.{Ruling}
use Rattle.detections.specs.declared.pairs.Ruling.TheVariants.{Forbidden}
use Rattle.detections.specs.Pairs.{compatible, measured, ruled, verdict_of}
use Rattle.detections.proofs.Rules.{classes_forbid, distance_decides}
use Rattle.calls.specs.Pairing.{cost_of}
use Rattle.pairing.specs.declared.Row.{Row}
use Rattle.pairing.specs.Rows.{price_reply, row_costs}
use Rattle.pairing.specs.Laid.{front, ahead}
use Rattle.sightings.specs.Sights.{sight, sight_of}
use Rattle.cost_table.specs.Table.{priced_by, with_rows, front_rows, Tabled}

-- ---- a pair

abbrev costs : Reply Ruling → Reply Float
costs r = and_then r (λ v. given (cost_of v))

module _ (c : PairConfig) (t : Target) (z : Vector) (seen : Option ℕ) where
  -- by what the code does
  pub priced_near : (factor : Reply Matrix) → compatible t.class_label seen ≡ true → (v : Reply Ruling) → v ≡ measured c t.class_prior seen (distance_with t.expected z factor) → costs v ≡ priced_by c t z seen factor
  unfolding priced_by
  priced_near factor h v e = ap costs (distance_decides c t.class_label t.class_prior seen (distance_with t.expected z factor) h e)

  pub priced_apart : (factor : Reply Matrix) → compatible t.class_label seen ≡ false → costs (given (Forbidden Classes)) ≡ priced_by c t z seen factor
  unfolding priced_by
  priced_apart factor h = ap costs (classes_forbid c t.class_label t.class_prior seen (distance_with t.expected z factor) h)

  -- by the factor for its own covariance
  pub priced_own : (noise : Vector) → priced_by c t z seen (factor_from t.expected noise) ≡ price_reply c t (sight z noise seen)
  unfolding priced_by price_reply verdict_of
  priced_own noise = ap (λ (d : Reply Float). costs (ruled c t.class_label t.class_prior seen d)) (distance_factored t.expected z noise)

  module _ (noises : List Vector) (k j : ℕ) (same : get_or noises k [] ≡ get_or noises j []) where
    -- by one that was just worked out
    pub priced_new : (f : Option (Lower 3)) → reply_of_factor f ≡ factor_from t.expected (get_or noises j []) → priced_by c t z seen (reply_of_factor f) ≡ price_reply c t (sight z (get_or noises j []) seen)
    priced_new f e = ap (priced_by c t z seen) e ∙ priced_own (get_or noises j [])

    -- by the one that is held, where it serves
    pub priced_held : (f : Option (Lower 3)) (held : ℕ) → (held < 64 → reply_of_factor f ≡ factor_from t.expected (get_or noises held [])) → k < 64 → (compatible t.class_label seen ≡ true → held ≡ k)
        → priced_by c t z seen (reply_of_factor f) ≡ price_reply c t (sight z (get_or noises j []) seen)
    priced_held f held s l w = by (compatible t.class_label seen) refl
      where
        by : (b : Bool) → compatible t.class_label seen ≡ b → priced_by c t z seen (reply_of_factor f) ≡ price_reply c t (sight z (get_or noises j []) seen)
        by true h = let e = w h in priced_new f (s (rw e l) ∙ ap (λ (i : ℕ). factor_from t.expected (get_or noises i [])) e ∙ ap (factor_from t.expected) same)
        by false h = sym (priced_apart (reply_of_factor f) h) ∙ priced_apart (factor_from t.expected (get_or noises j [])) h ∙ priced_own (get_or noises j [])

-- ---- the table reads of a detection what a sight of it has

each_sights : (c : PairConfig) (t : Target) (ds : List Detection) → each (price_reply c t) (map sight_of ds) ≡ each (price_reply c t) ds
unfolding each price_reply verdict_of
each_sights c t [] = refl
each_sights c t (d ∷ ds) = ap (λ (r : Reply (List Float)). and_then (price_reply c t d) (λ y. and_then r (λ m. given (y ∷ m)))) (each_sights c t ds)

front_sights : (c : PairConfig) (t : Target) (ds : List Detection) → front (price_reply c t) (map sight_of ds) ≡ front (price_reply c t) ds
unfolding front price_reply verdict_of
front_sights c t [] = refl
front_sights c t (d ∷ ds) = ap (ahead (price_reply c t d)) (front_sights c t ds)

module _ (c : PairConfig) (ds : List Detection) where
  table_sights : (rows : List Row) → row_costs c rows (map sight_of ds) ≡ row_costs c rows ds
  unfolding row_costs each
  table_sights [] = refl
  table_sights (r ∷ rows) = λ i. and_then (each_sights c r.target ds i) (λ y. and_then (table_sights rows i) (λ m. given (y ∷ m)))

  rows_sights : (rows : List Row) → front_rows (λ r. price_reply c r.target) rows (map sight_of ds) ≡ front_rows (λ r. price_reply c r.target) rows ds
  unfolding front_rows
  rows_sights [] = refl
  rows_sights (r ∷ rows) = λ i. with_rows (each_sights c r.target ds i) (front_sights c r.target ds i) (rows_sights rows i)

  pub tabled_sights : (rows : List Row) (l : List Detection) (reply : Reply (Unit {0})) (before after : List Float) → l ≡ map sight_of ds → Tabled c rows l reply before after → Tabled c rows ds reply before after
  tabled_sights rows l reply before after e t =
      let s = subst (λ (q : List Detection). Tabled c rows q reply before after) e t in
      record {
        is = s.is ∙ ap (λ (x : Reply (List (List Float))). and_then x (λ costs. given tt)) (table_sights rows);
        content = s.content ∙ ap (sets before 0) (rows_sights rows);
      }
