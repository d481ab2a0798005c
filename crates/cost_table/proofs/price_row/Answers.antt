-- `cost_table::price_row` meets its contract: the costs of the first j detections are laid from `at` on, and the factor is that of S for the covariance at `held`. Assumes nothing.
use Rattle.std.proofs.lemmas.Result.{err_from_is_err_and}
use Rattle.types.specs.declared.refusal.Refusal.{Refusal}
use Rattle.std.specs.Prelude.{Err, Float, None, Ok, Option, Result}
use Rattle.cholesky.specs.declared.Lower.{Lower}
use mathlib.Core.Path.{◌≡◌, refl, sym, ap, ◌∙◌, subst}
use mathlib.Core.Bool.{true}
use mathlib.Core.List.{List, []}
use Prim.Native.Nat.{ℕ, ◌<◌}
use lib.ListN.{get_or}
use native.Mathlib.Omega.{arith}
use Rattle.batches.proofs.Checks.{no_detection}
use Rattle.number.specs.Reply.{Reply}
use Rattle.matrix.specs.Matrix.{Vector, Matrix}
use Rattle.cholesky.specs.Factor.{reply_of_factor}
use Rattle.filter.specs.Filter.{factor_from}
use Rattle.detections.specs.declared.pairs.PairConfig.{PairConfig}
use Rattle.detections.specs.declared.pairs.Target.{Target}
use Rattle.detections.specs.Pairs.{compatible}
use Rattle.pairing.specs.Rows.{price_reply}
use Rattle.pairing.proofs.Laying.{laying_none, laying_more, laying_stops, laying_all}
use Rattle.sightings.specs.declared.Sightings.{Sightings}
use Rattle.sightings.specs.Laid.{sights_of}
use Rattle.sightings.specs.Sights.{sight}
use Rattle.sightings.proofs.Sights.{sights_long, sights_at}
use Rattle.cost_table.specs.Table.{reply_of_entry, priced_by}
use Rattle.cost_table.proofs.Pricing.{priced_new, priced_held}
use Rattle.cost_table.proofs.price_row.Goals as goal
use Rattle.cost_table.proofs.price_row.Goals.{then-is_due, else-is_due}

pub loop-j-init : goal.loop-j-init
loop-j-init c = (omega arith, refl, (λ h. absurd (never h)), laying_none _ _ _ _)
  where
    never : 64 < 64 → ⊥
    never h = omega arith

-- what is held when the detection is priced, and that it serves
abbrev Serves : PairConfig → Target → List Vector → ℕ → Option ℕ → Option (Lower 3) → ℕ → Type 0
Serves rule t noises j seen f held =
    (held < 64 → reply_of_factor f ≡ factor_from t.expected (get_or noises held []))
    × ((z : Vector) → priced_by rule t z seen (reply_of_factor f) ≡ price_reply rule t (sight z (get_or noises j []) seen))

module _ (rule : PairConfig) (t : Target) (noises : List Vector) (j k : ℕ) (seen : Option ℕ) (same : get_or noises k [] ≡ get_or noises j []) where
  new_serves : (f : Option (Lower 3)) (held : ℕ) → held ≡ k → reply_of_factor f ≡ factor_from t.expected (get_or noises j []) → Serves rule t noises j seen f held
  new_serves f held q own = (
    (λ w. own ∙ ap (factor_from t.expected) (sym same) ∙ sym (ap (λ (i : ℕ). factor_from t.expected (get_or noises i [])) q)),
    (λ z. priced_new rule t z seen noises k j same f own),
  )

  held_serves : (f f₀ : Option (Lower 3)) (held held₀ : ℕ) → held ≡ held₀ → f ≡ f₀ → (held₀ < 64 → reply_of_factor f₀ ≡ factor_from t.expected (get_or noises held₀ [])) → k < 64 → (compatible t.class_label seen ≡ true → held₀ ≡ k)
      → Serves rule t noises j seen f held
  held_serves f f₀ held held₀ q r v few due =
      let s : held < 64 → reply_of_factor f ≡ factor_from t.expected (get_or noises held []) = λ w. ap reply_of_factor r ∙ v (subst (λ (i : ℕ). i < 64) q w) ∙ sym (ap (λ (i : ℕ). factor_from t.expected (get_or noises i [])) q) in
      (s, (λ z. priced_held rule t z seen noises k j same f held s few (λ e. q ∙ due e)))

-- the price of the detection that was read
price_lem : (rule : PairConfig) (t : Target) (laid : Sightings) (j : ℕ) (seen : Option ℕ) (f : Reply Matrix) (r : Result Float Refusal) → j < laid.count → seen ≡ get_or laid.labels j None
    → reply_of_entry r ≡ priced_by rule t (get_or laid.positions j []) seen f → ((z : Vector) → priced_by rule t z seen f ≡ price_reply rule t (sight z (get_or laid.noises j []) seen))
    → price_reply rule t (get_or (sights_of laid) j no_detection) ≡ reply_of_entry r
price_lem rule t laid j seen f r h e q serves =
    ap (price_reply rule t)
    (sights_at laid j no_detection h
    ∙ ap (sight (get_or laid.positions j []) (get_or laid.noises j [])) (sym e))
    ∙ sym (q ∙ serves _)

pub loop-j-preserved : goal.loop-j-preserved
loop-j-preserved c =
    let a = c.args in
    let t = c.loop-j-test.true in
    let v = c.loop-j.invariant in
    let same = c.requires.0.kin.same c.loop-j.j t in
    let few : get_or a.laid.now.kin c.loop-j.j 0 < 64 = omega (arith, t, v.1, c.requires.0.few, c.requires.0.kin.before c.loop-j.j t) in
    let s : Serves a.rule a.t a.laid.now.noises c.loop-j.j (get_or a.laid.now.labels c.loop-j.j None) c.if-is_due.factor c.if-is_due.held =
    elim c.if-is_due.branch [
      | then-is_due w ↦ new_serves a.rule a.t a.laid.now.noises c.loop-j.j (get_or a.laid.now.kin c.loop-j.j 0) (get_or a.laid.now.labels c.loop-j.j None) same _ _ w.held-is (ap reply_of_factor w.factor-is ∙ w.factor_from-factor.ensures)
      | else-is_due w ↦ held_serves a.rule a.t a.laid.now.noises c.loop-j.j (get_or a.laid.now.kin c.loop-j.j 0) (get_or a.laid.now.labels c.loop-j.j None) same _ _ _ _ w.held-is w.factor-is v.2 few (c.is_due.ensures w.if-is_due.false)
    ] in (
      omega arith,
      v.1,
      s.0,
      laying_more _ _ _ _ c.loop-j.j _ _ no_detection _ v.3 (omega (arith, t, v.1, sights_long a.laid.now)) refl
          (price_lem a.rule a.t a.laid.now c.loop-j.j _ _ (Ok c.in_ok-cost.cost) (omega (arith, t, v.1)) refl c.in_ok-cost.ensures s.1),
    )

pub returns-in_err-cost : goal.returns-in_err-cost
returns-in_err-cost c =
    let a = c.args in
    let t = c.loop-j-test.true in
    let v = c.loop-j.invariant in
    let same = c.requires.0.kin.same c.loop-j.j t in
    let few : get_or a.laid.now.kin c.loop-j.j 0 < 64 = omega (arith, t, v.1, c.requires.0.few, c.requires.0.kin.before c.loop-j.j t) in
    let s : Serves a.rule a.t a.laid.now.noises c.loop-j.j (get_or a.laid.now.labels c.loop-j.j None) c.if-is_due.factor c.if-is_due.held =
    elim c.if-is_due.branch [
      | then-is_due w ↦ new_serves a.rule a.t a.laid.now.noises c.loop-j.j (get_or a.laid.now.kin c.loop-j.j 0) (get_or a.laid.now.labels c.loop-j.j None) same _ _ w.held-is (ap reply_of_factor w.factor-is ∙ w.factor_from-factor.ensures)
      | else-is_due w ↦ held_serves a.rule a.t a.laid.now.noises c.loop-j.j (get_or a.laid.now.kin c.loop-j.j 0) (get_or a.laid.now.labels c.loop-j.j None) same _ _ _ _ w.held-is w.factor-is v.2 few (c.is_due.ensures w.if-is_due.false)
    ] in
    let p = err_from_is_err_and c.from_residual.result c.from_residual.ensures.1 in
    rw (p.1, p.2)
    (laying_stops _ _ _ _ c.loop-j.j _ no_detection _ v.3 (omega (arith, t, v.1, sights_long a.laid.now))
    (price_lem a.rule a.t a.laid.now c.loop-j.j _ _ (Err c.in_err-cost.field-0.0) (omega (arith, t, v.1)) refl c.in_err-cost.ensures s.1))

pub returns : goal.returns
returns c = laying_all _ _ _ _ c.loop-j.j _ (omega (arith, c.loop-j-test.false, c.loop-j.invariant.0, c.loop-j.invariant.1, sights_long c.args.laid.now)) c.loop-j.invariant.3
