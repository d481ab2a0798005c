-- `number` reads what stands behind a sign, or the whole word, by `count`.
use Rattle.std.proofs.Common.{rules, arith, ◌≡◌, ℕ, get_or, sym, ap, ◌∙◌, Some}
use Rattle.std.proofs.lemmas.Int.{ints}
use borrow.Author.Tests.{ltb-true}
use Rattle.forms.proofs.decimal.Decimals as facts
use Rattle.forms.proofs.decimal.number.Goals as goal
use Rattle.forms.proofs.decimal.number.Goals.{in_default-via-then-w-lt1, in_default-via-else-w-lt1+in_default-1}

pub returns-in_err-n-in-45 : goal.returns-in_err-n-in-45
returns-in_err-n-in-45 c =
    rw c.from_residual.ensures (ap facts.negated (sym c.in_err-n-in-45.was) ∙ facts.signed c.args.w.now _ (omega arith) (search rules) c.count.ensures)

pub returns-in-0 : goal.returns-in-0
returns-in-0 c =
    ap (λ (n : ℕ). facts.negated (Some n)) (sym c.in-0.is) ∙ ap facts.negated (sym c.in_ok-n-in-45.was) ∙ facts.signed c.args.w.now _ (omega arith) (search rules) c.count.ensures

pub overflow_cast-result : goal.overflow_cast-result
overflow_cast-result c =
    let h = facts.counted_small _ c.in_ok-n-in-45.n c.in_ok-n-in-45.ensures in
    omega (arith, ints)

pub overflow_sub-result : goal.overflow_sub-result
overflow_sub-result c =
    let h = facts.counted_small _ c.in_ok-n-in-45.n c.in_ok-n-in-45.ensures in
    omega (arith, ints)

pub returns-in_default-2 : goal.returns-in_default-2
returns-in_default-2 c =
    facts.minus_is c.in_ok-n-in-45.n (search rules) (facts.counted_small _ c.in_ok-n-in-45.n c.in_ok-n-in-45.ensures)
    ∙ ap facts.negated (sym c.in_ok-n-in-45.was) ∙ facts.signed c.args.w.now _ (omega arith) (search rules) c.count.ensures

pub returns-in_err-count-in_default : goal.returns-in_err-count-in_default
returns-in_err-count-in_default c =
    let w = c.args.w.now in
    let f : get_or w 0 0 ≡ 45 → ⊥ = elim c.in_default.branch [ in_default-via-then-w-lt1 b ↦ facts.no_dash w (grind (arith, ltb-true)) | in_default-via-else-w-lt1+in_default-1 b ↦ search rules ] in
    rw c.from_residual-in_err-count-in_default.ensures (ap facts.plain (sym c.in_err-count-in_default.was) ∙ facts.unsigned w _ f c.count-in_default.ensures)

pub overflow_cast-result-in_default : goal.overflow_cast-result-in_default
overflow_cast-result-in_default c =
    let h = facts.counted_small _ c.in_ok-count-in_default.field-0 c.in_ok-count-in_default.ensures in
    omega (arith, ints)

pub returns-in_ok-count-in_default : goal.returns-in_ok-count-in_default
returns-in_ok-count-in_default c =
    let w = c.args.w.now in
    let f : get_or w 0 0 ≡ 45 → ⊥ = elim c.in_default.branch [ in_default-via-then-w-lt1 b ↦ facts.no_dash w (grind (arith, ltb-true)) | in_default-via-else-w-lt1+in_default-1 b ↦ search rules ] in
    facts.plus_is c.in_ok-count-in_default.field-0 (facts.counted_small _ _ c.in_ok-count-in_default.ensures)
    ∙ ap facts.plain (sym c.in_ok-count-in_default.was) ∙ facts.unsigned w _ f c.count-in_default.ensures
