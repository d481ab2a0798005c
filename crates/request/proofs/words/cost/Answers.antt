-- A dash, or a number: each branch is one equation of `cost_in`.
use Rattle.std.proofs.Common.{rules, ◌≡◌, sym, ap, ◌∙◌, Bool, true, false, List, [], ◌∷◌, ℕ, eqb, SFits, w32}
use Rattle.std.proofs.lemmas.Int.{to_z-of_z}
use Rattle.std.specs.Cmp.Lexicographic.{pointwise}
use Rattle.forms.proofs.decimal.Decimals.{no_value, value_is}
use Rattle.request.specs.Request.{dash}
use Rattle.request.proofs.Numbers.{dash_is, cost_dash, cost_none, cost_some, infinite}
use Rattle.request.proofs.words.cost.Goals as goal

dashed : (w t : List ℕ) (r b : Bool) → r ≡ pointwise eqb w t → t ≡ 45 ∷ [] → r ≡ b → dash w ≡ b
dashed w t r b e f g = sym (dash_is w) ∙ ap (λ (l : List ℕ). pointwise eqb w l) (sym f) ∙ sym e ∙ g

pub returns-then-eq : goal.returns-then-eq
returns-then-eq c = rw infinite (cost_dash c.args.w.now (dashed _ _ _ true c.eq.ensures c.as_slice.ensures c.if-eq.true))

pub returns-in_err-number : goal.returns-in_err-number
returns-in_err-number c =
    rw c.from_residual.ensures (cost_none c.args.w.now (dashed _ _ _ false c.eq.ensures c.as_slice.ensures c.if-eq.false) (no_value _ c.in_err-number.ensures))

pub returns : goal.returns
returns c =
    let z = c.in_ok-number.field-0 in
    let f : SFits w32 z = search rules in
    rw (c.from.ensures, to_z-of_z w32 z f) (cost_some c.args.w.now z (dashed _ _ _ false c.eq.ensures c.as_slice.ensures c.if-eq.false) (value_is _ z c.in_ok-number.ensures))
