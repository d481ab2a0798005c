-- One digit or two.
use Rattle.std.proofs.Common.{arith, ap, ◌∙◌, [], ◌∷◌, ℕ, ◌+◌, ◌/◌, ◌%◌}
use Rattle.text.proofs.Texts.{puts_same, digits_one, digits_two}
use Rattle.text.proofs.bytes.Text.put_number.Goals as goal

pub returns-then-n-lt10 : goal.returns-then-n-lt10
returns-then-n-lt10 c =
    let n = c.args.n in
    (puts_same (ap (λ (x : ℕ). x ∷ []) c.digit.ensures ∙ digits_one n c.if-n-lt10.true) c.put.ensures, let p = c.put.ensures.place in omega arith)

pub returns : goal.returns
returns c =
    let n = c.args.n in (
      puts_same (ap (λ (x : ℕ). x ∷ c.digit-3.result ∷ []) c.digit-2.ensures ∙ ap (λ (x : ℕ). (48 + n / 10 % 10) ∷ x ∷ []) c.digit-3.ensures ∙ digits_two n c.if-n-lt10.false) c.put-2.ensures,
      let p = c.put-2.ensures.place in omega arith,
    )
