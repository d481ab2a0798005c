-- The bytes behind the form are a newline and no more, or not.
use Rattle.std.proofs.Common.{ap, ◌∙◌, List, [], ◌∷◌, ℕ, ◌-◌, arith, length, take, drop, length-drop, eqb}
use Rattle.std.specs.Cmp.Lexicographic.{pointwise}
use lib.Seq.{take_all}
use Rattle.line.proofs.Lines.{formed_long, formed_none, formed_end}
use Rattle.line.proofs.is_formed.Goals as goal

pub returns-then-input-gt-LONGEST : goal.returns-then-input-gt-LONGEST
returns-then-input-gt-LONGEST c = formed_long c.args.input.now c.if-input-gt-LONGEST.true

pub returns-in-None : goal.returns-in-None
returns-in-None c = formed_none c.args.input.now c.if-input-gt-LONGEST.false c.in-None.ensures

pub returns-in-Some : goal.returns-in-Some
returns-in-Some c =
    let s = c.args.input.now in
    let e = c.in-Some.end in
    c.eq.ensures
    ∙ ap (λ (t : List ℕ). pointwise eqb (take (length s - e) (drop e s)) t) c.as_slice.ensures
    ∙ ap (λ (l : List ℕ). pointwise eqb l (10 ∷ [])) (take_all (length s - e) (drop e s) (simp length-drop (omega arith)))
    ∙ formed_end s c.if-input-gt-LONGEST.false e c.in-Some.ensures
