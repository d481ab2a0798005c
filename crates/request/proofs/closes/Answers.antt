use Rattle.std.proofs.Common.{ap, ◌∙◌, List, [], ◌∷◌, ℕ, ◌-◌, arith, length, take, drop, length-drop, eqb}
use Rattle.std.specs.Cmp.Lexicographic.{pointwise}
use lib.Seq.{take_all}
use Rattle.request.proofs.Numbers.{closing_is}
use Rattle.request.proofs.closes.Goals as goal

pub returns : goal.returns
returns c =
    let s = c.args.s.now in
    let at = c.args.at in
    c.eq.ensures
    ∙ ap (λ (t : List ℕ). pointwise eqb (take (length s - at) (drop at s)) t) c.as_slice.ensures
    ∙ ap (λ (l : List ℕ). pointwise eqb l (41 ∷ 10 ∷ [])) (take_all (length s - at) (drop at s) (simp length-drop (omega arith)))
    ∙ closing_is (drop at s)
