use Rattle.transition.specs.Glide.{glided_rows}
use mathlib.Core.List.{[], ◌∷◌}
use Rattle.transition.proofs.glide_rows.Goals as goal

pub returns : goal.returns
unfolding glided_rows
returns c =
    let at5 = c.before.before in
    let at4 = at5.before.before in
    let at3 = at4.before.before in
    let at2 = at3.before.before.before in
    let at1 = at2.before.before.before in
    λ i. at1.position_row.ensures i
    ∷ at2.position_row-2.ensures i
    ∷ at3.position_row-3.ensures i
    ∷ at4.velocity_row.ensures i
    ∷ at5.velocity_row-2.ensures i
    ∷ c.velocity_row-3.ensures i
    ∷ []
