use mathlib.Core.Path.{refl, sym, ap, ◌∙◌}
use Rattle.matrix.specs.Matrix.{Matrix, congruence}
use Rattle.matrix.proofs.Arrays.{entries_fit}
use Rattle.transition.specs.Glide.{glided_columns, can_glide}
use Rattle.transition.proofs.Gliding.{glided_read}
use Rattle.transition.proofs.moved_spread.Goals as goal

pub returns-then-can_glide : goal.returns-then-can_glide
returns-then-can_glide c =
    let test = c.before.before in
    let made = test.before in
    let s = made.before in
    let p = s.args.p in
    let dt = s.args.dt in
    c.glide_columns.ensures
    ∙ ap (glided_columns 6 3 dt) made.glide_rows-m.ensures
    ∙ sym (glided_read 3 5 refl dt p (entries_fit 6 6 p _ s.well_formed.1.0) (ap (can_glide 6 dt p) (sym made.glide_rows-m.ensures) ∙ sym test.can_glide.ensures ∙ c.if-can_glide.true))

pub returns-else-can_glide : goal.returns-else-can_glide
returns-else-can_glide c =
    let made = c.before in
    let s = made.before.before.before.before in
    c.congruence.ensures ∙ ap (λ (f : Matrix). congruence 6 6 f s.args.p) made.cv_f6.ensures
