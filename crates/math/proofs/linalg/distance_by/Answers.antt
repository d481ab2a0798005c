use mathlib.Core.Path.{sym, ap, ◌∙◌}
use Rattle.matrix.specs.Matrix.{Vector, dot}
use Rattle.finite.specs.Finite.{finite_vector}
use Rattle.math.specs.Linalg.{distance_reply}
use Rattle.math.proofs.Answers.{solution_finite, solution_infinite}
use Rattle.math.proofs.linalg.distance_by.Goals as goal

pub returns-then-is_finite_vector : goal.returns-then-is_finite_vector
returns-then-is_finite_vector g c =
    let test = c.before.before.before in
    let solve = test.before in
    let u = solve.args.u in
    solution_finite g.row.N _ u (ap (finite_vector g.row.N) (sym solve.solve-x.ensures) ∙ sym test.is_finite_vector.ensures ∙ c.if-is_finite_vector.true)
    (c.distance_of.ensures ∙ ap distance_reply (c.dot.ensures ∙ ap (λ (x : Vector). dot g.row.N u x) solve.solve-x.ensures))

pub returns-else-is_finite_vector : goal.returns-else-is_finite_vector
returns-else-is_finite_vector g c =
    let test = c.before in
    solution_infinite g.row.N _ _ (ap (finite_vector g.row.N) (sym test.solve-x.ensures) ∙ sym test.is_finite_vector.ensures ∙ c.if-is_finite_vector.false)
