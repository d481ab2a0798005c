use mathlib.Core.Path.{ap, ◌∙◌}
use Rattle.number.specs.Reply.{and_then}
use Rattle.math.specs.Linalg.{distance_by, squared_distance}
use Rattle.math.proofs.linalg.squared_mahalanobis.Goals as goal

pub returns : goal.returns
unfolding squared_distance
returns g c = c.distance_by_factor.ensures ∙ ap (λ f. and_then f (λ l. distance_by g.row.N l c.args.u)) c.cholesky.ensures
