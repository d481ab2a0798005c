use mathlib.Core.Path.{◌≡◌, refl, ap, ◌∙◌}
use lib.Ieee.{Float, nan, of_bits}
use Rattle.std.specs.Prelude.{None, Option, Some}
use Rattle.std.proofs.Common.{unwrap_or}
use Rattle.matrix.specs.Matrix.{Vector, dot}
use Rattle.square_root.specs.Root.{root_reply, reply_of_root}
use Rattle.detections.specs.Births.{distance_of, root_or_nan}
use Rattle.detections.proofs.births.distance.Goals as goal

or_nan : (root : Option Float) → unwrap_or root nan ≡ root_or_nan (reply_of_root root)
or_nan (Some d) = refl
or_nan None = refl

pub returns : goal.returns
unfolding distance_of of_bits
returns c =
    c.unwrap_or.ensures
    ∙ or_nan c.root.result
    ∙ ap root_or_nan (c.root.ensures.is ∙ ap root_reply (c.dot.ensures ∙ ap (λ (u : Vector). dot 3 u u) c.minus-u.ensures))
