-- When a detection is refused.
use Rattle.detections.specs.declared.PlanarVelocity.{PlanarVelocity}
use Rattle.std.specs.Prelude.{Bool, true, ◌&&◌, None, Option, Some}
use Rattle.std.specs.Float.Ieee.Scale.{finite}
use Rattle.number.specs.Reply.{Reply, refuse_unless}
use Rattle.matrix.specs.Flat.{rows_of}
use Rattle.finite.specs.Finite.{finite_vector}
use Rattle.math.specs.Linalg.{validated}
use Rattle.detections.specs.declared.Detection.{Detection}

-- 01, Detection: "It carries either no velocity or two velocity components."
abbrev pub finite_velocity : Option PlanarVelocity → Bool
finite_velocity None = true
finite_velocity (Some v) = finite v.x && finite v.y

-- 01, Batch: "then per detection 5 not finite (position, velocity, covariance), 6 not symmetric, 7 Cholesky fails"; the covariance's own 5, 6 and 7 are `validated`
unfoldable pub detection_reply : Detection → Reply (Unit {0})
detection_reply d = refuse_unless (finite_vector 3 d.position && finite_velocity d.velocity) 5 (validated 3 (rows_of 3 3 d.covariance))
