-- What the tests on the way of a detection's check say of its definition, and what a detection that passes it has. Assumes nothing.
use mathlib.Core.Path.{◌≡◌, sym}
use mathlib.Core.Bool.{true, ◌&&◌}
use Rattle.number.specs.Reply.{given}
use Rattle.number.proofs.Replies.{past_test}
use Rattle.number.proofs.Zeros.{both}
use Rattle.matrix.specs.Flat.{rows_of}
use Rattle.finite.specs.Finite.{finite_vector}
use Rattle.math.specs.Linalg.{validated}
use Rattle.detections.specs.declared.Detection.{Detection}
use Rattle.detections.specs.Detection.{finite_velocity, detection_reply}

module _ (d : Detection) where
  module _ (passed : detection_reply d ≡ given tt) where
    finite_parts : (finite_vector 3 d.position ≡ true) × (finite_velocity d.velocity ≡ true)
    unfolding detection_reply
    finite_parts = both (finite_vector 3 d.position) (finite_velocity d.velocity) (past_test (finite_vector 3 d.position && finite_velocity d.velocity) 5 _ tt passed).0

    pub finite_position : finite_vector 3 d.position ≡ true
    finite_position = finite_parts.0

    pub finite_velocity_lem : finite_velocity d.velocity ≡ true
    finite_velocity_lem = finite_parts.1

    pub valid_covariance : given tt ≡ validated 3 (rows_of 3 3 d.covariance)
    unfolding detection_reply
    valid_covariance = sym (past_test (finite_vector 3 d.position && finite_velocity d.velocity) 5 _ tt passed).1
