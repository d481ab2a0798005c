-- The numbers of the refusals that `?` makes of the refusals of a call's parts. Assumes nothing.
use mathlib.Core.Path.{◌≡◌, refl}
use Rattle.math.specs.declared.linalg.Refusal as math
use Rattle.math.specs.declared.linalg.Refusal.TheVariants as matrix
use Rattle.math.specs.Refusing as math_number
use Rattle.assignment.specs.declared.AssignmentError.{AssignmentError}
use Rattle.assignment.specs.declared.AssignmentError.TheVariants as assignment
use Rattle.assignment.specs.Replies as assignment_number
use Rattle.types.specs.Refusals.{number_of, of_matrix, of_assignment}

pub number_of_matrix : (why : math.Refusal) → number_of (of_matrix why) ≡ math_number.number_of why
number_of_matrix matrix.NonFiniteValue = refl
number_of_matrix matrix.NotSymmetric = refl
number_of_matrix matrix.NotPositiveDefinite = refl
number_of_matrix matrix.NonFiniteResult = refl

pub number_of_assignment : (why : AssignmentError) → number_of (of_assignment why) ≡ assignment_number.number_of why
number_of_assignment assignment.TooMany = refl
number_of_assignment assignment.NonFinite = refl
number_of_assignment assignment.Failed = refl
