-- The numbers of the refusals. 01, What each call declines.
use Rattle.std.specs.Prelude.{ℕ, Err, Ok, Result}
use Rattle.number.specs.Reply.{Reply, refused, given}
use Rattle.math.specs.declared.linalg.Refusal as math
use Rattle.math.specs.declared.linalg.Refusal.TheVariants as matrix
use Rattle.assignment.specs.declared.AssignmentError.{AssignmentError}
use Rattle.assignment.specs.declared.AssignmentError.TheVariants as assignment
use Rattle.settings.specs.Fields.{SettingsReply, number_of_field}
use Rattle.settings.specs.Fields as settings
use Rattle.types.specs.declared.refusal.Refusal.{Refusal}
use Rattle.types.specs.declared.refusal.Refusal.TheVariants.{InvalidConfig, FrameMismatch, TimestampWentBackwards, DuplicateBatch, NonFiniteValue, NotSymmetric, NotPositiveDefinite, TimestampOverflow, NonFiniteResult, AssignmentFailed, TooMany, InvalidPrior}

abbrev pub number_of : Refusal → ℕ
number_of (InvalidConfig field) = 1
number_of FrameMismatch = 2
number_of TimestampWentBackwards = 3
number_of DuplicateBatch = 4
number_of NonFiniteValue = 5
number_of NotSymmetric = 6
number_of NotPositiveDefinite = 7
number_of TimestampOverflow = 8
number_of NonFiniteResult = 9
number_of AssignmentFailed = 10
number_of TooMany = 11
number_of InvalidPrior = 12

-- ---- what the refusals of a call's parts are among them

abbrev pub of_matrix : math.Refusal → Refusal
of_matrix matrix.NonFiniteValue = NonFiniteValue
of_matrix matrix.NotSymmetric = NotSymmetric
of_matrix matrix.NotPositiveDefinite = NotPositiveDefinite
of_matrix matrix.NonFiniteResult = NonFiniteResult

abbrev pub of_assignment : AssignmentError → Refusal
of_assignment assignment.TooMany = TooMany
of_assignment assignment.NonFinite = NonFiniteResult
of_assignment assignment.Failed = AssignmentFailed

-- ---- what a call answers

-- the field that 1 names; 0, which is no field's number, with any other refusal
abbrev pub field_of : Refusal → ℕ
field_of (InvalidConfig field) = number_of_field field
field_of FrameMismatch = 0
field_of TimestampWentBackwards = 0
field_of DuplicateBatch = 0
field_of NonFiniteValue = 0
field_of NotSymmetric = 0
field_of NotPositiveDefinite = 0
field_of TimestampOverflow = 0
field_of NonFiniteResult = 0
field_of AssignmentFailed = 0
field_of TooMany = 0
field_of InvalidPrior = 0

-- an outcome with the value that stands beside it
abbrev pub answered : {A : Type 0} → Result (Unit {0}) Refusal → A → Reply A
answered (Ok _) v = given v
answered (Err why) v = refused (number_of why)

-- the outcome alone
abbrev pub reply_of : Result (Unit {0}) Refusal → Reply (Unit {0})
reply_of o = answered o tt

-- the same in the terms of the settings' check, with the field
abbrev pub settings_reply_of : Result (Unit {0}) Refusal → SettingsReply
settings_reply_of (Ok _) = settings.accepted
settings_reply_of (Err why) = settings.refused (number_of why) (field_of why)
