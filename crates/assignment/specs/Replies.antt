-- The answers of the calls in 01's terms.
use Rattle.std.specs.Prelude.{ℕ, Result, Ok, Err}
use Rattle.number.specs.Reply.{Reply, refused, given}
use Rattle.assignment.specs.declared.AssignmentError.{AssignmentError}
use Rattle.assignment.specs.declared.AssignmentError.TheVariants.{TooMany, NonFinite, Failed}

-- 01, Assignment (refusals): "11 over 64 rows or columns; 9 an unmatched cost not finite; 10 table length isn't rows × columns, or a step not finite."
abbrev pub number_of : AssignmentError → ℕ
number_of TooMany = 11
number_of NonFinite = 9
number_of Failed = 10

abbrev pub reply_of : {A : Type 0} → Result (Unit {0}) AssignmentError → A → Reply A
reply_of (Ok u) a = given a
reply_of (Err why) a = refused (number_of why)
