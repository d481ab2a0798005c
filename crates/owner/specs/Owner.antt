-- What a call on the record that a C program holds answers, where it is worked out in the record itself: the number of a refusal, or the whole record.
use Rattle.number.specs.Reply.{Reply, given, and_then}
use Rattle.types.specs.States.{State}
use Rattle.records.specs.declared.tracker.PkTracker.{PkTracker}
use Rattle.records.specs.Trackers.{pk_over}

-- where it is refused the caller keeps the record that it had
abbrev pub after_call : PkTracker → Reply State → Reply PkTracker
after_call t reply = and_then reply (λ s. given (pk_over t s))
