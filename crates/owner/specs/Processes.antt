-- What a batch on the record that a C program holds answers: the number of a refusal, or the whole record and the whole report.
use Rattle.number.specs.Reply.{Reply, given, and_then}
use Rattle.types.specs.declared.batch.ObservationBatch3D.{ObservationBatch3D}
use Rattle.types.specs.Batches.{whole_report}
use Rattle.calls.specs.Process.{Done, process_reply}
use Rattle.records.specs.declared.tracker.PkTracker.{PkTracker}
use Rattle.records.specs.Configs.{settings_of}
use Rattle.records.specs.Trackers.{pk_state, pk_over}
use Rattle.owner.specs.declared.batch.Ran.{Ran}

abbrev pub batch_reply_on : PkTracker → ObservationBatch3D → Reply Done
batch_reply_on t b = process_reply (settings_of t.settings) (pk_state t) b

-- where it is refused the caller keeps the record that it had
abbrev pub after_batch : PkTracker → Reply Done → Reply Ran
after_batch t reply = and_then reply (λ d. given (record { tracker = pk_over t d.state; report = whole_report d.report }))
