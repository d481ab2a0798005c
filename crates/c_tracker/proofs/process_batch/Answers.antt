use Rattle.c_tracker.specs.Calls.{batch_on, batch_answer}
use Rattle.c_tracker.proofs.Settling.{batch_carried, batch_refused}
use Rattle.c_tracker.proofs.process_batch.Goals as goal

pub returns-in-Ok : goal.returns-in-Ok
unfolding batch_answer
returns-in-Ok c = rw c.report_to.ensures (batch_carried c.args.t (batch_on c.args.t c.args.b) c.in-Ok.ran (rw c.batch_of.ensures at c.in-Ok.ensures))

pub returns-in-Err : goal.returns-in-Err
unfolding batch_answer
returns-in-Err c = rw (c.report_to-in-Err.ensures, c.from.ensures, c.blank_report.ensures) (batch_refused c.args.t (batch_on c.args.t c.args.b) c.in-Err.why (rw c.batch_of.ensures at c.in-Err.ensures))
