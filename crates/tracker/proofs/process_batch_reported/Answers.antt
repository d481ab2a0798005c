use Rattle.tracker.proofs.Owning.{batch_is_refused, batch_is_done}
use Rattle.tracker.proofs.process_batch_reported.Goals as goal

pub returns-in-Err : goal.returns-in-Err
returns-in-Err c = rw c.refuse.ensures (batch_is_refused c.args.t c.args.batch c.in-Err.why c.in-Err.ensures)

pub returns-in-Ok : goal.returns-in-Ok
returns-in-Ok c = batch_is_done c.args.t c.args.batch c.in-Ok.done c.in-Ok.ensures
