use mir.Facts.{to_z-of_z}
use Rattle.c_tracker.specs.Calls.{predict_on, predict_answer}
use Rattle.c_tracker.proofs.Settling.{call_carried, call_refused}
use Rattle.c_tracker.proofs.predict_to.Goals as goal

pub returns-in-Ok : goal.returns-in-Ok
unfolding predict_answer
returns-in-Ok c = call_carried c.args.t (predict_on c.args.t c.args.at) c.in-Ok.tracker (rw (to_z-of_z c.ranges.at) at c.in-Ok.ensures)

pub returns-in-Err : goal.returns-in-Err
unfolding predict_answer
returns-in-Err c = rw c.from.ensures (call_refused c.args.t (predict_on c.args.t c.args.at) c.in-Err.why (rw (to_z-of_z c.ranges.at) at c.in-Err.ensures))
