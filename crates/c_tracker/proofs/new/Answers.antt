use mathlib.Core.Path.{sym}
use Rattle.c_tracker.specs.Calls.{new_answer}
use Rattle.c_tracker.proofs.new.Goals as goal

pub returns-in-Ok : goal.returns-in-Ok
unfolding new_answer
returns-in-Ok c = rw (sym c.validate.ensures, c.in-Ok.is, c.fresh.ensures)

pub returns-in-Err : goal.returns-in-Err
unfolding new_answer
returns-in-Err c = rw (sym c.validate.ensures, c.in-Err.is)
