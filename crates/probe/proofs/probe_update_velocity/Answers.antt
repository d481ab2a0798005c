use Rattle.probe.proofs.Calls.{step_call}
use Rattle.probe.proofs.probe_update_velocity.Goals as goal

pub returns : goal.returns
returns c = step_call (rw c.filter_of-f.ensures at c.update_velocity.ensures) c.lay.ensures
