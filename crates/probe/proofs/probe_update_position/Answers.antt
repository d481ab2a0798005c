use Rattle.probe.proofs.Calls.{step_call}
use Rattle.probe.proofs.probe_update_position.Goals as goal

pub returns : goal.returns
returns c = step_call (rw c.filter_of-f.ensures at c.update_position.ensures) c.lay.ensures
