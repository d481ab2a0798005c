use Rattle.probe.proofs.Calls.{step_call}
use Rattle.probe.proofs.probe_predict.Goals as goal

pub returns : goal.returns
returns c = step_call (rw c.filter_of-f.ensures at c.predict.ensures) c.lay.ensures
