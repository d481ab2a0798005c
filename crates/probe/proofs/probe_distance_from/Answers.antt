use Rattle.probe.proofs.Calls.{distance_call}
use Rattle.probe.proofs.probe_distance_from.Goals as goal

pub returns : goal.returns
returns c = distance_call c.distance_from.ensures c.lay_distance.ensures
