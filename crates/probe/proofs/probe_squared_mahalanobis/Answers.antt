use Rattle.probe.proofs.Calls.{distance_call}
use Rattle.probe.proofs.probe_squared_mahalanobis.Goals as goal

pub returns : goal.returns
returns c = distance_call (rw c.filter_of-f.ensures at c.squared_mahalanobis.ensures) c.lay_distance.ensures
