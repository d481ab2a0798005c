-- Kept: without it the search gives up at a limit.
use Rattle.kuhn_munkres.specs.Assignment.{sentinel_of}
use Rattle.assignment.proofs.table.sentinel.Goals as goal

pub returns : goal.returns
unfolding sentinel_of
returns c = cc
