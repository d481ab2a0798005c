use mathlib.Core.Path.{ap, ◌∙◌}
use lib.Ieee.{Float}
use Rattle.kuhn_munkres.specs.Assignment.{largest, sentinel_of}
use Rattle.assignment.proofs.Calls.{paired}
use Rattle.assignment.proofs.takers.pair_table.Goals as goal

pub named_groups-names-requires : goal.named_groups-names-requires
named_groups-names-requires c = (c.requires.0, c.requires.1, c.requires.2)

pub solve_groups-requires : goal.solve_groups-requires
solve_groups-requires c = record { rows_few = c.requires.0; columns_few = c.requires.1; size = c.requires.2; named = c.named_groups-names.ensures }

pub returns : goal.returns
returns c = paired _ _ _ _ _ _ _ _ _ c.requires.1 c.requires.2 c.requires.3 (c.sentinel.ensures ∙ ap sentinel_of (c.largest_finite-largest.ensures ∙ ap (λ (x : Float). largest x c.args.costs.now) c.larger.ensures)) c.solve_groups.ensures
