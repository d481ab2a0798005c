use mathlib.Core.Path.{◌≡◌}
use mathlib.Core.List.{[]}
use Prim.Native.Nat.{◌≤◌, ◌<◌}
use lib.ListN.{get_or}
use Rattle.cholesky.specs.Factor.{reply_of_factor}
use Rattle.filter.specs.Filter.{factor_from}
use Rattle.pairing.specs.Rows.{price_reply}
use Rattle.pairing.proofs.Laying.{Laying}
use Rattle.sightings.specs.Laid.{sights_of}
use Rattle.cost_table.proofs.price_row.Given as goal

abbrev pub invariant-loop-j : goal.invariant-loop-j
invariant-loop-j l =
    (l.j ≤ l.j-end) × (l.j-end ≡ l.laid.count) × (l.held < 64 → reply_of_factor l.factor ≡ factor_from l.t.expected (get_or l.laid.noises l.held [])) × Laying (price_reply l.rule l.t) (sights_of l.laid) l.at l.j l.initial.costs l.costs
