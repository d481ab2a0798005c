use Rattle.std.proofs.Common.{◌≡◌, ◌*◌}
use Rattle.kuhn_munkres.specs.Binary64.{float}
use Rattle.hungarian.specs.Passes.{chosen}
use Rattle.hungarian.specs.Structs.{least_of}
use Rattle.hungarian.proofs.choose.Given as goal

abbrev pub invariant-loop-block : goal.invariant-loop-block
invariant-loop-block l = least_of l.b ≡ chosen float l.minv (8 * l.block)
