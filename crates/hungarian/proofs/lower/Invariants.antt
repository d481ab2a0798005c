use mathlib.Core.Path.{◌≡◌}
use Rattle.kuhn_munkres.specs.Binary64.{float}
use Rattle.hungarian.specs.Passes.{lowered}
use Rattle.hungarian.proofs.lower.Given as goal

abbrev pub invariant-loop-x : goal.invariant-loop-x
invariant-loop-x l = l.minv ≡ lowered float l.delta l.initial.minv l.x-index
