use Rattle.std.proofs.Common.{◌≡◌, ◌*◌}
use Rattle.kuhn_munkres.specs.Binary64.{float}
use Rattle.hungarian.specs.Passes.{pots, paid}
use Rattle.hungarian.proofs.pay.Given as goal

abbrev pub invariant-loop-block : goal.invariant-loop-block
invariant-loop-block l = pots l.u l.v ≡ paid float l.used l.p l.delta (pots l.initial.u l.initial.v) (8 * l.block)
