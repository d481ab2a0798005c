use Rattle.std.proofs.Common.{arith}
use Rattle.square_root.proofs.Squares.{test_true, test_false, bracketed}
use Rattle.square_root.proofs.bisect.Goals as goal

pub loop-end-init : goal.loop-end-init
loop-end-init c = record { below = omega arith; above = omega arith; order = omega arith; range = omega arith }

pub overflow_add-s : goal.overflow_add-s
overflow_add-s c = omega (arith, c.square-s.ensures.small)

pub overflow_add-s-in-loop-end : goal.overflow_add-s-in-loop-end
overflow_add-s-in-loop-end c = omega (arith, c.square-s.ensures.small, c.square-s.ensures.fits)

pub loop-end-preserved-then-s-p : goal.loop-end-preserved-then-s-p
loop-end-preserved-then-s-p c = record { below = let at = c.before.before.before in test_true at.args.a _ _ _ at.square-s.ensures (omega arith) c.if-s-p.true; above = c.loop-end.invariant.above; order = omega arith; range = omega arith }

pub loop-end-preserved : goal.loop-end-preserved
loop-end-preserved c = record { below = c.loop-end.invariant.below; above = let at = c.before.before.before in test_false at.args.a _ _ _ at.square-s.ensures (omega arith) (omega (arith, c.if-s-p.false)); order = omega arith; range = omega arith }

pub returns : goal.returns
returns c = bracketed _ _ _ c.loop-end.invariant (omega arith)
