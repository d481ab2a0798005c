use mathlib.Core.Path.{◌≡◌, ap, ◌∙◌}
use mathlib.Core.Bool.{true}
use lib.Ieee.{Float, lt}
use Rattle.std.proofs.Common.{Option, Some, None, unwrap_or}
use Rattle.matrix.specs.Matrix.{nought}
use Rattle.square_root.specs.Root.{root_reply, reply_of_root}
use Rattle.cholesky.specs.Cholesky.{pivot_root, root_in}
use Rattle.cholesky.proofs.Factors.{pivot_given, pivot_refused, pivot_low}
use Rattle.cholesky.proofs.root_or_zero.Goals as goal

or_nought : (p : Float) (o : Option Float) → lt nought p ≡ true → reply_of_root o ≡ root_reply p → unwrap_or o nought ≡ root_in (pivot_root p)
or_nought p (Some d) t e = ap root_in (pivot_given p t e)
or_nought p None t e = ap root_in (pivot_refused p t e)

pub returns-then-p : goal.returns-then-p
returns-then-p c = c.unwrap_or.ensures ∙ or_nought _ c.root.result c.if-p.true c.root.ensures.is

pub returns-else-p : goal.returns-else-p
returns-else-p c = ap root_in (pivot_low _ c.if-p.false)
