use Rattle.cholesky.proofs.Factors.{pivot_found, pivot_low}
use Rattle.cholesky.proofs.pivot_root.Goals as goal

pub returns-then-p : goal.returns-then-p
returns-then-p c = pivot_found _ c.if-p.true c.root_or_zero-d.ensures

pub returns-else-p : goal.returns-else-p
returns-else-p c = pivot_low _ c.if-p.false
