use mathlib.Core.Path.{sym, ap}
use Rattle.kuhn_munkres.specs.Single.{single_rows}
use Rattle.assignment.proofs.takers.lay_single.Goals as goal

pub returns-then-less : goal.returns-then-less
returns-then-less c = sym (ap single_rows c.if-less.true)

pub returns-else-less : goal.returns-else-less
returns-else-less c = sym (ap single_rows c.if-less.false)
