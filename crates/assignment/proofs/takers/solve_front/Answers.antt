use mathlib.Core.Path.{sym, ap, ◌∙◌}
use lib.Seq.{length-take-le}
use Rattle.number.specs.Reply.{given}
use Rattle.assignment.proofs.Solving.{run_is}
use Rattle.assignment.proofs.Singles.{single_is}
use Rattle.assignment.proofs.takers.solve_front.Goals as goal

pub returns-then-is_single : goal.returns-then-is_single
returns-then-is_single c = let e = c.is_single.ensures in ap given c.lay_single.ensures ∙ single_is _ c.args.shape (sym e.0 ∙ c.if-is_single.true) e.1 e.2 e.3

pub returns : goal.returns
returns c = run_is _ c.args.shape c.requires.0 c.requires.1 (length-take-le _ _ c.requires.2) _ _ c.solve.ensures.is
