use mathlib.Core.Path.{sym}
use borrow.Author.Rules.{rules}
use Rattle.c_tracker.specs.Calls.{check_answer}
use Rattle.c_tracker.proofs.settings_check.Goals as goal

pub returns : goal.returns
unfolding check_answer
returns c = rw (sym c.validate.ensures) (search rules)
