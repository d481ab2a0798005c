use mathlib.Core.Path.{refl}
use Rattle.settings.specs.Fields.{first_bad}
use Rattle.settings.proofs.check.refuse_if.Goals as goal

pub returns-then-bad : goal.returns-then-bad
unfolding first_bad
returns-then-bad c = rw c.if-bad.true refl

pub returns-else-bad : goal.returns-else-bad
unfolding first_bad
returns-else-bad c = rw c.if-bad.false refl
