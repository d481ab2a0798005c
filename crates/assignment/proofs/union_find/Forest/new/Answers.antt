use Rattle.std.proofs.Common.{rules}
use mathlib.Core.Path.{refl}
use Rattle.assignment.proofs.union_find.Forest.new.Goals as goal

pub returns : goal.returns
returns c = let r = c.from_fn.ensures.items in (record { long = r.long; own = λ x h. (let at = r.at x 0 h in search rules) }, refl)
