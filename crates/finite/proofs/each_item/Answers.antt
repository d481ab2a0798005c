use Rattle.std.proofs.Common.{◌≡◌, rules, true, false}
use Rattle.std.specs.Float.{nan}
use Rattle.std.specs.Float.Ieee.Scale.{finite}
use Rattle.std.proofs.lemmas.Iterator.{cases_from_all, YieldsList-from_slice}
use Rattle.matrix.proofs.Tested.{tested}
use Rattle.finite.specs.Finite.{finite_vector}
use Rattle.finite.proofs.each_item.Goals as goal

pub returns : goal.returns
unfolding finite_vector
returns g c =
    tested nan finite g.row.N c.args.x _ (search rules)
    (cases_from_all _ _ _ (λ v. finite v ≡ true) (λ v. finite v ≡ false) c.all.ensures.ran (YieldsList-from_slice c.args.x cc) (λ v q k. search rules) (λ v q k. search rules))
