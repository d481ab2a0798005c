use Rattle.std.proofs.Common.{◌≡◌, rules, true, false}
use mathlib.Core.List.{[]}
use Rattle.std.proofs.lemmas.Iterator.{cases_from_all, YieldsList-from_slice}
use Rattle.matrix.proofs.Tested.{tested}
use Rattle.finite.specs.Finite.{finite_vector, finite_matrix}
use Rattle.finite.proofs.each_row.Goals as goal

pub returns : goal.returns
unfolding finite_matrix
returns g c =
    tested [] (finite_vector g.row.P) g.row.N c.args.a _ (search rules)
    (cases_from_all _ _ _ (λ v. finite_vector g.row.P v ≡ true) (λ v. finite_vector g.row.P v ≡ false) c.all.ensures.ran (YieldsList-from_slice c.args.a cc) (λ v q k. search rules) (λ v q k. search rules))
