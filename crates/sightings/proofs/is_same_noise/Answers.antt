-- Where all pairs are the same, so are the two lists.
use Rattle.std.proofs.Common.{◌≡◌, rules}
use Rattle.std.proofs.lemmas.Iterator.{cases_from_all, YieldsList-from_slice, YieldsList-from_zip}
use Rattle.sightings.proofs.Same.{all_same}
use Rattle.sightings.proofs.is_same_noise.Goals as goal

pub returns : goal.returns
returns c =
    all_same _ _ _ (search rules)
    (cases_from_all c.all.new.self _ _ (λ p. p.0 ≡ p.1) (λ p. Unit {0}) c.all.ensures.ran (YieldsList-from_zip (YieldsList-from_slice c.args.a cc) (YieldsList-from_slice c.args.b cc)) (λ x q k. search rules) (λ x q k. tt))
