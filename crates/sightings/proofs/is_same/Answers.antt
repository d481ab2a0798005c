use borrow.Author.Rules.{rules}
use borrow.Author.Tests.{eqb-true}
use Rattle.number.proofs.Equal.{eq_turned}
use Rattle.square_root.proofs.Patterns.{eq_no_nan}
use Rattle.sightings.proofs.Same.{bits_same}
use Rattle.sightings.proofs.is_same.Goals as goal

pub float_to_bits-result-then-a-b : goal.float_to_bits-result-then-a-b
float_to_bits-result-then-a-b c = eq_no_nan _ _ (eq_turned _ _ c.if-a-b.true)

pub returns-then-a-b : goal.returns-then-a-b
returns-then-a-b c = λ e. bits_same _ _ (search rules) (search rules) (eqb-true _ _ e)
