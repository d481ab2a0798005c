use Rattle.std.proofs.Common.{ap, ◌∙◌}
use Rattle.solving.specs.Solving.{backward, solved}
use Rattle.solving.proofs.solution.Goals as goal

pub returns : goal.returns
unfolding solved
returns g c = c.backward.ensures ∙ ap (backward g.row.N c.args.columns.now) c.forward.ensures
