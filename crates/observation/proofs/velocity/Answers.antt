use Rattle.std.proofs.Common.{◌∙◌}
use Rattle.models.specs.Models.{selection}
use Rattle.observation.proofs.Seen.{times_turned}
use Rattle.observation.proofs.velocity.Goals as goal

pub returns : goal.returns
returns c = c.row_worked.ensures ∙ times_turned 2 6 (selection 2 6 3) c.args.x
