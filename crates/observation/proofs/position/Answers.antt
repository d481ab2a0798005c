use Rattle.std.proofs.Common.{◌∙◌}
use Rattle.models.specs.Models.{selection}
use Rattle.observation.proofs.Seen.{times_turned}
use Rattle.observation.proofs.position.Goals as goal

pub returns : goal.returns
returns c = c.row_worked.ensures ∙ times_turned 3 6 (selection 3 6 0) c.args.x
