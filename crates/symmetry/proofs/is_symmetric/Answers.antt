use Rattle.std.proofs.Common.{sym, ◌∙◌}
use Rattle.symmetry.proofs.Mirrored.{mirrored_symmetric}
use Rattle.symmetry.proofs.is_symmetric.Goals as goal

pub returns-then-is_mirrored : goal.returns-then-is_mirrored
returns-then-is_mirrored g c = c.if-is_mirrored.true ∙ mirrored_symmetric _ _ (sym c.is_mirrored.ensures ∙ c.if-is_mirrored.true)
