use Rattle.square_root.proofs.Powers.{shifted}
use Rattle.square_root.proofs.normalize.Goals as goal

pub overflow_sub-doubled : goal.overflow_sub-doubled
overflow_sub-doubled c = (shifted c.args.t c.requires.0 c.requires.1).room

pub returns : goal.returns
returns c = rw c.from.ensures (shifted c.args.t c.requires.0 c.requires.1).normal
