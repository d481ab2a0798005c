use native.Mathlib.Omega.{arith}
use mathlib.Core.Path.{◌∙◌}
use Rattle.assignment.proofs.Names.{names_are}
use Rattle.assignment.proofs.joining.named_groups.Goals as goal

pub read_off-of_rows-requires : goal.read_off-of_rows-requires
read_off-of_rows-requires c = (c.requires.0, omega arith, rw c.last_rows-last.ensures.1 c.last_rows-last.ensures.0.ranked)

pub read_off-of_columns-requires : goal.read_off-of_columns-requires
read_off-of_columns-requires c = (c.requires.1, c.requires.0, rw c.read_off-of_rows.ensures.1 c.read_off-of_rows.ensures.0.ranked)

pub returns : goal.returns
returns c =
    let e = c.last_rows-last.ensures.1 in
    let f = c.read_off-of_rows.ensures.1 ∙ e in
    names_are _ _ _ c.requires.0 c.requires.2 _ _ _ _ _ _ _ _ c.requires.1 c.join_all.ensures.labelled c.last_rows-last.ensures.0 (rw e at c.read_off-of_rows.ensures.0) (rw f at c.read_off-of_columns.ensures.0)
