use Rattle.std.proofs.Common.{rules, sym, ◌∙◌}
use Rattle.matrix.proofs.Arrays.{entries_fit}
use Rattle.selected.proofs.Reading.{spread_read}
use Rattle.observation.proofs.spread.Goals as goal

pub returns-then-is_plain : goal.returns-then-is_plain
returns-then-is_plain g c =
    let p = c.args.p in
    c.spread_read.ensures ∙ sym (spread_read g.row.N 5 g.row.FROM (search rules) p (entries_fit 6 6 p _ c.well_formed.0) (sym c.is_plain.ensures ∙ c.if-is_plain.true))
