-- `matching::assign_columns` meets its contract, by the window that is set or not. Assumes nothing.
use mir.Syntax.{w64}
use mir.Val.{SFits}
use mir.Facts.{to_z-of_z}
use borrow.Author.Rules.{rules}
use Rattle.matching.proofs.Taking.{all_done, window_set}
use Rattle.matching.proofs.assign_columns.Goals as goal

pub returns-in-None : goal.returns-in-None
returns-in-None c =
    all_done c.args.window c.in-None.is c.args.gate c.args.time _ _ c.args.table.rows c.args.table.columns _ _ c.pair_all.ensures.0 c.pair_all.ensures.1

pub returns-in-Some : goal.returns-in-Some
returns-in-Some c =
    let f : SFits w64 c.in-Some.limit = search rules in
    window_set c.args.window _ c.in-Some.is c.args.gate c.args.time _ _ c.args.table.columns _ _ (rw (to_z-of_z c.ranges.time, to_z-of_z f) at c.assign_recent_first.ensures)
