use native.Mathlib.Omega.{arith}
use mathlib.Core.Path.{◌≡◌}
use Rattle.assignment.proofs.Items.{stage_first, row_end, stage_roomy, stage_next, stage_done}
use Rattle.assignment.proofs.joining.join_all.Goals as goal

pub loop-i-init : goal.loop-i-init
loop-i-init c = (omega arith, rw c.requires.4 (stage_first _ _ _ _ c.requires.3))

pub join_row-requires : goal.join_row-requires
join_row-requires c = let t = c.loop-i-test.true in (row_end _ _ _ _ _ _ c.requires.0 c.requires.1 c.requires.2 t c.loop-i.invariant.1, omega (arith, c.requires.0, c.requires.1), omega (arith, c.requires.0), stage_roomy _ _ _ _ _ _ c.requires.0 c.requires.1 c.requires.2 t c.loop-i.invariant.1)

pub loop-i-preserved : goal.loop-i-preserved
loop-i-preserved c = let t = c.loop-i-test.true in (omega arith, stage_next _ _ _ _ _ _ c.requires.0 c.requires.1 c.requires.2 t c.loop-i.invariant.1 _ _ c.join_row.ensures)

pub returns : goal.returns
returns c = let e : c.loop-i.i ≡ c.args.rows = omega (arith, c.loop-i-test.false, c.loop-i.invariant.0) in stage_done _ _ _ _ _ c.requires.0 c.requires.1 (rw e at c.loop-i.invariant.1)
