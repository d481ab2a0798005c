use Rattle.c_solvers.proofs.Mated.{paired, call_short, call_refused, call_given}
use Rattle.c_solvers.proofs.mates.linear_assignment.Goals as goal

pub returns-then-mates-rows : goal.returns-then-mates-rows
returns-then-mates-rows c = call_short c.args.costs.now c.args.rows c.args.columns c.args.row_cost c.args.column_cost c.args.mates.now c.if-mates-rows.true

pub write_mates-requires : goal.write_mates-requires
write_mates-requires c = ((paired c.args.costs.now c.args.rows c.args.columns c.args.row_cost c.args.column_cost _ c.in-Ok.ensures).count_few, c.if-mates-rows.false)

pub returns-in-Ok : goal.returns-in-Ok
returns-in-Ok c =
    call_given c.args.costs.now c.args.rows c.args.columns c.args.row_cost c.args.column_cost c.args.mates.now c.in-Ok.found _ c.if-mates-rows.false
    (paired c.args.costs.now c.args.rows c.args.columns c.args.row_cost c.args.column_cost _ c.in-Ok.ensures) c.write_mates.ensures

pub returns-in-Err : goal.returns-in-Err
returns-in-Err c = rw c.from.ensures (call_refused c.args.costs.now c.args.rows c.args.columns c.args.row_cost c.args.column_cost c.args.mates.now c.in-Err.why c.if-mates-rows.false c.in-Err.ensures)
