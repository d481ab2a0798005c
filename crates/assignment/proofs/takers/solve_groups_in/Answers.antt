use Rattle.std.proofs.lemmas.Result.{err_from_is_err_and}
use native.Mathlib.Omega.{arith}
use Rattle.std.proofs.Common.{rules}
use mathlib.Core.Path.{◌≡◌, refl, ◌∙◌}
use Rattle.assignment.proofs.Solving.{room_kept, going_first, going_next, going_stops, going_done}
use Rattle.assignment.proofs.takers.solve_groups_in.Goals as goal

pub loop-g-init : goal.loop-g-init
loop-g-init c = (omega arith, refl, going_first _ _ _ _ _ _ _ (search rules))

pub solve_group-requires : goal.solve_group-requires
solve_group-requires c = (c.requires.0, c.loop-g-test.true, room_kept c.requires.1 c.loop-g.invariant.1)

pub returns-in_err-solve_group : goal.returns-in_err-solve_group
returns-in_err-solve_group c =
    let p = err_from_is_err_and c.from_residual.result c.from_residual.ensures.1 in
    rw (p.1, p.2) (going_stops _ _ _ _ _ _ _ _ _ _ c.loop-g-test.true c.loop-g.invariant.2 _ c.in_err-solve_group.ensures.1)

pub loop-g-preserved : goal.loop-g-preserved
loop-g-preserved c =
    let e = c.in_ok-solve_group.ensures in
    (omega (arith, c.loop-g-test.true), e.0 ∙ c.loop-g.invariant.1, going_next _ _ _ _ _ _ _ _ _ _ c.loop-g-test.true c.loop-g.invariant.2 e.1)

pub returns : goal.returns
returns c = let e : c.loop-g.g ≡ c.args.rows = omega (arith, c.loop-g-test.false, c.loop-g.invariant.0) in going_done _ _ _ _ _ _ _ _ (rw e at c.loop-g.invariant.2)
