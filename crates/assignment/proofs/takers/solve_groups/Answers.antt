use native.Mathlib.Omega.{arith}
use mathlib.Core.Path.{refl}
use native.Mathlib.Nat.{mul-le-mul_right}
use lib.Dec.{lit≤}
use Rattle.assignment.proofs.Solving.{room_of}
use Rattle.assignment.proofs.takers.solve_groups.Goals as goal

pub solve_groups_in-requires-2 : goal.solve_groups_in-requires-2
solve_groups_in-requires-2 c =
    let q = c.requires in
    (q, room_of _ _ 4096 _ refl (omega (arith, mul-le-mul_right c.args.columns q.rows_few, q.columns_few)) (lit≤ tt) (lit≤ tt))
