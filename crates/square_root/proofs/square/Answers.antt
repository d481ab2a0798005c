use Rattle.std.proofs.Common.{arith}
use Rattle.square_root.proofs.Squares.{hh_lt, hl_lt, ll_lt, squared}
use Rattle.square_root.proofs.square.Goals as goal

pub overflow_mul-cross : goal.overflow_mul-cross
overflow_mul-cross c = omega (arith, hl_lt c.args.q c.requires)

pub overflow_mul-result : goal.overflow_mul-result
overflow_mul-result c = omega (arith, hh_lt c.args.q c.requires)

pub overflow_add-result : goal.overflow_add-result
overflow_add-result c = omega (arith, hh_lt c.args.q c.requires, hl_lt c.args.q c.requires)

pub overflow_mul-result-3 : goal.overflow_mul-result-3
overflow_mul-result-3 c = omega (arith, ll_lt c.args.q)

pub overflow_add-result-2 : goal.overflow_add-result-2
overflow_add-result-2 c = omega (arith, ll_lt c.args.q)

pub returns : goal.returns
returns c = squared c.args.q c.requires
