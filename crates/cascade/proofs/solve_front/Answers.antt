use Rattle.std.proofs.lemmas.Result.{err_from_is_err_and}
use mathlib.Core.Path.{sym}
use Prim.Native.Nat.{ℕ, ◌*◌, ◌≤◌}
use native.Mathlib.Nat.{mul-le-mul_right}
use native.Mathlib.Omega.{arith}
use lib.Seq.{length-take-le}
use Rattle.cascade.proofs.Whole.{refused_with}
use Rattle.cascade.proofs.solve_front.Goals as goal

room : (r c : ℕ) → r ≤ 64 → c ≤ 64 → r * c ≤ 4096
room r c h l = let p : r * c ≤ 64 * c = mul-le-mul_right c h in omega (arith, p)

pub overflow_mul-end : goal.overflow_mul-end
overflow_mul-end c = let s = c.before in omega (arith, room _ _ s.requires.0 s.requires.1)

pub slice_bounds-pair_columns-end : goal.slice_bounds-pair_columns-end
slice_bounds-pair_columns-end c = sym (length-take-le _ _ c.before.before.requires.2)

pub pair_columns-requires : goal.pair_columns-requires
pair_columns-requires c = c.before.before.before.requires.3

pub returns : goal.returns
returns c = c.in_ok-pair_columns.ensures

pub returns-in_err-pair_columns : goal.returns-in_err-pair_columns
returns-in_err-pair_columns c =
    let p = err_from_is_err_and c.from_residual.result c.from_residual.ensures.1 in
    rw (p.1, p.2) (refused_with _ _ c.in_err-pair_columns.ensures)
