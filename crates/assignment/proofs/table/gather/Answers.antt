use native.Mathlib.Omega.{arith}
use Rattle.std.proofs.Common.{rules, ◌≡◌, length}
use native.Mathlib.Nat.{mul-le-mul_right}
use Rattle.assignment.proofs.table.gather.Goals as goal

pub gather_in-requires : goal.gather_in-requires
gather_in-requires c =
    let long : length c.args.own.now ≡ 4096 = search rules in
    (c.requires.0, c.requires.1, c.requires.2, omega (arith, mul-le-mul_right c.args.columns c.requires.0, c.requires.1), omega arith)
