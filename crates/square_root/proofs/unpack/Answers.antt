use Rattle.std.proofs.Common.{◌/◌, ◌%◌, ◌^◌, ◌∙◌, arith}
use Rattle.square_root.proofs.Powers.{undo, at_zero, at_field}
use Rattle.square_root.proofs.unpack.Goals as goal

pub returns-then-field-eq0 : goal.returns-then-field-eq0
returns-then-field-eq0 c =
    let n = c.normalize-s in
    let b = c.args.b in
    record {
      is = undo (b % 2 ^ 52) n.result.doubled n.result.digits n.ensures.is n.ensures.few ∙ at_zero (b / 2 ^ 52) (b % 2 ^ 52) c.if-field-eq0.true;
      least = n.ensures.least;
      most = n.ensures.most;
      low = omega (arith, n.ensures.few);
      high = omega arith;
    }

pub returns-else-field-eq0 : goal.returns-else-field-eq0
returns-else-field-eq0 c =
    let b = c.args.b in
    record { is = at_field (b / 2 ^ 52) (b % 2 ^ 52) c.if-field-eq0.false; least = omega arith; most = omega arith; low = omega arith; high = omega arith }
