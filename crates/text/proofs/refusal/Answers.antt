-- The three parts are put one after the other, and chained by `puts_then`.
use Rattle.std.proofs.Common.{arith}
use Rattle.text.proofs.Texts.{puts_same, puts_then, puts_first, refused_is}
use Rattle.text.proofs.refusal.Goals as goal

pub returns : goal.returns
returns c =
    let p = c.put.ensures.place in
    let q = c.put-2.ensures.place in
    puts_first c.new-text.ensures.0 c.new-text.ensures.1 (omega arith) (puts_same (refused_is c.args.n) (puts_then (puts_then c.put.ensures c.put_number.ensures.0) c.put-2.ensures))
