-- The four parts are put one after the other, and chained by `puts_then`.
use Rattle.std.proofs.Common.{arith}
use Rattle.text.proofs.Texts.{puts_same, puts_then, pair_is}
use Rattle.text.proofs.bytes.Text.put_pair.Goals as goal

pub returns : goal.returns
returns c = (
  puts_same (pair_is c.args.row c.args.column) (puts_then (puts_then (puts_then c.put.ensures c.put_number.ensures.0) c.put_item.ensures.0) c.put-2.ensures),
  let p = c.put.ensures.place in let q = c.put-2.ensures.place in omega arith,
)
