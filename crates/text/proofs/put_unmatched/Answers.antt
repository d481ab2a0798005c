-- The five parts are put one after the other, and chained by `puts_then`.
use Rattle.std.proofs.Common.{arith}
use Rattle.text.proofs.Texts.{puts_same, puts_then, unmatched_is}
use Rattle.text.proofs.put_unmatched.Goals as goal

pub returns : goal.returns
returns c = (
  puts_same (unmatched_is _ _) (puts_then (puts_then (puts_then (puts_then c.put.ensures c.put_list.ensures.0) c.put-2.ensures) c.put_list-2.ensures.0) c.put-3.ensures),
  let p = c.put.ensures.place in let q = c.put-2.ensures.place in let r = c.put-3.ensures.place in omega arith,
)
