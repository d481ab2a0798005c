use Rattle.std.proofs.Common.{arith}
use Rattle.text.proofs.Texts.{puts_same, puts_then, item_is}
use Rattle.text.proofs.bytes.Text.put_item.Goals as goal

pub returns : goal.returns
returns c = (puts_same (item_is c.args.n) (puts_then c.put.ensures c.put_number.ensures.0), let p = c.put.ensures.place in omega arith)
