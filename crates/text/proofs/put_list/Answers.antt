-- The loop keeps that the first numbers are put, three bytes each at most.
use Rattle.std.proofs.Common.{arith}
use Rattle.text.specs.Text.{list_text}
use Rattle.text.proofs.Texts.{puts_none, puts_same, puts_then, list_more}
use Rattle.text.proofs.put_list.Goals as goal

pub loop-n-init : goal.loop-n-init
unfolding list_text
loop-n-init c = (puts_none c.args.text.now, omega arith)

pub loop-n-preserved : goal.loop-n-preserved
loop-n-preserved c = (
  puts_same (list_more c.args.list.now c.loop-n.n-index c.loop-n-test.true) (puts_then c.loop-n.invariant.0 c.put_item.ensures.0),
  omega arith,
)
