use borrow.Author.Rules.{rules}
use Rattle.number.proofs.Signed.{lt_of}
use Rattle.lifecycle.specs.Lifecycle.{settled, next}
use Rattle.lifecycle.proofs.settle_lost.Goals as goal

pub returns-then-config-age : goal.returns-then-config-age
unfolding settled next
returns-then-config-age c =
    let s = c.before.before.before in
    simp (lt_of s.args.config.lost_to_delete_ns s.args.age (search rules) s.ranges.age c.if-config-age.true)

pub returns-else-config-age : goal.returns-else-config-age
unfolding settled next
returns-else-config-age c =
    let s = c.before.before.before in
    simp (lt_of s.args.config.lost_to_delete_ns s.args.age (search rules) s.ranges.age c.if-config-age.false)
