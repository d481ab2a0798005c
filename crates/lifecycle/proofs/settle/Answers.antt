use mathlib.Core.Path.{sym, ◌∙◌}
use borrow.Author.Rules.{rules}
use mir.Facts.{to_z-of_z}
use Rattle.number.proofs.Signed.{lt_of}
use Rattle.lifecycle.specs.Lifecycle.{settled, next}
use Rattle.lifecycle.proofs.Steps.{settled_confirmed}
use Rattle.lifecycle.proofs.settle.Goals as goal

pub returns-then-config-age : goal.returns-then-config-age
unfolding settled next
returns-then-config-age c =
    let s = c.before.before.before.before in
    simp (c.in-Tentative.is, lt_of s.args.config.tentative_timeout_ns s.args.age (search rules) s.ranges.age c.if-config-age.true)

pub returns-else-config-age : goal.returns-else-config-age
unfolding settled next
returns-else-config-age c =
    let s = c.before.before.before.before in
    simp (c.in-Tentative.is, lt_of s.args.config.tentative_timeout_ns s.args.age (search rules) s.ranges.age c.if-config-age.false)

pub returns-then-config-age-2 : goal.returns-then-config-age-2
returns-then-config-age-2 c =
    let s = c.before.before.before.before.before in
    rw c.in-Confirmed.is
    ((rw (to_z-of_z s.ranges.age) at c.settle_lost.ensures) ∙ sym (settled_confirmed s.args.config s.args.age (lt_of s.args.config.confirmed_to_lost_ns s.args.age (search rules) s.ranges.age c.if-config-age-2.true)))

pub returns-else-config-age-2 : goal.returns-else-config-age-2
unfolding settled next
returns-else-config-age-2 c =
    let s = c.before.before.before.before in
    simp (c.in-Confirmed.is, lt_of s.args.config.confirmed_to_lost_ns s.args.age (search rules) s.ranges.age c.if-config-age-2.false)

pub returns-in-Lost : goal.returns-in-Lost
returns-in-Lost c = let s = c.before.before in rw c.in-Lost.is (rw (to_z-of_z s.ranges.age) at c.settle_lost-in-Lost.ensures)

pub returns-in-Deleted : goal.returns-in-Deleted
unfolding settled next
returns-in-Deleted c = simp c.in-Deleted.is
