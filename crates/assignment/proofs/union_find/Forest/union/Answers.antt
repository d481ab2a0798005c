use mathlib.Core.Path.{◌∙◌}
use native.Mathlib.Omega.{arith}
use Rattle.assignment.proofs.Unions.{united_same, united_below, united_above, united_level}
use Rattle.assignment.proofs.union_find.Forest.union.Goals as goal

pub find-rb-requires : goal.find-rb-requires
find-rb-requires c = let R = c.requires.2 in (c.requires.1, rw c.find-ra.ensures.1 (record { k = R.k; forest = c.find-ra.ensures.0.forest R.k R.forest; room = R.room }))

pub returns-then-ra-rb : goal.returns-then-ra-rb
returns-then-ra-rb c =
    let e = c.find-ra.ensures.1 in
    let f = c.find-rb.ensures.1 ∙ e in
    rw f (united_same _ _ _ _ _ _ _ _ c.requires.2 c.find-ra.ensures.0 (rw e at c.find-rb.ensures.0) c.if-ra-rb.true)

pub returns-then-self-ra : goal.returns-then-self-ra
returns-then-self-ra c =
    let e = c.find-ra.ensures.1 in
    let f = c.find-rb.ensures.1 ∙ e in
    rw f (united_below _ _ _ _ _ _ _ _ c.requires.2 c.find-ra.ensures.0 (rw e at c.find-rb.ensures.0) c.if-ra-rb.false (rw f at c.if-self-ra.true))

pub returns-then-self-ra-2 : goal.returns-then-self-ra-2
returns-then-self-ra-2 c =
    let e = c.find-ra.ensures.1 in
    let f = c.find-rb.ensures.1 ∙ e in
    rw f (united_level _ _ _ _ _ _ _ _ c.requires.2 c.find-ra.ensures.0 (rw e at c.find-rb.ensures.0) c.if-ra-rb.false (rw f at c.if-self-ra-2.true))

pub returns-else-self-ra-2 : goal.returns-else-self-ra-2
returns-else-self-ra-2 c =
    let e = c.find-ra.ensures.1 in
    let f = c.find-rb.ensures.1 ∙ e in
    rw f (united_above _ _ _ _ _ _ _ _ c.requires.2 c.find-ra.ensures.0 (rw e at c.find-rb.ensures.0) c.if-ra-rb.false (omega (arith, rw f at c.if-self-ra-2.false, rw f at c.if-self-ra.false)))
