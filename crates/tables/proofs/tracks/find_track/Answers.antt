use mathlib.Core.Path.{sym}
use native.Mathlib.Omega.{arith}
use borrow.Author.Rules.{rules}
use borrow.Author.Tests.{eq-eqb, ne_eqb}
use Rattle.lists.proofs.Laying.{length_mapped}
use Rattle.types.specs.States.{tracks_of}
use Rattle.tables.specs.Operations.{numbered}
use Rattle.tables.proofs.Positions.{missed_start, missed_more, found, nowhere}
use Rattle.tables.proofs.Stores.{no_track}
use Rattle.tables.proofs.tracks.find_track.Goals as goal

pub loop-i-init : goal.loop-i-init
loop-i-init c = (search rules, omega (arith, c.taken-n.ensures), search (rules, length_mapped), missed_start (numbered _) no_track _)

pub returns-then-id-s : goal.returns-then-id-s
unfolding tracks_of
returns-then-id-s c =
    let l = c.before.before in
    let n = l.taken-n in
    let a = l.args in
    let v = l.loop-i.invariant in
    sym (found a.s.tracks 64 a.s.track_count n.result v.2 n.ensures (numbered a.id) no_track l.loop-i.i v.3 c.loop-i-test.true (eq-eqb _ _ c.if-id-s.true))

pub loop-i-preserved : goal.loop-i-preserved
loop-i-preserved c =
    let v = c.loop-i.invariant in
    (search rules, v.1, v.2, missed_more (numbered _) no_track _ _ v.3 (ne_eqb _ _ c.if-id-s.false))

pub returns : goal.returns
unfolding tracks_of
returns c =
    let n = c.taken-n in
    let a = c.args in
    let v = c.loop-i.invariant in
    sym (nowhere a.s.tracks 64 a.s.track_count n.result v.2 n.ensures (numbered a.id) no_track c.loop-i.i v.3 (omega arith))
