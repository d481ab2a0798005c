-- The loop keeps `Gathered`: the places of the confirmed tracks so far stand in front.
use mathlib.Core.Path.{◌≡◌, sym, ◌∙◌}
use lib.ListN.{length, length-take}
use native.Mathlib.Omega.{arith}
use borrow.Author.Rules.{rules}
use Rattle.lists.proofs.Laying.{length_mapped}
use Rattle.tables.proofs.Stores.{no_track}
use Rattle.spawning.proofs.Placing.{gathered_start, gathered_drop, gathered_keep, gathered_end}
use Rattle.spawning.proofs.ruling.confirmed_places.Goals as goal
use Rattle.spawning.proofs.ruling.confirmed_places.Goals.{then-is_confirmed, else-is_confirmed}

pub loop-x-init : goal.loop-x-init
loop-x-init c = (omega (arith, length-take c.taken-n.result c.args.t.tracks, c.taken-n.ensures), omega arith, rw c.no_spot-items.ensures (gathered_start _))

pub loop-x-preserved : goal.loop-x-preserved
loop-x-preserved c =
    let v = c.loop-x.invariant in
    let i = c.loop-x.x-index in
    elim c.if-is_confirmed.branch [
      | then-is_confirmed w ↦ rw (w.items-is, w.count-is) (
        v.0,
        omega (arith, v.1),
        (
            let g = gathered_keep _ c.loop-x.items i c.loop-x.count no_track v.2 c.loop-x-test.true (omega (arith, v.0, c.loop-x-test.true)) (sym c.is_confirmed.ensures ∙ w.if-is_confirmed.true) in
            rw w.spot_of.ensures g
            ),
      )
      | else-is_confirmed w ↦ rw (w.items-is, w.count-is) (
        v.0,
        omega (arith, v.1),
        gathered_drop _ c.loop-x.items i c.loop-x.count no_track v.2 c.loop-x-test.true (sym c.is_confirmed.ensures ∙ w.if-is_confirmed.false),
      )
    ]

pub returns : goal.returns
returns c =
    let n = c.taken-n in
    let t = c.args.t in
    let l : length t.tracks ≡ 64 = search (rules, length_mapped) in
    gathered_end t n.result c.loop-x.items c.loop-x.x-index c.loop-x.count l n.ensures (omega (arith, c.loop-x-test.false, c.loop-x.auto.x-index-end)) c.loop-x.invariant.2
