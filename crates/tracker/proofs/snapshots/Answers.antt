-- The loop keeps `Shown`: the snapshots of the tracks before i stand in front of the blanks.
use mathlib.Core.Path.{ap, ◌∙◌}
use Prim.Native.Nat.{◌<◌}
use lib.ListN.{length-set, length-take}
use lib.Seq.{get_or-take}
use native.Mathlib.Omega.{arith}
use borrow.Author.Rules.{rules}
use Rattle.lists.proofs.Laying.{length_mapped}
use Rattle.lists.proofs.Filling.{filled_start, filled_more}
use Rattle.tables.proofs.Stores.{no_track}
use Rattle.types.specs.Track.{snapshot_of}
use Rattle.tracker.proofs.Showing.{blanks, shown_end}
use Rattle.tracker.proofs.snapshots.Goals as goal

pub loop-i-init : goal.loop-i-init
loop-i-init c =
    let blank = c.snapshot_of-blank.ensures ∙ ap snapshot_of c.blank_track.ensures in
    (omega (arith, c.taken-n.ensures), search (rules, length_mapped), search rules, rw blank (filled_start snapshot_of c.args.t.tracks blanks))

pub loop-i-preserved : goal.loop-i-preserved
loop-i-preserved c =
    let v = c.loop-i.invariant in
    let l = c.args.t.tracks in
    let n = c.taken-n in
    let i = c.loop-i.i in
    let among : i < n.result = omega (arith, c.loop-i-test.true, length-take n.result l) in
    let few : i < 64 = omega (arith, among, v.0) in (
      v.0,
      v.1,
      length-set c.loop-i.items i _ ∙ v.2,
      rw (c.snapshot_of.ensures, get_or-take n.result l i no_track among) (filled_more snapshot_of l blanks c.loop-i.items i no_track v.3 (omega (arith, v.1, few)) few),
    )

pub returns : goal.returns
returns c =
    let v = c.loop-i.invariant in
    let n = c.taken-n in
    shown_end c.args.t n.result c.loop-i.i c.loop-i.items v.1 n.ensures (omega (arith, c.loop-i-test.false, c.loop-i.auto.i-end, length-take n.result c.args.t.tracks, v.0, v.1)) v.3
