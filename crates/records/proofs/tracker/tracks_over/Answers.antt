-- The loop keeps `Filled`: the tracks of u before i stand in t's first places.
use mathlib.Core.Path.{◌≡◌, ap, sym, ◌∙◌}
use mathlib.Core.List.{List, map}
use native.Mathlib.Omega.{arith}
use borrow.Author.Rules.{rules}
use lib.ListN.{length, take}
use lib.Seq.{take-length}
use Rattle.lists.specs.Lay.{lay}
use Rattle.lists.proofs.Laying.{length_mapped}
use Rattle.lists.proofs.Filling.{filled_start, filled_more}
use Rattle.lists.proofs.Tables.{rows, rows_length}
use Rattle.types.specs.declared.track.Track3D.{Track3D}
use Rattle.types.specs.States.{tracks_of}
use Rattle.records.specs.Tracks.{track_to}
use Rattle.records.proofs.tracker.tracks_over.Goals as goal

pub loop-i-init : goal.loop-i-init
loop-i-init c = (c.taken-n.ensures, search (rules, length_mapped), search (rules, length_mapped), filled_start track_to _ _)

pub loop-i-preserved : goal.loop-i-preserved
loop-i-preserved c =
    let v = c.loop-i.invariant in
    let u = c.args.u in
    let at = c.loop-i-test.true in
    (v.0, v.1, v.2, rw c.track_to.ensures (filled_more track_to _ _ _ _ _ v.3 at (omega (arith, at, rows_length u.tracks 64 u.track_count _ v.1 v.0, v.0, v.2))))

pub returns : goal.returns
unfolding tracks_of
returns c =
    let v = c.loop-i.invariant in
    let u = c.args.u in
    let l : List Track3D = take c.taken-n.result u.tracks in
    let e : c.loop-i.i ≡ length l = omega (arith, c.loop-i-test.false, c.loop-i.auto.i-end) in
    v.3.slots
    ∙ ap (λ (q : List Track3D). lay (map track_to q) c.args.t.tracks) (ap (λ k. take k l) e ∙ take-length l ∙ sym (rows u.tracks 64 u.track_count _ v.1 v.0))
