-- The loop keeps `Stepped`: the tracks before i are updated in place. A track with a mate takes one law, one without another, a refusal ends it.
use Rattle.std.proofs.lemmas.Result.{err_from_is_err_and}
use Rattle.std.specs.Prelude.{Option}
use mathlib.Core.Path.{◌≡◌, sym, ◌∙◌}
use mathlib.Core.List.{List}
use Prim.Native.Nat.{ℕ, ◌<◌}
use lib.ListN.{length, take, get_or, length-take}
use lib.Seq.{get_or-take}
use native.Mathlib.Omega.{arith}
use borrow.Author.Rules.{rules}
use Rattle.lists.proofs.Laying.{length_mapped}
use Rattle.tables.proofs.Stores.{no_track}
use Rattle.lists.proofs.Stepping.{Stepped, stepped_start, stepped_read}
use Rattle.detections.specs.declared.Detection.{Detection}
use Rattle.types.specs.declared.track.Track3D.{Track3D}
use Rattle.updating.specs.declared.Update.{Update}
use Rattle.association.specs.Told.{mate_of}
use Rattle.updating.proofs.All.{steps, has_mate, no_mate, as_it_was, updated, stops, all_stop, all_updated}
use Rattle.updating.proofs.update_tracks.Goals as goal
use Rattle.updating.proofs.update_tracks.Goals.{then-j-lt-MAX_OBSERVATIONS+in_ok-track, else-j-lt-MAX_OBSERVATIONS}

-- the track that the turn reads is as it was
here : (u : Update) (took : ℕ → Option Detection) (l m : List Track3D) (n i : ℕ) → Stepped (steps u took) l m i → i < length (take n l) → get_or (take n l) i no_track ≡ get_or m i no_track
here u took l m n i s h = get_or-take n l i no_track (omega (arith, h, length-take n l)) ∙ sym (stepped_read (steps u took) l m i no_track s)

pub loop-i-init : goal.loop-i-init
loop-i-init c = (omega (arith, c.taken-n.ensures), search (rules, length_mapped), stepped_start _ _)

pub returns-in_err-track : goal.returns-in_err-track
returns-in_err-track c =
    let n = c.taken-n in
    let a = c.args in
    let v = c.loop-i.invariant in
    let same = here a.u (mate_of a.mates a.observations) a.s.tracks c.loop-i.tracks n.result c.loop-i.i v.2 c.loop-i-test.true in
    let p = err_from_is_err_and c.from_residual.result c.from_residual.ensures.1 in
    rw (p.1, p.2)
    (all_stop a.s (mate_of a.mates a.observations) a.u n.result v.1 n.ensures _
    (stops a.u (mate_of a.mates a.observations) a.s.tracks c.loop-i.tracks c.loop-i.i no_track v.2 n.result _ _ (omega (arith, c.loop-i-test.true, length-take n.result a.s.tracks)) (omega arith)
    (has_mate a.mates a.observations c.loop-i.i c.if-j-lt-MAX_OBSERVATIONS.true)
    (sym (rw same at c.in_err-track.ensures))))

pub loop-i-preserved : goal.loop-i-preserved
loop-i-preserved c =
    let a = c.args in
    let v = c.loop-i.invariant in
    let n = c.taken-n in
    let few = length-take n.result a.s.tracks in
    let same = here a.u (mate_of a.mates a.observations) a.s.tracks c.loop-i.tracks n.result c.loop-i.i v.2 c.loop-i-test.true in
    elim c.if-j-lt-MAX_OBSERVATIONS.branch [
      | then-j-lt-MAX_OBSERVATIONS+in_ok-track w ↦ rw w.tracks-is (
        v.0,
        v.1,
        updated a.u (mate_of a.mates a.observations) _ _ c.loop-i.i no_track v.2 _ _ (omega (arith, c.loop-i-test.true, few)) (has_mate a.mates a.observations c.loop-i.i w.if-j-lt-MAX_OBSERVATIONS.true) (sym (rw same at w.in_ok-track.ensures)),
      )
      | else-j-lt-MAX_OBSERVATIONS w ↦ rw w.tracks-is (
        v.0,
        v.1,
        as_it_was a.u (mate_of a.mates a.observations) _ _ c.loop-i.i no_track v.2 (omega (arith, c.loop-i-test.true, few)) (no_mate a.mates a.observations c.loop-i.i w.if-j-lt-MAX_OBSERVATIONS.false),
      )
    ]

pub returns : goal.returns
returns c =
    let n = c.taken-n in
    let a = c.args in
    let v = c.loop-i.invariant in
    all_updated a.s _ a.u n.result v.1 n.ensures c.loop-i.tracks c.loop-i.i v.2 (omega (arith, c.loop-i-test.false, c.loop-i.auto.i-end, length-take n.result a.s.tracks, v.0, v.1))
