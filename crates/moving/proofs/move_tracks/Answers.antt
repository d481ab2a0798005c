-- The loop keeps `Passed`: the tracks before i were aged, dropped or moved, and those kept stand in front. A refusal and the end are its two other laws.
use Rattle.std.proofs.lemmas.Result.{err_from_is_err_and}
use Rattle.std.specs.Prelude.{Option}
use mathlib.Core.Path.{◌≡◌, sym, ap, ◌∙◌}
use lib.ListN.{length, take, get_or, length-take}
use lib.Seq.{get_or-take}
use mathlib.Core.List.{List}
use Prim.Native.Nat.{ℕ, ◌<◌}
use native.Mathlib.Omega.{arith}
use mir.Syntax.{w64}
use mir.Val.{to_z, of_z}
use mir.Facts.{to_z-of_z}
use borrow.Author.Rules.{rules}
use Rattle.number.specs.Reply.{Reply, given}
use Rattle.lists.proofs.Laying.{length_mapped}
use Rattle.tables.proofs.Stores.{no_track}
use Rattle.types.specs.declared.track.Track3D.{Track3D}
use Rattle.moving.specs.Steps.{moved_tracks}
use Rattle.moving.proofs.Passing.{Passed, passed_start, passed_read, passed_drop, passed_keep, passed_stops}
use Rattle.moving.proofs.Tracks.{drops, keeps, stops, all_stop, all_moved}
use Rattle.moving.proofs.move_tracks.Goals as goal
use Rattle.moving.proofs.move_tracks.Goals.{in_default, in-Some}

-- the track that the turn reads is as it was
here : (g : Track3D → Option Track3D) (f : Track3D → Reply Track3D) (l m : List Track3D) (n i j : ℕ) → Passed g f l m i j → i < length (take n l) → get_or (take n l) i no_track ≡ get_or m i no_track
here g f l m n i j s h = get_or-take n l i no_track (omega (arith, h, length-take n l)) ∙ sym (passed_read g f l m i j no_track s)

pub loop-x-init : goal.loop-x-init
loop-x-init c = (omega (arith, c.taken-n.ensures), search (rules, length_mapped), search rules, passed_start _ _ _)

pub returns-in_err-track : goal.returns-in_err-track
returns-in_err-track c =
    let v = c.loop-x.invariant in
    let n = c.taken-n in
    let l = c.args.s.tracks in
    let i = c.loop-x.x-index in
    let t = c.loop-x-test.true in
    let m = stops _ _ _ _ _ (sym (rw (here _ _ l c.loop-x.tracks n.result i c.loop-x.kept v.3 t) at c.in_err-track.ensures)) in
    let p = err_from_is_err_and c.from_residual.result c.from_residual.ensures.1 in
    rw (p.1, p.2)
    (all_stop c.args.s (to_z w64 (of_z w64 c.args.time)) n.result v.1 n.ensures _
    (passed_stops _ _ l c.loop-x.tracks n.result i c.loop-x.kept no_track _ _ v.3 (omega (arith, t, length-take n.result l)) (omega arith) m.goes_on m.moves)
    ∙ ap (moved_tracks c.args.s) (to_z-of_z c.ranges.time))

pub loop-x-preserved : goal.loop-x-preserved
loop-x-preserved c =
    let v = c.loop-x.invariant in
    let n = c.taken-n in
    let l = c.args.s.tracks in
    let i = c.loop-x.x-index in
    let t = c.loop-x-test.true in
    let few = length-take n.result l in
    let same = here _ _ l c.loop-x.tracks n.result i c.loop-x.kept v.3 t in
    elim c.match-branch-2.branch [
      | in_default w ↦ rw (w.tracks-is, w.kept-is) (
        v.0,
        v.1,
        omega (arith, v.2),
        passed_drop _ _ _ _ _ _ no_track v.3 (omega (arith, t, few)) (drops _ _ _ _ (sym (rw same at c.in_ok-track.ensures) ∙ ap (λ (o : Option Track3D). given o) w.in_default.is)),
      )
      | in-Some w ↦ rw (w.tracks-is, w.kept-is) (
          let m = keeps _ _ _ _ _ (sym (rw same at c.in_ok-track.ensures) ∙ ap (λ (o : Option Track3D). given o) w.in-Some.is) in (
            v.0,
            v.1,
            omega (arith, v.2),
            passed_keep _ _ _ _ _ _ no_track _ _ v.3 (omega (arith, t, few)) m.goes_on m.moves,
          )
          )
    ]

pub returns : goal.returns
returns c =
    let v = c.loop-x.invariant in
    let n = c.taken-n in
    let e : c.loop-x.x-index ≡ n.result = omega (arith, c.loop-x-test.false, c.loop-x.auto.x-index-end, length-take n.result c.args.s.tracks, v.0, v.1) in
    all_moved c.args.s (to_z w64 (of_z w64 c.args.time)) n.result v.1 n.ensures c.loop-x.tracks c.loop-x.x-index c.loop-x.kept v.3 e
    ∙ ap (moved_tracks c.args.s) (to_z-of_z c.ranges.time)
