-- The loop keeps `Passed`: the tracks before i were aged, dropped or moved in the record; all other fields are as they were.
use Rattle.std.proofs.lemmas.Result.{err_from_is_err_and}
use mathlib.Core.Path.{◌≡◌, refl, ap, ◌∙◌}
use mir.Facts.{to_z-of_z}
use lib.ListN.{length, set, length-set}
use native.Mathlib.Omega.{arith}
use borrow.Author.Rules.{rules}
use Rattle.lists.proofs.Laying.{length_mapped}
use Rattle.records.specs.declared.tracker.PkTracker.{PkTracker}
use Rattle.records.specs.Tracks.{track_to}
use Rattle.moving.proofs.Passing.{passed_start}
use Rattle.owner.proofs.Carrying.{carrying_drop, carrying_keep, carrying_stops}
use Rattle.owner.proofs.Predicting.{with_pk_tracks, too_early, begun, track_refused, all_at_time}
use Rattle.owner.proofs.predict_to.Goals as goal

pub returns-then-is_before : goal.returns-then-is_before
returns-then-is_before c = too_early _ _ c.flagged-last.ensures (search rules) c.is_before.ensures (to_z-of_z c.ranges.time) c.if-is_before.true

pub loop-i-init : goal.loop-i-init
loop-i-init c =
    let st : length c.args.t.tracks ≡ 64 = search (rules, length_mapped) in
    let ss : length c.args.t.sequences ≡ 32 = search (rules, length_mapped) in
    let sk : length c.args.t.candidates ≡ 64 = search (rules, length_mapped) in (
      search rules,
      omega (arith, c.taken-all.ensures),
      st,
      search rules,
      refl,
      passed_start _ _ _,
      begun _ _ c.flagged-last.ensures (search rules) c.is_before.ensures c.settings_of-config.ensures st ss sk c.if-is_before.false,
    )

pub returns-in_err-carried : goal.returns-in_err-carried
returns-in_err-carried c =
    let v = c.loop-i.invariant in
    let p = err_from_is_err_and c.from_residual.result c.from_residual.ensures.1 in
    rw (p.1, p.2)
    (track_refused _ _ v.6 (to_z-of_z c.ranges.time) c.taken-all.ensures (carrying_stops _ _ _ track_to _ v.5 c.track_of.ensures c.loop-i-test.true (omega (arith, v.1, v.6.read.size)) c.in_err-carried.ensures))

pub loop-i-preserved-in_default : goal.loop-i-preserved-in_default
loop-i-preserved-in_default c =
    let v = c.loop-i.invariant in
    (search rules, v.1, v.2, omega arith, v.4, carrying_drop _ _ _ track_to _ v.5 c.track_of.ensures (omega (arith, v.1, v.6.read.size, c.loop-i-test.true)) c.in_ok-carried.ensures c.in_default.is, v.6)

pub loop-i-preserved : goal.loop-i-preserved
loop-i-preserved c =
    let v = c.loop-i.invariant in (
      search rules,
      v.1,
      length-set c.loop-i.t.tracks c.loop-i.n _ ∙ v.2,
      omega arith,
      ap (λ (x : PkTracker). with_pk_tracks x (set c.loop-i.t.tracks c.loop-i.n c.track_to.result)) v.4,
      rw c.track_to.ensures (carrying_keep _ _ _ track_to _ v.5 c.track_of.ensures (omega (arith, v.1, v.6.read.size, c.loop-i-test.true)) c.in_ok-carried.ensures c.in-Some.is),
      v.6,
    )

pub returns : goal.returns
returns c =
    let v = c.loop-i.invariant in
    all_at_time _ _ v.6 (to_z-of_z c.ranges.time) c.loop-i.t c.taken-all.ensures (omega (arith, v.0, c.loop-i-test.false)) v.4 c.taken.ensures c.taken-2.ensures v.5
