-- The loops keep the laws of Carrying, Noting, Correcting and Bearing. What the batch had come to before a loop stands in its invariant (Reached); each refusal is one law of Parts, and so is the end.
use Rattle.std.proofs.lemmas.Result.{err_from_is_err_and}
use mathlib.Core.Path.{◌≡◌, refl, ap, ◌∙◌}
use Prim.Native.Nat.{◌≤◌, ◌<◌}
use native.Mathlib.Omega.{arith}
use borrow.Author.Rules.{rules}
use lib.ListN.{length, get_or, set, length-set}
use Rattle.lists.proofs.Laying.{length_mapped}
use Rattle.lists.proofs.Stepping.{stepped_start}
use Rattle.moving.proofs.Passing.{passed_start}
use Rattle.records.specs.declared.tracker.PkTracker.{PkTracker}
use Rattle.owner.proofs.Predicting.{with_pk_tracks}
use Rattle.owner.proofs.Carrying.{carrying_drop, carrying_keep, carrying_stops}
use Rattle.owner.proofs.Reached.{unmarked}
use Rattle.owner.proofs.Noting.{noted_start, noted_more}
use Rattle.owner.proofs.Correcting.{spotted_start, spotted_same, spotted_more, place_few, correcting_more, correcting_stops, corrected_all}
use Rattle.owner.proofs.Bearing.{bearing_start, bearing_taken, bearing_alone, bearing_begun, bearing_stops, begun_fits}
use Rattle.owner.proofs.Parts.{check_refused, checked, move_refused, moved_all, count_few, pair_refused, paired_by, update_refused, age_refused, aged_by, births_refused, batch_done}
use Rattle.owner.proofs.batch.process_batch.Goals as goal

pub returns-in_err-validate_batch : goal.returns-in_err-validate_batch
returns-in_err-validate_batch c =
    let p = err_from_is_err_and c.from_residual.result c.from_residual.ensures.1 in
    rw (p.1, p.2) (check_refused c.args.t c.args.batch c.settings_of-config.ensures c.flagged-last.ensures (search rules) c.in_err-validate_batch.ensures)

pub loop-i-init : goal.loop-i-init
loop-i-init c =
    let st : length c.args.t.tracks ≡ 64 = search (rules, length_mapped) in
    let sd : length c.args.batch.observations ≡ 64 = search (rules, length_mapped) in (
      search rules,
      omega (arith, c.taken-all.ensures),
      st,
      search rules,
      refl,
      passed_start _ _ _,
      rw c.blank_row-blank.ensures (noted_start c.args.t.tracks),
      checked c.args.t c.args.batch c.settings_of-config.ensures c.flagged-last.ensures (search rules) st sd (search rules) c.in_ok-validate_batch.ensures,
    )

pub returns-in_err-carried : goal.returns-in_err-carried
returns-in_err-carried c =
    let p = err_from_is_err_and c.from_residual-in_err-carried.result c.from_residual-in_err-carried.ensures.1 in
    let v = c.loop-i.invariant in
    rw (p.1, p.2)
    (move_refused _ _ v.7 c.taken-all.ensures (carrying_stops _ _ _ unmarked _ v.5 c.track_of.ensures c.loop-i-test.true (omega (arith, v.1, v.7.read.size)) c.in_err-carried.ensures))

pub loop-i-preserved-in_default : goal.loop-i-preserved-in_default
loop-i-preserved-in_default c =
    let v = c.loop-i.invariant in (
      search rules,
      v.1,
      v.2,
      omega arith,
      v.4,
      carrying_drop _ _ _ unmarked _ v.5 c.track_of.ensures (omega (arith, v.1, v.7.read.size, c.loop-i-test.true)) c.in_ok-carried.ensures c.in_default.is,
      v.6,
      v.7,
    )

pub loop-i-preserved : goal.loop-i-preserved
loop-i-preserved c =
    let v = c.loop-i.invariant in (
      search rules,
      v.1,
      length-set c.loop-i.t.tracks c.loop-i.n _ ∙ v.2,
      omega arith,
      ap (λ (x : PkTracker). with_pk_tracks x (set c.loop-i.t.tracks c.loop-i.n c.track_to.result)) v.4,
      rw (c.track_to.ensures, c.with_mark-x.ensures) (carrying_keep _ _ _ unmarked _ v.5 c.track_of.ensures (omega (arith, v.1, v.7.read.size, c.loop-i-test.true)) c.in_ok-carried.ensures c.in-Some.is),
      rw (c.row_of.ensures, c.track_to.ensures) (noted_more c.loop-i.t.tracks c.loop-i.rows c.loop-i.n c.with_mark-x.result (omega (arith, v.1, v.2, v.3, c.loop-i-test.true)) (omega (arith, v.1, v.3, c.loop-i-test.true)) v.6),
      v.7,
    )

pub returns-in_err-paired : goal.returns-in_err-paired
returns-in_err-paired c =
    let p = err_from_is_err_and c.from_residual-in_err-paired.result c.from_residual-in_err-paired.ensures.1 in
    let v = c.loop-i.invariant in
    let m = moved_all _ _ v.7 c.taken-all.ensures (omega (arith, v.0, c.loop-i-test.false)) v.4 v.2 (omega (arith, v.0, v.1, v.3)) v.5 in
    rw (p.1, p.2) (pair_refused _ _ m v.6 c.in_err-paired.field-0.0 c.in_err-paired.ensures)

pub loop-k-init : goal.loop-k-init
loop-k-init c =
    let v = c.loop-i.invariant in
    let few : c.loop-i.n ≤ 64 = omega (arith, v.0, v.1, v.3) in
    let m = moved_all _ _ v.7 c.taken-all.ensures (omega (arith, v.0, c.loop-i-test.false)) v.4 v.2 few v.5 in
    (search rules, few, v.2, search rules, refl, stepped_start _ _, rw c.no_spot-nowhere.ensures spotted_start, paired_by _ _ m v.6 c.in_ok-paired.ensures)

pub offset_bounds-observations-place_of : goal.offset_bounds-observations-place_of
offset_bounds-observations-place_of c = omega (arith, c.loop-k.invariant.7.moved.checked.seen, place_few (get_or c.in_ok-paired.paired.mates c.loop-k.k 0) c.place_of.result c.place_of.ensures)

pub bounds-observations-place_of : goal.bounds-observations-place_of
bounds-observations-place_of c = search (rules, place_few (get_or c.in_ok-paired.paired.mates c.loop-k.k 0) c.place_of.result c.place_of.ensures)

pub returns-in_err-y : goal.returns-in_err-y
returns-in_err-y c =
    let p = err_from_is_err_and c.from_residual-in_err-y.result c.from_residual-in_err-y.ensures.1 in
    let v = c.loop-k.invariant in
    rw (p.1, p.2)
    (update_refused _ _ v.7 c.update_of-update.ensures (correcting_stops _ _ _ _ v.5 c.track_of-x.ensures c.place_of.ensures c.loop-k-test.true (omega (arith, v.1, v.7.moved.places)) c.in_err-y.ensures))

pub loop-k-preserved-then-not-is_confirmed_track : goal.loop-k-preserved-then-not-is_confirmed_track
loop-k-preserved-then-not-is_confirmed_track c =
    let v = c.loop-k.invariant in
    let few : c.loop-k.k < length c.loop-k.t.tracks = omega (arith, v.1, v.2, c.loop-k-test.true) in (
      search rules,
      v.1,
      length-set c.loop-k.t.tracks c.loop-k.k _ ∙ v.2,
      omega arith,
      ap (λ (x : PkTracker). with_pk_tracks x (set c.loop-k.t.tracks c.loop-k.k c.track_to-in-loop-k.result)) v.4,
      rw c.track_to-in-loop-k.ensures (correcting_more _ _ _ _ v.5 c.track_of-x.ensures c.place_of.ensures (omega (arith, v.1, v.7.moved.places, c.loop-k-test.true)) c.in_ok-y.ensures),
      rw c.track_to-in-loop-k.ensures (spotted_same _ _ v.6 few c.is_confirmed_track.ensures c.if-not-is_confirmed_track.true),
      v.7,
    )

pub loop-k-preserved : goal.loop-k-preserved
loop-k-preserved c =
    let v = c.loop-k.invariant in
    let few : c.loop-k.k < length c.loop-k.t.tracks = omega (arith, v.1, v.2, c.loop-k-test.true) in (
      search rules,
      v.1,
      length-set c.loop-k.t.tracks c.loop-k.k _ ∙ v.2,
      omega arith,
      ap (λ (x : PkTracker). with_pk_tracks x (set c.loop-k.t.tracks c.loop-k.k c.track_to-in-loop-k.result)) v.4,
      rw c.track_to-in-loop-k.ensures (correcting_more _ _ _ _ v.5 c.track_of-x.ensures c.place_of.ensures (omega (arith, v.1, v.7.moved.places, c.loop-k-test.true)) c.in_ok-y.ensures),
      rw (c.track_to-in-loop-k.ensures, c.spot_of.ensures) (spotted_more _ _ v.6 few v.2 c.is_confirmed_track.ensures c.if-not-is_confirmed_track.false),
      v.7,
    )

pub returns-in_err-kept : goal.returns-in_err-kept
returns-in_err-kept c =
    let p = err_from_is_err_and c.from_residual-in_err-kept.result c.from_residual-in_err-kept.ensures.1 in
    let v = c.loop-k.invariant in
    let u = corrected_all v.7 c.update_of-update.ensures (omega (arith, v.0, c.loop-k-test.false)) v.4 v.2 v.5 v.6 in
    rw (p.1, p.2) (age_refused _ _ u c.in_err-kept.ensures)

pub loop-j-init : goal.loop-j-init
loop-j-init c =
    let v = c.loop-k.invariant in
    let u = corrected_all v.7 c.update_of-update.ensures (omega (arith, v.0, c.loop-k-test.false)) v.4 v.2 v.5 v.6 in
    (search rules, count_few _ _ v.7.moved.checked, v.2, refl, rw c.alone-blank_association.ensures (bearing_start c.loop-k.t _ u.stored (omega (arith, v.1, v.2))), aged_by _ _ u c.in_ok-kept.ensures)

pub loop-j-preserved-in-Some-pairs : goal.loop-j-preserved-in-Some-pairs
loop-j-preserved-in-Some-pairs c =
    let v = c.loop-j.invariant in (
      search rules,
      v.1,
      v.2,
      v.3,
      bearing_taken _ _ v.4 v.1 (search (rules, length_mapped)) v.5.corrected.mated.moved.checked.seen c.loop-j-test.true c.in-Some-pairs.is c.paired.ensures,
      v.5,
    )

pub returns-in_err-x : goal.returns-in_err-x
returns-in_err-x c =
    let p = err_from_is_err_and c.from_residual-in_err-x.result c.from_residual-in_err-x.ensures.1 in
    let v = c.loop-j.invariant in
    rw (p.1, p.2) (births_refused _ _ v.5 (bearing_stops _ _ v.4 v.1 (search (rules, length_mapped)) v.5.corrected.mated.moved.checked.seen c.loop-j-test.true c.in_default-pairs.is c.in_err-x.ensures))

pub loop-j-preserved-in_default-begun : goal.loop-j-preserved-in_default-begun
loop-j-preserved-in_default-begun c =
    let v = c.loop-j.invariant in (
      search rules,
      v.1,
      v.2,
      v.3,
      bearing_alone _ _ v.4 v.1 (search (rules, length_mapped)) v.5.corrected.mated.moved.checked.seen c.loop-j-test.true c.in_default-pairs.is c.in_ok-x.ensures c.in_default-begun.is c.alone.ensures,
      v.5,
    )

pub offset_bounds-t-n-in-loop-j : goal.offset_bounds-t-n-in-loop-j
offset_bounds-t-n-in-loop-j c = let room = begun_fits _ _ _ _ _ _ _ c.in_ok-x.ensures c.in-Some-begun.is in omega (arith, c.loop-j.invariant.2, room.0, room.1)

pub bounds-t-n-in-loop-j : goal.bounds-t-n-in-loop-j
bounds-t-n-in-loop-j c = let room = begun_fits _ _ _ _ _ _ _ c.in_ok-x.ensures c.in-Some-begun.is in search (rules, room.0)

pub overflow_add-n-in-loop-j : goal.overflow_add-n-in-loop-j
overflow_add-n-in-loop-j c = let room = begun_fits _ _ _ _ _ _ _ c.in_ok-x.ensures c.in-Some-begun.is in omega (arith, c.loop-j.invariant.2, room.0, room.1)

pub overflow_add-id : goal.overflow_add-id
overflow_add-id c = let room = begun_fits _ _ _ _ _ _ _ c.in_ok-x.ensures c.in-Some-begun.is in omega (arith, c.loop-j.invariant.2, room.0, room.1)

pub loop-j-preserved : goal.loop-j-preserved
loop-j-preserved c =
    let v = c.loop-j.invariant in
    let room = begun_fits _ _ _ _ _ _ _ c.in_ok-x.ensures c.in-Some-begun.is in (
      search rules,
      v.1,
      length-set c.loop-j.t.tracks c.loop-j.n _ ∙ v.2,
      ap (λ (x : PkTracker). with_pk_tracks x (set c.loop-j.t.tracks c.loop-j.n c.track_to-in-loop-j.result)) v.3,
      rw c.track_to-in-loop-j.ensures (bearing_begun _ _ v.4 v.1 (search (rules, length_mapped)) v.5.corrected.mated.moved.checked.seen c.loop-j-test.true c.in_default-pairs.is c.in_ok-x.ensures c.in-Some-begun.is (omega (arith, room.0, v.5.corrected.size)) c.begun.ensures),
      v.5,
    )

pub returns : goal.returns
returns c =
    let v = c.loop-j.invariant in
    let numbers : length c.in_ok-paired.paired.unmatched ≡ 64 = search (rules, length_mapped) in
    batch_done _ _ v.5 v.4 (omega (arith, c.loop-j-test.false)) v.3 (search (rules, length_mapped)) numbers c.note-noted.ensures c.laid-laid.ensures
