-- The check of the batch gives what the stages ask; each end is one law of Owning.
use Rattle.std.proofs.lemmas.Result.{err_from_is_err_and}
use mathlib.Core.Path.{◌≡◌, sym, ◌∙◌}
use lib.ListN.{length}
use mir.Syntax.{w64}
use mir.Val.{SFits}
use mir.Facts.{to_z-of_z}
use borrow.Author.Rules.{rules}
use borrow.Author.Tests.{leb-true}
use Rattle.lists.proofs.Laying.{length_mapped}
use Rattle.number.specs.Reply.{given}
use Rattle.types.specs.States.{sequences_of}
use Rattle.calls.proofs.Accepted.{passed}
use Rattle.tracker.specs.Owner.{check_reply}
use Rattle.tracker.proofs.Owning.{batch_unchecked, batch_unmoved, batch_unmatched, ready, few_numbers, listed, room_left, batch_ended}
use Rattle.tracker.proofs.carry_out.Goals as goal

pub returns-in_err-validate_batch : goal.returns-in_err-validate_batch
unfolding sequences_of
returns-in_err-validate_batch c =
    let q = err_from_is_err_and c.from_residual.result c.from_residual.ensures.1 in
    rw (q.1, q.2) (batch_unchecked c.args.t c.args.batch _ c.in_err-validate_batch.ensures)

pub returns-in_err-ready : goal.returns-in_err-ready
unfolding sequences_of
returns-in_err-ready c =
    let a = c.args in
    let f : SFits w64 a.batch.timestamp = search rules in
    let q = err_from_is_err_and c.from_residual-in_err-ready.result c.from_residual-in_err-ready.ensures.1 in
    rw (q.1, q.2) (batch_unmoved a.t a.batch c.in_ok-validate_batch.ensures _ (rw (to_z-of_z f) at c.in_err-ready.ensures))

pub match_tracks-requires : goal.match_tracks-requires
unfolding sequences_of
match_tracks-requires c =
    let a = c.args in
    let check = passed a.t.config.frame_id (a.t.last_time) (sequences_of a.t) a.batch (sym c.in_ok-validate_batch.ensures) in
    check.detections

pub returns-in_err-matched : goal.returns-in_err-matched
unfolding sequences_of
returns-in_err-matched c =
    let a = c.args in
    let f : SFits w64 a.batch.timestamp = search rules in
    let e : given tt ≡ check_reply a.t a.batch = c.in_ok-validate_batch.ensures in
    let r = ready a.t a.batch e c.in_ok-ready.ready (rw (to_z-of_z f) at c.in_ok-ready.ensures) in
    let q = err_from_is_err_and c.from_residual-in_err-matched.result c.from_residual-in_err-matched.ensures.1 in
    rw (q.1, q.2) (batch_unmatched a.t a.batch e c.in_ok-ready.ready r _ c.in_err-matched.ensures)

pub finish-requires : goal.finish-requires
unfolding sequences_of
finish-requires c =
    let a = c.args in
    let f : SFits w64 a.batch.timestamp = search rules in
    let e : given tt ≡ check_reply a.t a.batch = c.in_ok-validate_batch.ensures in
    let u = c.in_ok-ready.ready in
    let r = ready a.t a.batch e u (rw (to_z-of_z f) at c.in_ok-ready.ensures) in
    let check = passed a.t.config.frame_id (a.t.last_time) (sequences_of a.t) a.batch (sym e) in
    let track_places : length u.tracks ≡ 64 = search (rules, length_mapped) in
    let m = c.in_ok-matched.matched in
    let h = c.in_ok-matched.ensures in (
      leb-true a.batch.count 64 check.few,
      room_left a.t a.batch e u r m h check.room,
      listed a.t a.batch e u r m h,
      few_numbers a.t a.batch e u r m h track_places,
    )

pub returns : goal.returns
unfolding sequences_of
returns c =
    let a = c.args in
    let f : SFits w64 a.batch.timestamp = search rules in
    let e : given tt ≡ check_reply a.t a.batch = c.in_ok-validate_batch.ensures in
    let u = c.in_ok-ready.ready in
    let r = ready a.t a.batch e u (rw (to_z-of_z f) at c.in_ok-ready.ensures) in
    c.finish.ensures ∙ batch_ended a.t a.batch e u r c.in_ok-matched.matched c.in_ok-matched.ensures
