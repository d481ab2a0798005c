use mathlib.Core.Path.{◌≡◌, refl, sym, ap, ◌∙◌}
use mathlib.Core.Bool.{Bool, true, false}
use mir.Syntax.{w64}
use mir.Val.{SFits, to_z, of_z}
use mir.Facts.{to_z-of_z}
use borrow.Author.Rules.{rules}
use lib.IntN.{ℤ}
use Rattle.std.specs.Prelude.{Option}
use Rattle.std.proofs.lemmas.Result.{err_from_is_err_and}
use Rattle.number.specs.Reply.{refused, given}
use Rattle.batches.specs.Check.{is_before}
use Rattle.batches.proofs.Checks.{too_many, frame_differs, earlier, repeated, decided}
use Rattle.batches.proofs.validate_batch.Goals as goal

-- what the test of the time says of the batch's time, which code holds in 64 bits
timed : (last : Option ℤ) (t : ℤ) {b : Bool} → SFits w64 t → b ≡ is_before last (to_z w64 (of_z w64 t)) → is_before last t ≡ b
timed last t fits e = sym (e ∙ ap (is_before last) (to_z-of_z fits))

pub returns-then-count-gt-MAX_OBSERVATIONS : goal.returns-then-count-gt-MAX_OBSERVATIONS
returns-then-count-gt-MAX_OBSERVATIONS c = too_many _ _ _ _ c.if-count-gt-MAX_OBSERVATIONS.true

pub returns-then-not-same_frame : goal.returns-then-not-same_frame
returns-then-not-same_frame c = frame_differs _ _ _ _ c.if-count-gt-MAX_OBSERVATIONS.false (sym c.if-not-same_frame.ensures)

pub returns-then-is_before : goal.returns-then-is_before
returns-then-is_before c = earlier _ _ _ _ c.if-count-gt-MAX_OBSERVATIONS.false (sym c.if-not-same_frame.ensures) (timed c.args.last_time c.args.batch.timestamp (search rules) c.if-is_before.ensures)

pub returns-then-is_repeated : goal.returns-then-is_repeated
returns-then-is_repeated c =
    repeated _ _ _ _ c.if-count-gt-MAX_OBSERVATIONS.false (sym c.if-not-same_frame.ensures) (timed c.args.last_time c.args.batch.timestamp (search rules) c.if-is_before.ensures)
    (rw (sym c.last.ensures) (sym c.if-is_repeated.ensures))

-- past the tests of the batch itself
pub returns-in_err-validate_detections : goal.returns-in_err-validate_detections
returns-in_err-validate_detections c =
    let p = err_from_is_err_and c.from_residual.result c.from_residual.ensures.1 in
    rw (p.1, p.2)
    (sym (decided _ _ _ _ c.if-count-gt-MAX_OBSERVATIONS.false (sym c.if-not-same_frame.ensures) (timed c.args.last_time c.args.batch.timestamp (search rules) c.if-is_before.ensures)
    (rw (sym c.last.ensures) (sym c.if-is_repeated.ensures)) (refused _) (sym c.in_err-validate_detections.ensures) _ refl))

pub returns-else-has_room_for : goal.returns-else-has_room_for
returns-else-has_room_for c =
    sym (decided _ _ _ _ c.if-count-gt-MAX_OBSERVATIONS.false (sym c.if-not-same_frame.ensures) (timed c.args.last_time c.args.batch.timestamp (search rules) c.if-is_before.ensures)
    (rw (sym c.last.ensures) (sym c.if-is_repeated.ensures)) (given tt) (sym c.in_ok-validate_detections.ensures) false (sym c.if-has_room_for.ensures))

pub returns-then-has_room_for : goal.returns-then-has_room_for
returns-then-has_room_for c =
    sym (decided _ _ _ _ c.if-count-gt-MAX_OBSERVATIONS.false (sym c.if-not-same_frame.ensures) (timed c.args.last_time c.args.batch.timestamp (search rules) c.if-is_before.ensures)
    (rw (sym c.last.ensures) (sym c.if-is_repeated.ensures)) (given tt) (sym c.in_ok-validate_detections.ensures) true (sym c.if-has_room_for.ensures))
