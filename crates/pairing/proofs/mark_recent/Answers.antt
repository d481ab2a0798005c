-- The loop keeps `Laying`: the flags of the first i rows are laid in front.
use Rattle.std.proofs.lemmas.Result.{err_from_is_err_and}
use Rattle.std.specs.Prelude.{Bool, Option, ok_or}
use mathlib.Core.Path.{◌≡◌, sym, ap, ◌∙◌}
use mir.Facts.{to_z-of_z}
use native.Mathlib.Omega.{arith}
use Rattle.number.specs.Reply.{Reply, refused, reply_or, reply_by}
use Rattle.types.specs.declared.refusal.Refusal.TheVariants.{TimestampOverflow}
use Rattle.types.specs.Refusals.{number_of}
use Rattle.pairing.specs.Rows.{recent_row}
use Rattle.pairing.proofs.Laying.{laying_none, laying_more, laying_stops, laying_all}
use Rattle.pairing.proofs.Rows.{no_row}
use Rattle.pairing.proofs.mark_recent.Goals as goal

pub loop-i-init : goal.loop-i-init
loop-i-init c = (omega arith, laying_none _ _ _ _)

pub returns-in_err-flags : goal.returns-in_err-flags
unfolding recent_row
returns-in_err-flags c =
    let e = c.in_err-flags.ensures in
    let why : ◌≡◌ {A = Reply Bool} (refused (number_of c.in_err-flags.field-0.0)) (refused 8) = ap (reply_by number_of) (e.value ∙ ap (λ (o : Option Bool). ok_or o TimestampOverflow) e.ok_part) in
    let p = err_from_is_err_and c.from_residual.result c.from_residual.ensures.1 in
    rw (p.1, p.2)
    (rw (to_z-of_z c.ranges.time, to_z-of_z c.ranges.window) at
    (laying_stops _ _ _ _ c.loop-i.i _ no_row _ c.loop-i.invariant.1 c.loop-i-test.true (sym c.seen_within-recent.ensures ∙ ap (reply_or 8) e.ok_part ∙ sym why)))

pub loop-i-preserved : goal.loop-i-preserved
unfolding recent_row
loop-i-preserved c =
    (omega arith, laying_more _ _ _ _ c.loop-i.i _ _ no_row _ c.loop-i.invariant.1 c.loop-i-test.true (omega arith) (sym c.seen_within-recent.ensures ∙ ap (reply_or 8) c.in_ok-flags.ensures.ok_part))

pub returns : goal.returns
returns c =
    rw (to_z-of_z c.ranges.time, to_z-of_z c.ranges.window) at
    (laying_all _ _ _ _ c.loop-i.i _ (omega (arith, c.loop-i-test.false, c.loop-i.invariant.0)) c.loop-i.invariant.1)
