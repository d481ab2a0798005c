use Rattle.std.proofs.lemmas.Result.{err_from_is_err_and}
use Rattle.std.specs.Prelude.{None, Option, Some, ok_or}
use mathlib.Core.Path.{◌≡◌, sym, ap, ◌∙◌}
use lib.IntN.{ℤ}
use mir.Syntax.{w64}
use mir.Val.{SFits}
use mir.Facts.{to_z-of_z}
use borrow.Author.Rules.{rules}
use Rattle.number.specs.Reply.{reply_or, reply_by}
use Rattle.types.specs.declared.refusal.Refusal.TheVariants.{TimestampOverflow}
use Rattle.types.specs.Refusals.{number_of}
use Rattle.birth_candidates.proofs.Nearing.{stays_by}
use Rattle.birth_candidates.proofs.judge.Goals as goal

pub returns-in_err-age : goal.returns-in_err-age
returns-in_err-age c =
    let f : SFits w64 c.args.x.last_seen = search rules in
    let e = c.in_err-age.ensures in
    let z = ap (reply_by number_of) (e.value ∙ ap (λ (o : Option ℤ). ok_or o TimestampOverflow) e.ok_part) in
    let why : number_of c.in_err-age.field-0.0 ≡ 8 = cc in
    let p = err_from_is_err_and c.from_residual.result c.from_residual.ensures.1 in
    rw (p.1, p.2, why) (stays_by c.args.timeout c.args.now c.args.x None (sym (ap (reply_or 8) e.ok_part) ∙ (rw (to_z-of_z c.ranges.now, to_z-of_z f) at c.checked_duration_since-since.ensures)))

pub returns : goal.returns
returns c =
    let f : SFits w64 c.in_ok-age.age = search rules in
    let g : SFits w64 c.args.x.last_seen = search rules in
    rw (to_z-of_z f, to_z-of_z c.ranges.timeout)
    (stays_by c.args.timeout c.args.now c.args.x (Some c.in_ok-age.age) (sym (ap (reply_or 8) c.in_ok-age.ensures.ok_part) ∙ (rw (to_z-of_z c.ranges.now, to_z-of_z g) at c.checked_duration_since-since.ensures)))
