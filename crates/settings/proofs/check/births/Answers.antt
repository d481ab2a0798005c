use borrow.Author.Rules.{rules}
use mir.Syntax.{w64}
use mir.Val.{SFits}
use mir.Facts.{to_z-of_z}
use Rattle.settings.specs.Settings.{fields_of}
use Rattle.settings.proofs.Firsts.{answered, alone, good, bad}
use Rattle.settings.proofs.check.births.Goals as goal

pub returns-in_err-refuse_if : goal.returns-in_err-refuse_if
unfolding fields_of
returns-in_err-refuse_if c =
    answered _ _ c.from_residual.ensures.1
    (bad 10 c.length_is_bad.ensures _ c.in_err-refuse_if.ensures)

pub returns-in_err-refuse_if-2 : goal.returns-in_err-refuse_if-2
unfolding fields_of
returns-in_err-refuse_if-2 c =
    answered _ _ c.from_residual-in_err-refuse_if-2.ensures.1
    (good 10 c.length_is_bad.ensures _ c.in_ok-refuse_if.ensures
    (bad 11 c.persistence_is_bad.ensures _ c.in_err-refuse_if-2.ensures))

pub returns-in_err-refuse_if-3 : goal.returns-in_err-refuse_if-3
unfolding fields_of
returns-in_err-refuse_if-3 c =
    answered _ _ c.from_residual-in_err-refuse_if-3.ensures.1
    (good 10 c.length_is_bad.ensures _ c.in_ok-refuse_if.ensures
    (good 11 c.persistence_is_bad.ensures _ c.in_ok-refuse_if-2.ensures
    (bad 12 c.not_positive.ensures _ c.in_err-refuse_if-3.ensures)))

pub returns : goal.returns
unfolding fields_of
returns c =
    let t : SFits w64 c.args.c.birth_candidate_timeout_ns = search rules in
    good 10 c.length_is_bad.ensures _ c.in_ok-refuse_if.ensures
    (good 11 c.persistence_is_bad.ensures _ c.in_ok-refuse_if-2.ensures
    (good 12 c.not_positive.ensures _ c.in_ok-refuse_if-3.ensures
    (alone 13 (rw (to_z-of_z t) at c.not_positive_time.ensures) c.refuse_if-4.ensures)))
