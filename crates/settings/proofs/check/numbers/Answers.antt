use mathlib.Core.Path.{refl}
use Rattle.settings.specs.Settings.{fields_of}
use Rattle.settings.proofs.Firsts.{answered, alone, good, bad}
use Rattle.settings.proofs.check.numbers.Goals as goal

pub returns-in_err-refuse_if : goal.returns-in_err-refuse_if
unfolding fields_of
returns-in_err-refuse_if c =
    answered _ _ c.from_residual.ensures.1
    (bad 4 refl _ c.in_err-refuse_if.ensures)

pub returns-in_err-refuse_if-2 : goal.returns-in_err-refuse_if-2
unfolding fields_of
returns-in_err-refuse_if-2 c =
    answered _ _ c.from_residual-in_err-refuse_if-2.ensures.1
    (good 4 refl _ c.in_ok-refuse_if.ensures
    (bad 5 c.threshold_is_bad.ensures _ c.in_err-refuse_if-2.ensures))

pub returns-in_err-refuse_if-3 : goal.returns-in_err-refuse_if-3
unfolding fields_of
returns-in_err-refuse_if-3 c =
    answered _ _ c.from_residual-in_err-refuse_if-3.ensures.1
    (good 4 refl _ c.in_ok-refuse_if.ensures
    (good 5 c.threshold_is_bad.ensures _ c.in_ok-refuse_if-2.ensures
    (bad 6 c.negative.ensures _ c.in_err-refuse_if-3.ensures)))

pub returns-in_err-refuse_if-4 : goal.returns-in_err-refuse_if-4
unfolding fields_of
returns-in_err-refuse_if-4 c =
    answered _ _ c.from_residual-in_err-refuse_if-4.ensures.1
    (good 4 refl _ c.in_ok-refuse_if.ensures
    (good 5 c.threshold_is_bad.ensures _ c.in_ok-refuse_if-2.ensures
    (good 6 c.negative.ensures _ c.in_ok-refuse_if-3.ensures
    (bad 7 c.not_positive.ensures _ c.in_err-refuse_if-4.ensures))))

pub returns-in_err-refuse_if-5 : goal.returns-in_err-refuse_if-5
unfolding fields_of
returns-in_err-refuse_if-5 c =
    answered _ _ c.from_residual-in_err-refuse_if-5.ensures.1
    (good 4 refl _ c.in_ok-refuse_if.ensures
    (good 5 c.threshold_is_bad.ensures _ c.in_ok-refuse_if-2.ensures
    (good 6 c.negative.ensures _ c.in_ok-refuse_if-3.ensures
    (good 7 c.not_positive.ensures _ c.in_ok-refuse_if-4.ensures
    (bad 8 c.not_positive-2.ensures _ c.in_err-refuse_if-5.ensures)))))

pub returns : goal.returns
unfolding fields_of
returns c =
    good 4 refl _ c.in_ok-refuse_if.ensures
    (good 5 c.threshold_is_bad.ensures _ c.in_ok-refuse_if-2.ensures
    (good 6 c.negative.ensures _ c.in_ok-refuse_if-3.ensures
    (good 7 c.not_positive.ensures _ c.in_ok-refuse_if-4.ensures
    (good 8 c.not_positive-2.ensures _ c.in_ok-refuse_if-5.ensures
    (alone 9 c.negative-2.ensures c.refuse_if-6.ensures)))))
