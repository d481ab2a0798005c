use mathlib.Core.Path.{refl}
use Rattle.settings.specs.Settings.{fields_of}
use Rattle.settings.proofs.Firsts.{answered, alone, good, bad}
use Rattle.settings.proofs.check.rest.Goals as goal

pub returns-in_err-refuse_if : goal.returns-in_err-refuse_if
unfolding fields_of
returns-in_err-refuse_if c =
    answered _ _ c.from_residual.ensures.1
    (bad 14 c.length_is_bad.ensures _ c.in_err-refuse_if.ensures)

pub returns-in_err-refuse_if-2 : goal.returns-in_err-refuse_if-2
unfolding fields_of
returns-in_err-refuse_if-2 c =
    answered _ _ c.from_residual-in_err-refuse_if-2.ensures.1
    (good 14 c.length_is_bad.ensures _ c.in_ok-refuse_if.ensures
    (bad 15 c.window_is_bad.ensures _ c.in_err-refuse_if-2.ensures))

pub returns-in_err-refuse_if-3 : goal.returns-in_err-refuse_if-3
unfolding fields_of
returns-in_err-refuse_if-3 c =
    answered _ _ c.from_residual-in_err-refuse_if-3.ensures.1
    (good 14 c.length_is_bad.ensures _ c.in_ok-refuse_if.ensures
    (good 15 c.window_is_bad.ensures _ c.in_ok-refuse_if-2.ensures
    (bad 16 c.too_long.ensures _ c.in_err-refuse_if-3.ensures)))

pub returns : goal.returns
unfolding fields_of
returns c =
    good 14 c.length_is_bad.ensures _ c.in_ok-refuse_if.ensures
    (good 15 c.window_is_bad.ensures _ c.in_ok-refuse_if-2.ensures
    (good 16 c.too_long.ensures _ c.in_ok-refuse_if-3.ensures
    (alone 17 refl c.refuse_if-4.ensures)))
