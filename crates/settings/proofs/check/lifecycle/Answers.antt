use borrow.Author.Rules.{rules}
use mir.Syntax.{w64}
use mir.Val.{SFits, to_z, of_z}
use lib.Signed.{lt_z}
use mathlib.Core.Path.{◌≡◌}
use mir.Facts.{to_z-of_z}
use Rattle.settings.specs.Settings.{fields_of}
use Rattle.settings.proofs.Firsts.{answered, alone, good, bad}
use Rattle.settings.proofs.check.lifecycle.Goals as goal

pub returns-in_err-refuse_if : goal.returns-in_err-refuse_if
unfolding fields_of
returns-in_err-refuse_if c =
    let t : SFits w64 c.args.c.lifecycle.tentative_timeout_ns = search rules in
    answered _ _ c.from_residual.ensures.1
    (bad 1 (rw (to_z-of_z t) at c.not_positive_time.ensures) _ c.in_err-refuse_if.ensures)

pub returns-in_err-refuse_if-2 : goal.returns-in_err-refuse_if-2
unfolding fields_of
returns-in_err-refuse_if-2 c =
    let t : SFits w64 c.args.c.lifecycle.tentative_timeout_ns = search rules in
    let f : SFits w64 c.args.c.lifecycle.confirmed_to_lost_ns = search rules in
    answered _ _ c.from_residual-in_err-refuse_if-2.ensures.1
    (good 1 (rw (to_z-of_z t) at c.not_positive_time.ensures) _ c.in_ok-refuse_if.ensures
    (bad 2 (rw (to_z-of_z f) at c.not_positive_time-2.ensures) _ c.in_err-refuse_if-2.ensures))

pub returns : goal.returns
unfolding fields_of
returns c =
    let t : SFits w64 c.args.c.lifecycle.tentative_timeout_ns = search rules in
    let f : SFits w64 c.args.c.lifecycle.confirmed_to_lost_ns = search rules in
    let l : SFits w64 c.args.c.lifecycle.lost_to_delete_ns = search rules in
    let e3 : lt_z (to_z w64 (of_z w64 c.args.c.lifecycle.lost_to_delete_ns)) (to_z w64 (of_z w64 c.args.c.lifecycle.confirmed_to_lost_ns)) ≡ lt_z c.args.c.lifecycle.lost_to_delete_ns c.args.c.lifecycle.confirmed_to_lost_ns = rw (to_z-of_z l, to_z-of_z f) in
    good 1 (rw (to_z-of_z t) at c.not_positive_time.ensures) _ c.in_ok-refuse_if.ensures
    (good 2 (rw (to_z-of_z f) at c.not_positive_time-2.ensures) _ c.in_ok-refuse_if-2.ensures
    (alone 3 e3 c.refuse_if-3.ensures))
