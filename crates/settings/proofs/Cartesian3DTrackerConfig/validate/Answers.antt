use lib.ListN.{take, drop}
use Rattle.settings.specs.Settings.{fields_of, settings_reply}
use Rattle.settings.proofs.Firsts.{answered, passed, found}
use Rattle.settings.proofs.Cartesian3DTrackerConfig.validate.Goals as goal

pub returns-in_err-lifecycle : goal.returns-in_err-lifecycle
unfolding fields_of settings_reply
returns-in_err-lifecycle c =
    let l = fields_of c.args.self in
    answered _ _ c.from_residual.ensures.1
    (found (take 3 l) (drop 3 l) c.in_err-lifecycle.ensures)

pub returns-in_err-numbers : goal.returns-in_err-numbers
unfolding fields_of settings_reply
returns-in_err-numbers c =
    let l = fields_of c.args.self in
    answered _ _ c.from_residual-in_err-numbers.ensures.1
    (passed (take 3 l) (drop 3 l) c.in_ok-lifecycle.ensures
    (found (take 6 (drop 3 l)) (drop 9 l) c.in_err-numbers.ensures))

pub returns-in_err-births : goal.returns-in_err-births
unfolding fields_of settings_reply
returns-in_err-births c =
    let l = fields_of c.args.self in
    answered _ _ c.from_residual-in_err-births.ensures.1
    (passed (take 3 l) (drop 3 l) c.in_ok-lifecycle.ensures
    (passed (take 6 (drop 3 l)) (drop 9 l) c.in_ok-numbers.ensures
    (found (take 4 (drop 9 l)) (drop 13 l) c.in_err-births.ensures)))

pub returns : goal.returns
unfolding fields_of settings_reply
returns c =
    let l = fields_of c.args.self in
    passed (take 3 l) (drop 3 l) c.in_ok-lifecycle.ensures
    (passed (take 6 (drop 3 l)) (drop 9 l) c.in_ok-numbers.ensures
    (passed (take 4 (drop 9 l)) (drop 13 l) c.in_ok-births.ensures
    (c.rest.ensures)))
