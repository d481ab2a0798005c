use Rattle.std.proofs.lemmas.Result.{err_from_is_err_and}
use mathlib.Core.Path.{sym, ap, ◌∙◌}
use Rattle.math.specs.Linalg.{reply_of_validity, validated}
use Rattle.math.proofs.Answers.{entries_pass, entries_stop}
use Rattle.math.proofs.linalg.validate_covariance.Goals as goal

pub returns-in_err-check_entries : goal.returns-in_err-check_entries
unfolding validated
returns-in_err-check_entries g c =
    let p = err_from_is_err_and c.from_residual.result c.from_residual.ensures.1 in
    rw (p.1, p.2) (entries_stop g.row.N _ _ (ap reply_of_validity (sym c.in_err-check_entries.was) ∙ c.check_entries.ensures))

pub returns : goal.returns
unfolding validated
returns g c = c.decided.ensures ∙ c.has_factor.ensures ∙ entries_pass g.row.N _ _ (ap reply_of_validity (sym c.in_ok-check_entries.was) ∙ c.check_entries.ensures)
