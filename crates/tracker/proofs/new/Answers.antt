use Rattle.std.specs.Prelude.{Err, Ok, Result}
use Rattle.std.specs.Result.{MatchResult, IsErrAnd}
use mathlib.Core.Path.{◌≡◌, ap, ◌∙◌}
use Rattle.settings.specs.declared.bad_field.BadField.{BadField}
use Rattle.settings.specs.Settings.{reply_of}
use Rattle.types.specs.declared.refusal.Refusal.{Refusal}
use Rattle.types.specs.declared.refusal.Refusal.TheVariants.{InvalidConfig}
use Rattle.types.specs.Refusals.{settings_reply_of}
use Rattle.tracker.proofs.new.Goals as goal

-- the field of the refusal is the one that the check names
named : (a : Result (Unit {0}) BadField) (b : Result (Unit {0}) Refusal) → MatchResult a (λ x. b ≡ Ok x) (λ e. IsErrAnd b (λ r. r ≡ InvalidConfig e)) → settings_reply_of b ≡ reply_of a
named (Ok x) b h = ap settings_reply_of h
named (Err e) (Ok x) h = absurd h
named (Err e) (Err r) h = ap (λ (why : Refusal). settings_reply_of (Err why)) h

pub returns : goal.returns
returns c = record { is = named c.validate-answer.result c.map_err.result c.map_err.ensures.cases ∙ c.validate-answer.ensures; whole = c.fresh.ensures }
