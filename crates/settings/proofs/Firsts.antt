-- The first bad field of a list, a field or a part at a time. Assumes nothing.
use Rattle.std.specs.Prelude.{Result, Ok, Err, IsErrAnd}
use mathlib.Core.Path.{◌≡◌, refl, sym, ap, ◌∙◌}
use mathlib.Core.Bool.{Bool, true, false, cond}
use mathlib.Core.List.{List, [], ◌∷◌, ◌++◌}
use Prim.Native.Nat.{ℕ}
use Rattle.settings.specs.declared.bad_field.BadField.{BadField}
use Rattle.settings.specs.Fields.{Field, field, SettingsReply, accepted, refused, number_of_field, first_bad}
use Rattle.settings.specs.Settings.{reply_of}

-- what two parts answer, one after the other
abbrev then : SettingsReply → SettingsReply → SettingsReply
then accepted r = r
then (refused n k) r = refused n k

append : (l m : List Field) → first_bad (l ++ m) ≡ then (first_bad l) (first_bad m)
unfolding first_bad
append [] m = refl
append (f ∷ l) m = go f.bad (append l m)
  where
    go : (b : Bool) → first_bad (l ++ m) ≡ then (first_bad l) (first_bad m) → cond b (refused 1 f.number) (first_bad (l ++ m)) ≡ then (cond b (refused 1 f.number) (first_bad l)) (first_bad m)
    go true e = refl
    go false e = e

-- the first part has no bad field, so that the rest answers; or it has one
pub passed : (l m : List Field) {r : SettingsReply} → accepted ≡ first_bad l → r ≡ first_bad m → r ≡ first_bad (l ++ m)
passed l m a e = e ∙ (λ i. then (a i) (first_bad m)) ∙ sym (append l m)

pub found : (l m : List Field) {n k : ℕ} → refused n k ≡ first_bad l → refused n k ≡ first_bad (l ++ m)
found l m e = (λ i. then (e i) (first_bad m)) ∙ sym (append l m)

-- the same of one field, with what its test is known to say
module _ (n : ℕ) {b b' : Bool} (is : b ≡ b') where
  pub alone : {r : SettingsReply} → r ≡ first_bad (field n b ∷ []) → r ≡ first_bad (field n b' ∷ [])
  alone e = e ∙ (λ i. first_bad (field n (is i) ∷ []))

  pub good : (l : List Field) {r : SettingsReply} → accepted ≡ first_bad (field n b ∷ []) → r ≡ first_bad l → r ≡ first_bad (field n b' ∷ l)
  good l a e = passed (field n b' ∷ []) l (alone a) e

  pub bad : (l : List Field) {m k : ℕ} → refused m k ≡ first_bad (field n b ∷ []) → refused m k ≡ first_bad (field n b' ∷ l)
  bad l e = found (field n b' ∷ []) l (alone e)

-- what `?` gives back for a field that is bad
pub answered : {reply : SettingsReply} (b : BadField) (r : Result (Unit {0}) BadField) → IsErrAnd r (λ y. y ≡ b) → refused 1 (number_of_field b) ≡ reply → reply_of r ≡ reply
answered b (Ok u) e q = absurd e
answered b (Err y) e q = ap (λ z. refused 1 (number_of_field z)) e ∙ q
