-- Nothing changes after two steps. Assumes nothing.
use mathlib.Core.Path.{◌≡◌, refl, sym, ap, ◌∙◌}
use mathlib.Core.Bool.{Bool, true, false, cond}
use lib.IntN.{ℤ}
use lib.Signed.{lt_z}
use Rattle.lifecycle.specs.declared.TrackLifecycleState.{TrackLifecycleState}
use Rattle.lifecycle.specs.declared.TrackLifecycleState.TheVariants.{Tentative, Confirmed, Lost, Deleted}
use Rattle.lifecycle.specs.declared.LifecycleConfig.{LifecycleConfig}
use Rattle.lifecycle.specs.Lifecycle.{next, settled}

module _ (c : LifecycleConfig) (age : ℤ) where
  lost_stays : (b : Bool) → lt_z c.lost_to_delete_ns age ≡ b → next c age (cond b Deleted Lost) ≡ cond b Deleted Lost
  unfolding next
  lost_stays true e = refl
  lost_stays false e = rw e

  -- a confirmed life past its timeout goes on as a lost one
  pub settled_confirmed : lt_z c.confirmed_to_lost_ns age ≡ true → settled c age Confirmed ≡ settled c age Lost
  unfolding settled next
  settled_confirmed e = ap (λ (b : Bool). next c age (cond b Lost Confirmed)) e ∙ sym (lost_stays (lt_z c.lost_to_delete_ns age) refl)

  pub settled_stays : (s : TrackLifecycleState) → next c age (settled c age s) ≡ settled c age s
  unfolding settled next
  settled_stays Tentative = go (lt_z c.tentative_timeout_ns age) refl
    where
      go : (b : Bool) → lt_z c.tentative_timeout_ns age ≡ b → next c age (next c age (cond b Deleted Tentative)) ≡ next c age (cond b Deleted Tentative)
      go true e = refl
      go false e = simp e
  settled_stays Confirmed = go (lt_z c.confirmed_to_lost_ns age) refl
    where
      go : (b : Bool) → lt_z c.confirmed_to_lost_ns age ≡ b → next c age (next c age (cond b Lost Confirmed)) ≡ next c age (cond b Lost Confirmed)
      go true e = lost_stays (lt_z c.lost_to_delete_ns age) refl
      go false e = simp e
  settled_stays Lost = go (lt_z c.lost_to_delete_ns age) refl
    where
      go : (b : Bool) → lt_z c.lost_to_delete_ns age ≡ b → next c age (next c age (cond b Deleted Lost)) ≡ next c age (cond b Deleted Lost)
      go true e = refl
      go false e = simp e
  settled_stays Deleted = refl
