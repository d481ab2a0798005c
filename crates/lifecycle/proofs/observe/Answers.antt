use Rattle.std.proofs.Common.{◌≡◌, ℕ, refl}
use Rattle.lifecycle.specs.declared.TrackLifecycleState.{TrackLifecycleState}
use Rattle.lifecycle.specs.declared.TrackLifecycleState.TheVariants.{Tentative, Confirmed, Lost, Deleted}
use Rattle.lifecycle.specs.Lifecycle.{observed}
use Rattle.lifecycle.proofs.observe.Goals as goal

others_stay : (s : TrackLifecycleState) (count enough : ℕ) → (s ≡ Tentative → ⊥) → (s ≡ Lost → ⊥) → s ≡ observed s count enough
unfolding observed
others_stay Tentative count enough not_tentative not_lost = absurd (not_tentative refl)
others_stay Confirmed count enough not_tentative not_lost = refl
others_stay Lost count enough not_tentative not_lost = absurd (not_lost refl)
others_stay Deleted count enough not_tentative not_lost = refl

pub returns-in-Tentative : goal.returns-in-Tentative
unfolding observed
returns-in-Tentative c = rw c.in-Tentative.is (rw c.in-Tentative.is at c.mature.ensures)

pub returns-in-Lost : goal.returns-in-Lost
unfolding observed
returns-in-Lost c = rw c.in-Lost.is

pub returns-in_default : goal.returns-in_default
returns-in_default c = others_stay c.args.state c.args.count c.args.enough c.in_default.not-Tentative c.in_default.not-Lost
