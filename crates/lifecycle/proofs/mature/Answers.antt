use Rattle.std.proofs.Common.{◌≡◌, ℕ, refl, arith}
use borrow.Author.Tests.{le-leb, lt-leb}
use Rattle.lifecycle.specs.declared.TrackLifecycleState.{TrackLifecycleState}
use Rattle.lifecycle.specs.declared.TrackLifecycleState.TheVariants.{Tentative, Confirmed, Lost, Deleted}
use Rattle.lifecycle.specs.Lifecycle.{matured}
use Rattle.lifecycle.proofs.mature.Goals as goal

others_stay : (s : TrackLifecycleState) (count enough : ℕ) → (s ≡ Tentative → ⊥) → s ≡ matured s count enough
unfolding matured
others_stay Tentative count enough not_tentative = absurd (not_tentative refl)
others_stay Confirmed count enough not_tentative = refl
others_stay Lost count enough not_tentative = refl
others_stay Deleted count enough not_tentative = refl

pub returns-then-enough-count : goal.returns-then-enough-count
unfolding matured
returns-then-enough-count c =
    let s = c.before.before in
    simp (c.in-Tentative.is, le-leb s.args.enough s.args.count (omega (arith, c.if-enough-count.true)))

pub returns-else-enough-count : goal.returns-else-enough-count
unfolding matured
returns-else-enough-count c =
    let s = c.before.before in
    simp (c.in-Tentative.is, lt-leb s.args.enough s.args.count (omega (arith, c.if-enough-count.false)))

pub returns-in_default : goal.returns-in_default
returns-in_default c = others_stay c.args.state c.args.count c.args.enough c.in_default.not-Tentative
