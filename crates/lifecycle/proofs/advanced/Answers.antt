use mathlib.Core.Path.{◌≡◌, ◌∙◌, sym, ap}
use mir.Facts.{to_z-of_z}
use Rattle.lifecycle.specs.Lifecycle.{advanced_of, kept_if}
use Rattle.lifecycle.specs.declared.AgedLifecycle.{AgedLifecycle}
use Rattle.lifecycle.specs.declared.Verdict.{Verdict}
use Rattle.lifecycle.proofs.advanced.Goals as goal

-- what the life's verdict was found to be is what it is by the definition
found : (a b : AgedLifecycle) (v : Verdict) → a.verdict ≡ v → a ≡ b → kept_if v a.lifecycle ≡ kept_if b.verdict b.lifecycle
found a b v h e = ap (λ (w : Verdict). kept_if w a.lifecycle) (sym h) ∙ ap (λ (x : AgedLifecycle). kept_if x.verdict x.lifecycle) e

pub returns-in-Kept : goal.returns-in-Kept
unfolding advanced_of
returns-in-Kept c = found _ _ _ c.in-Kept.is (rw (to_z-of_z c.ranges.now) at c.aged-a.ensures)

pub returns-in-Dropped : goal.returns-in-Dropped
unfolding advanced_of
returns-in-Dropped c = found _ _ _ c.in-Dropped.is (rw (to_z-of_z c.ranges.now) at c.aged-a.ensures)
