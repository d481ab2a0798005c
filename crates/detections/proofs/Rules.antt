-- What the tests on the way of a verdict say of its definition. Assumes nothing.
use Rattle.std.specs.Prelude.{Option, ℕ}
use Rattle.detections.specs.declared.pairs.ClassPrior.{ClassPrior}
use mathlib.Core.Path.{◌≡◌}
use mathlib.Core.Bool.{true, false}
use lib.Ieee.{Float, le}
use lib.Ieee.Scale.{finite}
use Rattle.number.specs.Reply.{Reply, given}
use Rattle.detections.specs.declared.pairs.PairConfig.{PairConfig}
use Rattle.detections.specs.declared.pairs.Rule.TheVariants.{Classes, Gate, Cost}
use Rattle.detections.specs.declared.pairs.Ruling.{Ruling}
use Rattle.detections.specs.declared.pairs.Ruling.TheVariants.{Allowed, Forbidden}
use Rattle.detections.specs.Pairs.{compatible, penalized, priced, gated, measured, ruled}

module _ (cost : Float) where
  pub cost_finite : finite cost ≡ true → Allowed cost ≡ priced cost
  unfolding priced
  cost_finite f = rw f

  pub cost_infinite : finite cost ≡ false → Forbidden Cost ≡ priced cost
  unfolding priced
  cost_infinite f = rw f

module _ (c : PairConfig) (prior : Option ClassPrior) (seen : Option ℕ) (d : Float) where
  pub within_gate : le d c.gate_squared_mahalanobis ≡ true → priced (penalized c.class_prior_penalty prior seen d) ≡ gated c prior seen d
  unfolding gated
  within_gate t = rw t

  pub beyond_gate : le d c.gate_squared_mahalanobis ≡ false → Forbidden Gate ≡ gated c prior seen d
  unfolding gated
  beyond_gate t = rw t

module _ (c : PairConfig) (class : Option ℕ) (prior : Option ClassPrior) (seen : Option ℕ) (distance : Reply Float) where
  pub classes_forbid : compatible class seen ≡ false → given (Forbidden Classes) ≡ ruled c class prior seen distance
  unfolding ruled
  classes_forbid f = rw f

  pub distance_decides : {r : Reply Ruling} → compatible class seen ≡ true → r ≡ measured c prior seen distance → r ≡ ruled c class prior seen distance
  unfolding ruled
  distance_decides t e = rw t e
