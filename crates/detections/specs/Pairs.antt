-- The rule for a pair, in one place. 01, Detection: "A pair may be made if classes agree or one is absent, the squared distance is at most the gate, and the cost with prior penalty stays finite."
use Rattle.detections.specs.declared.pairs.ClassPrior.{ClassPrior}
use Rattle.std.specs.Prelude.{Bool, true, cond, eqb, Float, None, Option, Some, ℕ}
use Rattle.std.specs.Float.{binary64}
use Rattle.std.specs.Float.Ieee.{add, mul, le}
use Rattle.std.specs.Float.Ieee.Scale.{finite}
use Rattle.number.specs.Reply.{Reply, given, and_then}
use Rattle.filter.specs.declared.KalmanFilter.{KalmanFilter}
use Rattle.filter.specs.Filter.{expected_of, distance_from}
use Rattle.detections.specs.declared.Detection.{Detection}
use Rattle.detections.specs.declared.pairs.Target.{Target}
use Rattle.detections.specs.declared.pairs.PairConfig.{PairConfig}
use Rattle.detections.specs.declared.pairs.Rule.TheVariants.{Classes, Gate, Cost}
use Rattle.detections.specs.declared.pairs.Ruling.{Ruling}
use Rattle.detections.specs.declared.pairs.Ruling.TheVariants.{Allowed, Forbidden}

-- "classes agree or one is absent"
abbrev pub compatible : Option ℕ → Option ℕ → Bool
compatible None b = true
compatible (Some x) None = true
compatible (Some x) (Some y) = eqb x y

-- "the cost with prior penalty": the penalty times the confidence is added where the detection's class is known and is not the prior's
abbrev pub penalized : Float → Option ClassPrior → Option ℕ → Float → Float
penalized penalty None seen cost = cost
penalized penalty (Some prior) None cost = cost
penalized penalty (Some prior) (Some x) cost = cond (eqb prior.label x) cost (add binary64 cost (mul binary64 penalty prior.confidence))

-- "and the cost with prior penalty stays finite"
unfoldable pub priced : Float → Ruling
priced cost = cond (finite cost) (Allowed cost) (Forbidden Cost)

-- "the squared distance is at most the gate"
unfoldable pub gated : PairConfig → Option ClassPrior → Option ℕ → Float → Ruling
gated c prior seen d = cond (le d c.gate_squared_mahalanobis) (priced (penalized c.class_prior_penalty prior seen d)) (Forbidden Gate)

-- the rules behind that of the classes, for a squared distance that is a reply
abbrev pub measured : PairConfig → Option ClassPrior → Option ℕ → Reply Float → Reply Ruling
measured c prior seen distance = and_then distance (λ d. given (gated c prior seen d))

-- the whole rule. 01, Batch: "distances of class-compatible pairs", so a pair that its classes forbid is never refused.
unfoldable pub ruled : PairConfig → Option ℕ → Option ClassPrior → Option ℕ → Reply Float → Reply Ruling
ruled c class prior seen distance = cond (compatible class seen) (measured c prior seen distance) (given (Forbidden Classes))

-- what of a track with the filter f its pairs depend on
abbrev pub target_of : KalmanFilter → Option ℕ → Option ClassPrior → Target
target_of f class prior = record { expected = expected_of f; class_label = class; class_prior = prior }

unfoldable pub verdict_of : PairConfig → Target → Detection → Reply Ruling
verdict_of c t d = ruled c t.class_label t.class_prior d.class_label (distance_from t.expected d.position d.covariance)
