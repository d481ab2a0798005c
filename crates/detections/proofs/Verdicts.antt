-- What a verdict is for a whole filter, and what it says of the pair. Assumes nothing.
use Rattle.std.specs.Prelude.{Option}
use Rattle.detections.specs.declared.pairs.ClassPrior.{ClassPrior}
use mathlib.Core.Path.{◌≡◌, refl, ap}
use mathlib.Core.Bool.{Bool, true, false, cond}
use mathlib.Core.List.Memᴰ
use mathlib.Core.List.{[]}
use Prim.Native.Nat.{ℕ}
use native.Mathlib.Omega.{arith}
use lib.Ieee.{Float, le}
use lib.Ieee.Scale.{finite}
use Rattle.number.specs.Reply.{Reply, refused, given, and_then}
use Rattle.filter.specs.declared.KalmanFilter.{KalmanFilter}
use Rattle.filter.specs.Filter.{distance_from, squared_mahalanobis}
use Rattle.filter.proofs.Split.{checked_distance}
use Rattle.detections.specs.declared.Detection.{Detection}
use Rattle.detections.specs.declared.pairs.Target.{Target}
use Rattle.detections.specs.declared.pairs.PairConfig.{PairConfig}
use Rattle.detections.specs.declared.pairs.Rule.{Rule}
use Rattle.detections.specs.declared.pairs.Rule.TheVariants.{Classes, Gate, Cost}
use Rattle.detections.specs.Detection.{detection_reply}
use Rattle.detections.specs.declared.pairs.Ruling.{Ruling}
use Rattle.detections.specs.declared.pairs.Ruling.TheVariants.{Allowed, Forbidden}
use Rattle.detections.specs.Pairs.{compatible, penalized, priced, gated, ruled, target_of, verdict_of}
use Rattle.detections.specs.Far.{MayPair, Far}
use Rattle.detections.proofs.Checking.{finite_position, valid_covariance}

-- the cost of a pair that may be made is finite
module _ (x : Float) where
  priced_finite : (cost : Float) → priced cost ≡ Allowed x → finite x ≡ true
  unfolding priced
  priced_finite cost = go (finite cost) refl
    where
      go : (b : Bool) → finite cost ≡ b → cond b (Allowed cost) (Forbidden Cost) ≡ Allowed x → finite x ≡ true
      go true f e = cc
      go false f e = absurd (let z : ◌≡◌ {A = ℕ} 0 1 = cc in omega arith)

  gated_finite : (c : PairConfig) (prior : Option ClassPrior) (seen : Option ℕ) (d : Float) → gated c prior seen d ≡ Allowed x → finite x ≡ true
  unfolding gated
  gated_finite c prior seen d = go (le d c.gate_squared_mahalanobis)
    where
      go : (b : Bool) → cond b (priced (penalized c.class_prior_penalty prior seen d)) (Forbidden Gate) ≡ Allowed x → finite x ≡ true
      go true e = priced_finite (penalized c.class_prior_penalty prior seen d) e
      go false e = absurd (let z : ◌≡◌ {A = ℕ} 0 1 = cc in omega arith)

  ruled_finite : (c : PairConfig) (class : Option ℕ) (prior : Option ClassPrior) (seen : Option ℕ) (distance : Reply Float) → ruled c class prior seen distance ≡ given (Allowed x) → finite x ≡ true
  unfolding ruled
  ruled_finite c class prior seen distance = go (compatible class seen) distance
    where
      go : (b : Bool) (r : Reply Float) → cond b (and_then r (λ d. given (gated c prior seen d))) (given (Forbidden Classes)) ≡ given (Allowed x) → finite x ≡ true
      go true (given d) e = gated_finite c prior seen d (cc)
      go true (refused n) e = absurd (let z : ◌≡◌ {A = ℕ} 0 1 = cc in omega arith)
      go false r e = absurd (let z : ◌≡◌ {A = ℕ} 0 1 = cc in omega arith)

module _ (c : PairConfig) where
  -- for a detection that has passed its checks, the verdict is that of the whole squared distance
  pub verdict_whole : (f : KalmanFilter) (class : Option ℕ) (prior : Option ClassPrior) (d : Detection) → detection_reply d ≡ given tt
      → verdict_of c (target_of f class prior) d ≡ ruled c class prior d.class_label (squared_mahalanobis d.position d.covariance f)
  unfolding verdict_of
  verdict_whole f class prior d p =
      ap (ruled c class prior d.class_label) (checked_distance f d.position d.covariance (finite_position d p) (valid_covariance d p))

  pub allowed_finite : (t : Target) (d : Detection) (x : Float) → verdict_of c t d ≡ given (Allowed x) → finite x ≡ true
  unfolding verdict_of
  allowed_finite t d x = ruled_finite x c t.class_label t.class_prior d.class_label (distance_from t.expected d.position d.covariance)

  -- ---- far

  pub far_from_none : (d : Detection) → Far c [] d
  far_from_none d t m = λ p. Memᴰ.not-nil m

  module _ (t : Target) (d : Detection) where
    pub forbidden_pair : (rule : Rule) → verdict_of c t d ≡ given (Forbidden rule) → ¬ MayPair c t d
    forbidden_pair rule e p = let f = p.1 in let z : ◌≡◌ {A = ℕ} 0 1 = cc in omega arith

    pub refused_pair : (n : ℕ) → verdict_of c t d ≡ refused n → ¬ MayPair c t d
    refused_pair n e p = let f = p.1 in let z : ◌≡◌ {A = ℕ} 0 1 = cc in omega arith

    -- a pair that is measured and may not be made is forbidden by a rule
    pub forbidden_by : (r : Ruling) → verdict_of c t d ≡ given r → ¬ MayPair c t d → (rule : Rule) × (r ≡ Forbidden rule)
    forbidden_by (Forbidden rule) e n = (rule, refl)
    forbidden_by (Allowed cost) e n = absurd (n (cost, e))
