-- A new track: what it is made of. Assumes nothing.
use Rattle.std.specs.Prelude.{None, Option, Some}
use mathlib.Core.Path.{◌≡◌, refl, ap, ◌∙◌}
use Prim.Native.Nat.{ℕ}
use lib.Ieee.{Float}
use Rattle.number.specs.Reply.{Reply, given, and_then}
use Rattle.matrix.specs.Matrix.{Vector}
use Rattle.filter.specs.declared.KalmanFilter.{KalmanFilter}
use Rattle.filter.specs.Filter.{created}
use Rattle.detections.specs.declared.Detection.{Detection}
use Rattle.calls.specs.Update.{Moving}
use Rattle.calls.specs.Births.{born_state, born_variance, born_covariance, born_filter}
use Rattle.spawning.specs.declared.spawn.Start.{Start}
use Rattle.spawning.specs.declared.spawn.Begin.{Begin}
use Rattle.spawning.specs.Spawn.{start_of, state_from, moving_in, track_from, made_of}

state_by : (p : Vector) (initial : Float) (m : Option Moving) → state_from p (start_of initial m) ≡ born_state p m
state_by p initial None = refl
state_by p initial (Some v) = refl

variance_by : (initial : Float) (m : Option Moving) → (start_of initial m).variance ≡ born_variance initial m
variance_by initial None = refl
variance_by initial (Some v) = refl

-- the reply of the filter is that of the definition, and so is what is made of it
pub made_by : (d : Detection) (id sightings : ℕ) (b : Begin) (v : Start) (x p : Vector) (r : Reply KalmanFilter) → v ≡ start_of b.variance (moving_in d b) → x ≡ state_from d.position v
    → p ≡ born_covariance d.covariance v.variance b.variance → r ≡ created x p → and_then r (λ f. given (track_from d id sightings b f)) ≡ made_of d id sightings b
unfolding born_filter
made_by d id sightings b v x p r ev ex ep e =
    let m = moving_in d b in
    let fx : x ≡ born_state d.position m = ex ∙ ap (state_from d.position) ev ∙ state_by d.position b.variance m in
    let fp : p ≡ born_covariance d.covariance (born_variance b.variance m) b.variance =
    ep ∙ ap (λ (w : Float). born_covariance d.covariance w b.variance) (ap (λ (w : Start). w.variance) ev ∙ variance_by b.variance m) in
    ap (λ (o : Reply KalmanFilter). and_then o (λ f. given (track_from d id sightings b f))) (e ∙ (λ i. created (fx i) (fp i)))
