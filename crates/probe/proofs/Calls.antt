-- From what a filter's call answers to what its C caller sees. Assumes nothing.
use mathlib.Core.Path.{◌≡◌, ap, ◌∙◌}
use Prim.Native.Nat.{ℕ}
use lib.Ieee.{Float}
use Rattle.number.specs.Reply.{Reply, code_of, left_in}
use Rattle.matrix.specs.Matrix.{Vector}
use Rattle.filter.specs.declared.KalmanFilter.{KalmanFilter}
use Rattle.filter.specs.Filter.{filter_with}
use Rattle.probe.specs.Lent.{StepCall, DistanceCall}

pub step_call : {reply reply' : Reply KalmanFilter} {r : ℕ} {x p x' p' : Vector} → reply ≡ reply' → StepCall reply r x p x' p' → StepCall reply' r x p x' p'
step_call {x = x} {p = p} e l =
    record {
      code = l.code ∙ ap code_of e;
      state = l.state ∙ ap (λ (q : Reply KalmanFilter). (left_in q (filter_with x p)).state) e;
      covariance = l.covariance ∙ ap (λ (q : Reply KalmanFilter). (left_in q (filter_with x p)).covariance) e;
    }

pub distance_call : {reply reply' : Reply Float} {r : ℕ} {before after : Float} → reply ≡ reply' → DistanceCall reply r before after → DistanceCall reply' r before after
distance_call {before = before} e d = record { code = d.code ∙ ap code_of e; out = d.out ∙ ap (λ (q : Reply Float). left_in q before) e }
