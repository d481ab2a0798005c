-- Detections as arrays of numbers hold them. Of a detection a pair depends on its position, its covariance and its class. 01, Detection: "A pair may be made if classes agree or one is absent,
-- the squared distance is at most the gate, and the cost with prior penalty stays finite."
use Rattle.std.specs.Prelude.{ℕ, ◌≤◌, ◌<◌, ◌≡◌, List, [], length, get_or, None, Option}
use Rattle.matrix.specs.Matrix.{Vector, tabulate}
use Rattle.detections.specs.declared.Detection.{Detection}

-- ---- what pairs read of a detection, with nothing in the place of the rest

abbrev pub sight : Vector → Vector → Option ℕ → Detection
sight z r class = record { position = z; covariance = r; velocity = None; class_label = class; score = None }

abbrev pub sight_of : Detection → Detection
sight_of d = sight d.position d.covariance d.class_label

abbrev pub sight_at : List Vector → List Vector → List (Option ℕ) → ℕ → Detection
sight_at positions noises labels j = sight (get_or positions j []) (get_or noises j []) (get_or labels j None)

-- the first m
unfoldable pub sights_in : List Vector → List Vector → List (Option ℕ) → ℕ → List Detection
sights_in positions noises labels m = tabulate m (sight_at positions noises labels)

-- ---- each of the first m has one at or before it whose covariance is its own

pub record Kin (noises : List Vector) (m : ℕ) (kin : List ℕ) : Type 0 where
  pub long : length kin ≡ 64
  pub before : (j : ℕ) → j < m → get_or kin j 0 ≤ j
  pub same : (j : ℕ) → j < m → get_or noises (get_or kin j 0) [] ≡ get_or noises j []
