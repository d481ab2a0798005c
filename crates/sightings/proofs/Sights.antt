-- What the loop that lays detections out has done by index j. Assumes nothing.
use Rattle.std.specs.Prelude.{Option}
use mathlib.Core.Path.{◌≡◌, refl, ap, ◌∙◌}
use mathlib.Core.List.{List, [], ◌∷◌, map}
use Prim.Native.Nat.{ℕ, zero, suc, ◌<◌}
use native.Mathlib.Omega.{arith}
use lib.ListN.{length, get_or}
use Rattle.matrix.specs.Matrix.{Vector, tabulate}
use Rattle.matrix.proofs.Tabulated.{get_d_tabulate, tabulate_same}
use Rattle.detections.specs.declared.Detection.{Detection}
use Rattle.batches.proofs.Checks.{no_detection}
use Rattle.sightings.specs.declared.Sightings.{Sightings}
use Rattle.sightings.specs.Laid.{sights_of}
use Rattle.sightings.specs.Sights.{sight_of, sight_at, sights_in}

-- ---- what is laid out

pub length_tabulate : {A : Type 0} (n : ℕ) (f : ℕ → A) → length (tabulate n f) ≡ n
length_tabulate zero f = refl
length_tabulate (suc n) f = ap suc (length_tabulate n (λ k. f (suc k)))

tabulate_all : {A B : Type 0} (g : A → B) (l : List A) (a : A) → tabulate (length l) (λ k. g (get_or l k a)) ≡ map g l
tabulate_all g [] a = refl
tabulate_all {A} {B} g (x ∷ l) a = ap {B = List B} (λ r. g x ∷ r) (tabulate_all g l a)

module _ (s : Sightings) where
  pub sights_long : length (sights_of s) ≡ s.count
  unfolding sights_in
  sights_long = length_tabulate s.count (sight_at s.positions s.noises s.labels)

  pub sights_at : (j : ℕ) (d : Detection) → j < s.count → get_or (sights_of s) j d ≡ sight_at s.positions s.noises s.labels j
  unfolding sights_in
  sights_at j d h = get_d_tabulate d s.count j (sight_at s.positions s.noises s.labels) h

-- ---- the loop

pub record Sighted (observations : List Detection) (j : ℕ) (positions noises : List Vector) (labels : List (Option ℕ)) : Type 0 where
  pub positions_long : length positions ≡ 64
  pub noises_long : length noises ≡ 64
  pub labels_long : length labels ≡ 64
  pub at : (k : ℕ) → k < j → sight_at positions noises labels k ≡ sight_of (get_or observations k no_detection)

pub sighted_all : (observations : List Detection) (j : ℕ) (positions noises : List Vector) (labels : List (Option ℕ)) → Sighted observations j positions noises labels → j ≡ length observations
    → sights_in positions noises labels (length observations) ≡ map sight_of observations
unfolding sights_in
sighted_all observations j positions noises labels s e =
    tabulate_same (length observations) (sight_at positions noises labels) (λ k. sight_of (get_or observations k no_detection)) (λ k l. s.at k (omega arith))
    ∙ tabulate_all sight_of observations no_detection
