-- What stands in a list of one value, and in a list of marks after one more is set.
use mathlib.Core.Path.{◌≡◌, refl, sym, ◌∙◌}
use mathlib.Core.Logic.{◌⊎◌, inl, inr}
use mathlib.Core.Bool.{Bool, true, false, true≢false}
use mathlib.Core.List.{List}
use Prim.Native.Nat.{ℕ, zero, suc, ◌<◌}
use native.Mathlib.Decide.{ℕ_discrete}
use lib.ListN.{get_or, set, length, replicate}
use lib.Seq.{get_or-set_same, get_or-set_other}

-- within the list and beyond it
pub all_alike : {A : Type 0} (d : A) (m j : ℕ) → get_or (replicate m d) j d ≡ d
all_alike d zero j = refl
all_alike d (suc m) zero = refl
all_alike d (suc m) (suc j) = all_alike d m j

module _ (l : List Bool) (j : ℕ) (within : j < length l) where
  pub mark_set : get_or (set l j true) j false ≡ true
  mark_set = get_or-set_same l j true false within

  -- marked now: the new one, and those before
  pub mark_cases : (k : ℕ) → get_or (set l j true) k false ≡ true → (k ≡ j) ⊎ (get_or l k false ≡ true)
  mark_cases k h = go (ℕ_discrete k j)
    where
      go : Dec (k ≡ j) → (k ≡ j) ⊎ (get_or l k false ≡ true)
      go (yes e) = inl e
      go (no g) = inr (sym (get_or-set_other l j k true false g) ∙ h)

  pub mark_more : (k : ℕ) → get_or l k false ≡ true → get_or (set l j true) k false ≡ true
  mark_more k h = go (ℕ_discrete k j)
    where
      go : Dec (k ≡ j) → get_or (set l j true) k false ≡ true
      go (yes e) = rw e mark_set
      go (no g) = get_or-set_other l j k true false g ∙ h

  pub mark_less : (k : ℕ) → get_or (set l j true) k false ≡ false → get_or l k false ≡ false
  mark_less k h = go (get_or l k false) refl
    where
      go : (b : Bool) → get_or l k false ≡ b → b ≡ false
      go true e = absurd (true≢false (sym (mark_more k e) ∙ h))
      go false e = refl
