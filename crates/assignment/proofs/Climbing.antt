-- How far `find` has come on the way up from x.
use mathlib.Core.Path.{◌≡◌, ◌∙◌}
use mathlib.Core.List.{List}
use Prim.Native.Nat.{ℕ, ◌<◌}
use lib.ListN.{get_or, set}
use Rattle.assignment.specs.Forest.{Forest, Ranked, Labelled}
use Rattle.assignment.proofs.Forests.{climbs, halve_forest, halve_roots, halve_stay, halve_labels}

-- what has been done to the parents by the time that the way up is at y
pub record Climbed (par₀ rank par : List ℕ) (x y : ℕ) : Type 0 where
  pub inside : y < 128
  pub forest : (k : ℕ) → Forest k par₀ rank → Forest k par rank
  pub roots : (z : ℕ) → z < 128 → get_or par z 0 ≡ z → get_or par₀ z 0 ≡ z
  pub stay : (z : ℕ) → z < 128 → get_or par₀ z 0 ≡ z → get_or par z 0 ≡ z
  pub kept : (label : ℕ → ℕ) → Labelled label par₀ → Labelled label par × (label y ≡ label x)
  pub ranks : Ranked par₀ rank

module _ (par₀ rank par : List ℕ) (x y : ℕ) (i : Climbed par₀ rank par x y) where
  F : Forest i.ranks.k par rank
  F = i.forest i.ranks.k i.ranks.forest

  pub next_in : get_or par y 0 < 128
  next_in = F.within y i.inside

  -- a turn
  module _ (g : get_or par y 0 ≡ y → ⊥) where
    pub goes_up : get_or rank y 0 < get_or rank (get_or par (get_or par y 0) 0) 0
    goes_up = climbs i.ranks.k par rank y i.inside F g

    pub climb : Climbed par₀ rank (set par y (get_or par (get_or par y 0) 0)) x (get_or par (get_or par y 0) 0)
    climb = record {
      inside = F.within (get_or par y 0) next_in;
      forest = λ k f. halve_forest k par rank y i.inside (i.forest k f) g;
      roots = λ z l e. i.roots z l (halve_roots i.ranks.k par rank y i.inside F g z l e);
      stay = λ z l e. halve_stay i.ranks.k par rank y i.inside F g z l (i.stay z l e);
      kept = λ label L. let m = i.kept label L in let r = halve_labels i.ranks.k par rank y i.inside F g label m.0 in (r.0, r.1 ∙ m.1);
      ranks = i.ranks;
    }
