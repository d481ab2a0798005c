-- What the disjoint sets say: trees by parents that rise in rank, and labels that are equal exactly within a tree.
use Rattle.std.specs.Prelude.{◌≡◌, cond, List, ℕ, ◌+◌, ◌≤◌, ◌<◌, get_or, length, eqb}

-- 01, Assignment: "The joined-group search keeps a parent and a rank for 128 items". No rank is above k.
pub record Forest (k : ℕ) (par rank : List ℕ) : Type 0 where
  pub long : length par ≡ 128
  pub ranks : length rank ≡ 128
  pub within : (x : ℕ) → x < 128 → get_or par x 0 < 128
  pub up : (x : ℕ) → x < 128 → (get_or par x 0 ≡ x → ⊥) → get_or rank x 0 < get_or rank (get_or par x 0) 0
  pub cap : (x : ℕ) → get_or rank x 0 ≤ k

-- these ranks rise on every way up, so that it ends, and there is room for one more
pub record Ranked (par rank : List ℕ) : Type 0 where
  pub k : ℕ
  pub forest : Forest k par rank
  pub room : k < 5000

-- joined items have one label, and each label one root
pub record Labelled (label : ℕ → ℕ) (par : List ℕ) : Type 0 where
  pub same : (x : ℕ) → x < 128 → label (get_or par x 0) ≡ label x
  pub one : (x y : ℕ) → x < 128 → y < 128 → get_or par x 0 ≡ x → get_or par y 0 ≡ y → label x ≡ label y → x ≡ y

-- what a search for x's root gives: the same trees, with shorter ways up
pub record Found (par rank par' : List ℕ) (x r : ℕ) : Type 0 where
  pub inside : r < 128
  pub root : get_or par' r 0 ≡ r
  pub forest : (k : ℕ) → Forest k par rank → Forest k par' rank
  pub roots : (y : ℕ) → y < 128 → get_or par' y 0 ≡ y → get_or par y 0 ≡ y
  pub stay : (y : ℕ) → y < 128 → get_or par y 0 ≡ y → get_or par' y 0 ≡ y
  pub kept : (label : ℕ → ℕ) → Labelled label par → Labelled label par' × (label r ≡ label x)

-- the labels once b's set is joined to a's
abbrev pub join_of : (ℕ → ℕ) → ℕ → ℕ → ℕ → ℕ
join_of label a b z = cond (eqb (label z) (label b)) (label a) (label z)

pub record United (par rank par' rank' : List ℕ) (a b : ℕ) : Type 0 where
  pub forest : (k : ℕ) → Forest k par rank → Forest (k + 1) par' rank'
  pub joined : (label : ℕ → ℕ) → Labelled label par → Labelled (join_of label a b) par'
