-- The entries of a square and the numbers of a state as integers, and what holds of them between two turns.
use mathlib.Core.Path.{◌≡◌}
use mathlib.Core.Logic.{◌⊎◌}
use mathlib.Core.Bool.{Bool, false}
use Prim.Native.Nat.{ℕ, ◌+◌, ◌^◌, ◌≤◌, ◌<◌}
use lib.ListN.{get_or, length}
use lib.Ieee.{Float, nan, inf}
use Rattle.whole.specs.Integer.{Integer, 0_z, ◌≈◌, Within}
use Rattle.whole.specs.Whole.{WholeValue, whole_of}
use Rattle.whole.proofs.Values.{IsWhole}
use Rattle.kuhn_munkres.specs.Steps.{State}
use Rattle.potentials.proofs.Turn.{Tree}

-- the entries of the square are whole and at most B either way, and 8 B is still exact
pub record Entries (n B : ℕ) (a : ℕ → ℕ → Float) (A : ℕ → ℕ → Integer) : Type 0 where
  pub exact : B + B + B + B + B + B + B + B ≤ 2 ^ 53
  pub value : (i j : ℕ) → 0 < i → i ≤ n → 0 < j → j ≤ n → WholeValue (a i j) (A i j)
  pub small : (i j : ℕ) → 0 < i → i ≤ n → 0 < j → j ≤ n → Within B (A i j)

abbrev pub u_of : State Float → ℕ → Integer
u_of s i = whole_of (get_or s.u i nan)

abbrev pub v_of : State Float → ℕ → Integer
v_of s j = whole_of (get_or s.v j nan)

abbrev pub m_of : State Float → ℕ → Integer
m_of s j = whole_of (get_or s.minv j nan)

abbrev pub p_of : State Float → ℕ → ℕ
p_of s k = get_or s.p k 0

abbrev pub way_of : State Float → ℕ → ℕ
way_of s j = get_or s.way j 0

abbrev pub used : State Float → ℕ → Bool
used s k = get_or s.used k false

-- the potentials are whole
pub record Potentials (n : ℕ) (s : State Float) : Type 0 where
  pub u_at : (i : ℕ) → 0 < i → i ≤ n → IsWhole (get_or s.u i nan)
  pub v_at : (j : ℕ) → 0 < j → j ≤ n → IsWhole (get_or s.v j nan)
  pub u_long : n < length s.u
  pub v_long : n < length s.v

-- what holds between two turns, while row c is put in: the rows after it have the potential 0 still
pub record Turning (n B c : ℕ) (A : ℕ → ℕ → Integer) (s : State Float) : Type 0 where
  pub tree : Tree n B A (p_of s) (used s) s.j0 (u_of s) (v_of s) (m_of s) (way_of s)
  pub potentials : Potentials n s
  pub m_at : (j : ℕ) → 0 < j → j ≤ n → used s j ≡ false → ((s.j0 ≡ 0) × (get_or s.minv j nan ≡ inf false)) ⊎ ((0 < s.j0) × IsWhole (get_or s.minv j nan))
  pub held : (k : ℕ) → k ≤ n → p_of s k ≤ c
  pub rest : (i : ℕ) → c < i → i ≤ n → u_of s i ≈ 0_z
