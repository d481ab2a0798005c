-- A state whose indices stay in range, as the contracts of the inner steps ask it: rows and columns of a square of n.
use Rattle.std.specs.Prelude.{ℕ, ◌≤◌, ◌<◌, get_or, length}
use Rattle.kuhn_munkres.specs.Steps.{State}

pub record Sane {N : Type 0} (n : ℕ) (s : State N) : Type 0 where
  pub p_le : (k : ℕ) → get_or s.p k 0 ≤ n
  pub way_le : (k : ℕ) → get_or s.way k 0 ≤ n
  pub j0_le : s.j0 ≤ n
  pub j1_le : s.j1 ≤ n
  pub p_some : 0 < length s.p
