-- Places in arrays of 129 entries of eight bytes.
use Prim.Native.Nat.{ℕ, ◌+◌, ◌*◌, ◌≤◌, ◌<◌}
use mir.Syntax.{w64}
use mir.Val.{Fits}
use native.Mathlib.Omega.{arith}

pub under : {i n k : ℕ} → i ≤ n → n < k → i < k
under a b = omega arith

pub small : (i : ℕ) → i < 129 → Fits w64 i
small i h = omega arith

pub fits8 : (i : ℕ) → i < 129 → Fits w64 (i * 8)
fits8 i h = omega arith

pub after : (k n : ℕ) → k < n → n ≤ 128 → k + 1 < 129
after k n h g = omega arith
