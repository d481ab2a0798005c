-- Integers as differences of two natural numbers, their order and their sums.
use Rattle.std.specs.Prelude.{◌≡◌, Bool, ℕ, zero, suc, ◌+◌, ◌≤◌, ltb}

infixl 20 ◌+Z◌ ◌-Z◌
infix 15 ◌≤Z◌ ◌≈◌
-- the integer up - dn
pub record Integer : Type 0 where
  pub up : ℕ
  pub dn : ℕ

abbrev pub 0_z : Integer
0_z = record { up = 0; dn = 0 }

-- a natural number
abbrev pub natural : ℕ → Integer
natural n = record { up = n; dn = 0 }

abbrev pub ◌+Z◌ : Integer → Integer → Integer
a +Z b = record { up = a.up + b.up; dn = a.dn + b.dn }

abbrev pub neg_z : Integer → Integer
neg_z a = record { up = a.dn; dn = a.up }

abbrev pub ◌-Z◌ : Integer → Integer → Integer
a -Z b = record { up = a.up + b.dn; dn = a.dn + b.up }

-- the same integer: 2 - 1 and 1 - 0 are
abbrev pub ◌≈◌ : Integer → Integer → Type 0
a ≈ b = a.up + b.dn ≡ b.up + a.dn

abbrev pub ◌≤Z◌ : Integer → Integer → Type 0
a ≤Z b = a.up + b.dn ≤ b.up + a.dn

abbrev pub lt_z : Integer → Integer → Bool
lt_z a b = ltb (a.up + b.dn) (b.up + a.dn)

-- at most k either way
abbrev pub Within : ℕ → Integer → Type 0
Within k d = (d.up ≤ d.dn + k) × (d.dn ≤ d.up + k)

-- f 0 + f 1 + .. + f (n - 1)
unfoldable pub sum : (ℕ → Integer) → ℕ → Integer
sum f zero = 0_z
sum f (suc n) = sum f n +Z f n

-- d, n times
unfoldable pub times : ℕ → Integer → Integer
times n d = sum (λ i. d) n
