-- The square root as IEEE 754 has it: the exact root, rounded once to the nearest binary64.
-- 01, Number and root: "A root is the binary64 nearest the exact square root, stated over squared whole numbers. Root of ±0 is itself, of +infinity +infinity." 01, Root: "9 for NaN or below zero."
use Rattle.std.specs.Prelude.{◌≡◌, ℕ, zero, suc, ◌+◌, ◌-◌, ◌*◌, ◌/◌, ◌^◌, ◌<◌, ◌≤◌, true, false, cond, T, ◌==◌, nat_lt, Float, Option}
use Rattle.std.specs.Float.{nan, inf, fin}
use Rattle.std.specs.Float.Ieee.{up, down, size, odd}
use Rattle.std.specs.Float.Ieee.Exact.{HasValue}
use Rattle.std.specs.Float.Ieee.Positive.{positive}
use Rattle.number.specs.Reply.{Reply, refused, given, reply_or}

-- ---- what a nearest root is

-- The midpoints between a double of 53 digits q and its neighbours, in quarters of q's last place. Below a power of two the doubles lie twice as close.
abbrev pub lower_midpoint : ℕ → ℕ
lower_midpoint q = cond (q == 2 ^ 52) (4 * q - 1) (4 * q - 2)

abbrev pub upper_midpoint : ℕ → ℕ
upper_midpoint q = 4 * q + 2

-- v is the double nearest the root of x: x is w units of 2 ^ -2148, v is q * 2 ^ j units of 2 ^ -1074, the root of such a unit, and q has 53 digits.
-- In quarters of those units, x lies between the squares of the midpoints around v.
pub record NearestRoot (x v : Float) : Type 0 where
  pub w : ℕ
  pub q : ℕ
  pub j : ℕ
  pub argument : HasValue x false w (2 ^ 2148)
  pub result : HasValue v false (q * 2 ^ j) (2 ^ 1074)
  pub least : 2 ^ 52 ≤ q
  pub most : q < 2 ^ 53
  pub lower : lower_midpoint q * 2 ^ j * (lower_midpoint q * 2 ^ j) < 16 * w
  pub upper : 16 * w < upper_midpoint q * 2 ^ j * (upper_midpoint q * 2 ^ j)

-- ---- the same as a function that computes

-- the largest p from q up, below q + 2 ^ k, with p² - p < n, digit by digit: it is the whole number nearest the root of n
unfoldable pub root_by : ℕ → ℕ → ℕ → ℕ
root_by zero n q = q
root_by (suc k) n q = let p = q + 2 ^ k in root_by k n (cond (nat_lt (p * p) (n + p)) p q)

-- the value nearest the root of w units of 2 ^ -2148: w cut to 105 or 106 digits has a root of 53
unfoldable pub root_of : ℕ → Float
unfolding root_by size odd
root_of w = let j = (size w - 105) / 2 in odd 53 false (root_by 53 (w / (2 ^ j * 2 ^ j)) 0) j 1074

unfoldable pub root_reply : Float → Reply Float
unfolding root_of
root_reply nan = refused 9
root_reply (inf true) = refused 9
root_reply (inf false) = given (inf false)
root_reply (fin s zero e) = given (fin s zero e)
root_reply (fin true (suc m) e) = refused 9
root_reply (fin false (suc m) e) = given (root_of (suc m * up e * 2 ^ 2148 / down e))

-- ---- the contract

abbrev pub reply_of_root : Option Float → Reply Float
reply_of_root o = reply_or 9 o

pub record RootAnswer (x : Float) (r : Option Float) : Type 0 where
  pub is : reply_of_root r ≡ root_reply x
  pub nearest : (v : Float) → T (positive x) → root_reply x ≡ given v → NearestRoot x v
