-- What the inner functions of `root` say of whole numbers and patterns. A reader of `root`'s own contract can pass this over.
use Rattle.std.specs.Prelude.{◌≡◌, ℕ, zero, suc, ◌+◌, ◌-◌, ◌*◌, ◌/◌, ◌%◌, ◌^◌, ◌<◌, ◌≤◌, cond, from_bits, nat_lt, Float}
use Rattle.std.specs.Float.{binary64}

-- q's square by two digits of 52 bits
pub record Squared (q whole rest : ℕ) : Type 0 where
  pub is : q * q ≡ whole * 2 ^ 52 + rest
  pub small : rest < 2 ^ 53
  pub fits : whole < 2 ^ 55

-- q is the whole number nearest the root of n: (2 * q - 1)² < 4 * n < (2 * q + 1)², which is q² - q < n ≤ q² + q. There are no ties.
pub record Nearest (n q : ℕ) : Type 0 where
  pub above : n ≤ q * q + q
  pub below : q * q < n + q

-- 1 where d is past the limit, else 0
pub record Past (d limit r : ℕ) : Type 0 where
  pub is : r ≡ cond (nat_lt limit d) 1 0
  pub small : r ≤ 1

-- w is n * 4 ^ j, n has 105 or 106 digits, and q, of 53 digits, is nearest the root of n
pub record Rounded (w q j : ℕ) : Type 0 where
  pub n : ℕ
  pub exact : w ≡ n * (2 ^ j * 2 ^ j)
  pub least : 2 ^ 104 ≤ n
  pub most : n < 2 ^ 106
  pub near : Nearest n q
  pub least_root : 2 ^ 52 ≤ q
  pub most_root : q < 2 ^ 53
  pub range : j < 2046

-- the digits and the exponent of a pattern from 2 ^ 52 up
abbrev pub digits : ℕ → ℕ
digits r = 2 ^ 52 + r % 2 ^ 52

abbrev pub power : ℕ → ℕ
power r = r / 2 ^ 52 - 1

-- r is the pattern of the value nearest the root of w units of 2 ^ -2148
pub record PatternOf (w r : ℕ) : Type 0 where
  pub normal : 2 ^ 52 ≤ r
  pub rounded : Rounded w (digits r) (power r)

-- v is the value nearest the root of w units of 2 ^ -2148
pub record ValueOf (w : ℕ) (v : Float) : Type 0 where
  pub pattern : ℕ
  pub is : v ≡ from_bits binary64 pattern
  pub right : PatternOf w pattern

-- t doubled z times is m, of 53 digits
pub record Normal (t m z : ℕ) : Type 0 where
  pub is : m ≡ t * 2 ^ z
  pub least : 2 ^ 52 ≤ m
  pub most : m < 2 ^ 53
  pub few : z ≤ 52

-- the value with an exponent's field and digits, in units of 2 ^ -2148
abbrev pub weight_of : ℕ → ℕ → ℕ
weight_of zero t = t * 2 ^ 1074
weight_of (suc k) t = (2 ^ 52 + t) * 2 ^ (k + 1074)

abbrev pub weight : ℕ → ℕ
weight b = weight_of (b / 2 ^ 52) (b % 2 ^ 52)

-- the value with the pattern b is m * 2 ^ e such units, m having 53 digits
pub record UnitsOf (b m e : ℕ) : Type 0 where
  pub is : m * 2 ^ e ≡ weight b
  pub least : 2 ^ 52 ≤ m
  pub most : m < 2 ^ 53
  pub low : 52 ≤ e
  pub high : e < 4000
