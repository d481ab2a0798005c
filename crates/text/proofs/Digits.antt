-- What is written for a number below 100 is its decimal: the reader of decimal words reads it back.
use Rattle.std.specs.Prelude.{Some}
use mathlib.Core.Path.{◌≡◌}
use mathlib.Core.Bool.{true, false}
use mathlib.Core.List.{[], ◌∷◌}
use Prim.Native.Nat.{ℕ, ◌+◌, ◌-◌, ◌*◌, ◌<◌, ◌/◌, ◌%◌}
use native.Mathlib.Omega.{arith}
use native.Mathlib.Decide.{dec_lt}
use borrow.Author.Tests.{lt-ltb, le-ltb, le-leb, ne_eqb}
use lib.Dec.{eqb}
use Rattle.forms.specs.Decimal.{digit, value_of, limited, natural_of}
use Rattle.text.specs.Text.{digits_of}

is_digit : (d : ℕ) → d < 10 → digit (48 + d) ≡ true
is_digit d h = rw (le-leb 48 (48 + d) (omega arith), le-leb (48 + d) 57 (omega arith))

one_digit : (n : ℕ) → n < 10 → natural_of ((48 + n) ∷ []) ≡ Some n
unfolding natural_of limited value_of
one_digit n h = let e : 0 * 10 + (48 + n - 48) ≡ n = omega arith in rw (is_digit n h, e, le-leb n 1000000 (omega arith))

two_digits : (t u n : ℕ) → t < 10 → u < 10 → 0 < t → n ≡ t * 10 + u → natural_of ((48 + t) ∷ (48 + u) ∷ []) ≡ Some n
unfolding natural_of limited value_of
two_digits t u n h g k e =
    let a : eqb (48 + t) 48 ≡ false = ne_eqb (48 + t) 48 (λ (q : 48 + t ≡ 48). omega arith) in
    let v : (0 * 10 + (48 + t - 48)) * 10 + (48 + u - 48) ≡ n = omega arith in
    rw (a, is_digit t h, is_digit u g, v, le-leb n 1000000 (omega arith))

pub digits_read : (n : ℕ) → n < 100 → natural_of (digits_of n) ≡ Some n
unfolding digits_of
digits_read n h = go (dec_lt n 10)
  where
    go : Dec (n < 10) → natural_of (digits_of n) ≡ Some n
    go (yes k) = rw (lt-ltb n 10 k) (one_digit n k)
    go (no k) = rw (le-ltb n 10 (omega arith)) (two_digits (n / 10 % 10) (n % 10) n (omega arith) (omega arith) (omega arith) (omega arith))
