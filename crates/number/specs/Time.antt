-- Times and durations in nanoseconds, over the integers.
use Rattle.std.specs.Prelude.{◌^◌, Bool, false, cond, ℤ, pos, negsuc, ◌-ℤ◌, ◌==◌, from_bits, nat_lt, Float, Option}
use Rattle.std.specs.Int.Signed.{mag}
use Rattle.std.specs.Float.{binary64}
use Rattle.std.specs.Float.Ieee.{div, of_int}
use Rattle.number.specs.Reply.{Reply, refused, given, reply_or}

-- 01, Number and root: "Nanoseconds become seconds by one rounding to binary64 and one division by 1,000,000,000."
abbrev pub seconds_of : ℤ → Float
seconds_of n = div binary64 (of_int binary64 n) (from_bits binary64 0x41cd_cd65_0000_0000)

-- 01, Predict: "8 time difference overflows". An i64 holds z where `mag z`, which is n for n and for -(n + 1), is below 2⁶³.
unfoldable pub duration_reply : ℤ → ℤ → Reply ℤ
duration_reply now earlier = cond (nat_lt (mag (now -ℤ earlier)) (2 ^ 63)) (given (now -ℤ earlier)) (refused 8)

abbrev pub reply_of_duration : Option ℤ → Reply ℤ
reply_of_duration d = reply_or 8 d

-- 01, Lifecycle: "Age is now minus last observation (or creation); a negative or overflowing age counts as 0."
abbrev pub counted : Reply ℤ → ℤ
counted (given (pos n)) = pos n
counted (given (negsuc n)) = pos 0
counted (refused n) = pos 0

unfoldable pub age_of : ℤ → ℤ → ℤ
age_of now since = counted (duration_reply now since)

-- whether two times are the same
abbrev pub same_time : ℤ → ℤ → Bool
same_time (pos a) (pos b) = a == b
same_time (negsuc a) (negsuc b) = a == b
same_time (pos a) (negsuc b) = false
same_time (negsuc a) (pos b) = false
