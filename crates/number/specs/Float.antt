-- Choices on binary64 numbers, as IEEE 754 has the values. Whether a number is finite is `lib.Ieee.Scale.finite`.
use Rattle.std.specs.Prelude.{false, cond, from_bits}
use lib.Ieee.{Float, nan, inf, fin, binary64, lt}

-- 01, Matrix: "the largest |m|". The sign goes, a zero's too; a NaN stays one.
abbrev pub absolute_of : Float → Float
absolute_of nan = nan
absolute_of (inf s) = inf false
absolute_of (fin s m e) = fin false m e

-- the larger of two; the first on a tie, and where the second is a NaN
abbrev pub larger_of : Float → Float → Float
larger_of a b = cond (lt a b) b a

-- 01, Prior: "Confidence is clamped to 0..1", as the Rust does it: -0 is not below 0 and stays, and so does a NaN.
abbrev pub clamp_of : Float → Float
clamp_of x = cond (lt x (from_bits binary64 0)) (from_bits binary64 0) (cond (lt (from_bits binary64 0x3ff0_0000_0000_0000) x) (from_bits binary64 0x3ff0_0000_0000_0000) x)
