-- When a field is bad, and the first bad one of a list. 01, Settings: "1 with the first bad field; bad is what the Rust's `validate` refuses there."
use Rattle.std.specs.Prelude.{ℕ, Bool, not, cond, ◌&&◌, ◌||◌, List, [], ◌∷◌, ltb, ℤ, pos, Float}
use Rattle.settings.specs.declared.bad_field.BadField.{BadField}
use Rattle.settings.specs.declared.bad_field.BadField.TheVariants.{TentativeTimeout, ConfirmedToLost, LostToDelete, ContributingSensors, ScoreThreshold, AccelerationDensity, VelocityVariance, Gate, ClassPenalty, BirthDistance, BirthPersistence, CandidateRadius, CandidateTimeout, VelocityDeviation, RecentWindow, FrameNameTooLong, TooManyContributingSensors}
use Rattle.std.specs.Int.Signed.{le_z}
use Rattle.std.specs.Float.{binary64}
use Rattle.std.specs.Float.Ieee.{lt, le, of_bits}
use Rattle.std.specs.Float.Ieee.Scale.{finite}

-- ---- the Rust's tests

-- `!x.is_finite() || x < 0.0`: -0 is taken
abbrev pub negative_number : Float → Bool
negative_number x = not (finite x) || lt x (of_bits binary64 0)

-- `!x.is_finite() || x <= 0.0`
abbrev pub not_positive_number : Float → Bool
not_positive_number x = not (finite x) || le x (of_bits binary64 0)

-- `!(0.0..=1.0).contains(&x)`: a NaN is outside, -0 is not
abbrev pub outside_unit : Float → Bool
outside_unit x = not (le (of_bits binary64 0) x && le x (of_bits binary64 0x3ff0_0000_0000_0000))

-- `t <= 0`
abbrev pub not_positive_time : ℤ → Bool
not_positive_time t = le_z t (pos 0)

-- `n < 2`
abbrev pub below_two : ℕ → Bool
below_two n = ltb n 2

-- ---- the first bad field

-- 01, Settings: "Rust's order is 1 tentative timeout, 2 confirmed-to-lost, 3 lost-to-delete, 4 contributing sensors, 5 score threshold,
-- 6 acceleration density, 7 velocity variance, 8 gate, 9 class penalty, 10 birth distance, 11 persistence, 12 radius, 13 candidate timeout,
-- 14 velocity deviation, 15 recent window; added after them, 16 frame name too long, 17 more than 16 contributing sensors."
abbrev pub number_of_field : BadField → ℕ
number_of_field TentativeTimeout = 1
number_of_field ConfirmedToLost = 2
number_of_field LostToDelete = 3
number_of_field ContributingSensors = 4
number_of_field ScoreThreshold = 5
number_of_field AccelerationDensity = 6
number_of_field VelocityVariance = 7
number_of_field Gate = 8
number_of_field ClassPenalty = 9
number_of_field BirthDistance = 10
number_of_field BirthPersistence = 11
number_of_field CandidateRadius = 12
number_of_field CandidateTimeout = 13
number_of_field VelocityDeviation = 14
number_of_field RecentWindow = 15
number_of_field FrameNameTooLong = 16
number_of_field TooManyContributingSensors = 17

-- a field's number in 01, and whether it is bad
pub record Field : Type 0 where
  pub number : ℕ
  pub bad : Bool

abbrev pub field : ℕ → Bool → Field
field n b = record { number = n; bad = b }

-- what is answered: the refusal's number and the field's, or that all may be used
pub data SettingsReply : Type 0 where
  accepted : SettingsReply
  refused : ℕ → ℕ → SettingsReply

-- "1 with the first bad field"
unfoldable pub first_bad : List Field → SettingsReply
first_bad [] = accepted
first_bad (f ∷ fs) = cond f.bad (refused 1 f.number) (first_bad fs)
