-- What a call answers, in 01's terms: the number of the refusal, or the value. Every answer that is an enum is stated through it.
use Rattle.std.specs.Prelude.{ℕ, Bool, true, false, Option, Some, None, Result, Ok, Err}

pub data Reply (A : Type 0) : Type 0 where
  refused : ℕ → Reply A
  given : A → Reply A

-- ---- what code answers, as a reply

-- a `Result`, whose errors have these numbers
abbrev pub reply_by : {A E : Type 0} → (E → ℕ) → Result A E → Reply A
reply_by number (Ok a) = given a
reply_by number (Err e) = refused (number e)

-- an `Option`, of which 01 has one number where there is no value
abbrev pub reply_or : {A : Type 0} → ℕ → Option A → Reply A
reply_or n (Some a) = given a
reply_or n None = refused n

-- ---- replies that are made step by step: the first refusal is the answer

-- r where the test holds, else the refusal of that number
abbrev pub refuse_unless : {A : Type 0} → Bool → ℕ → Reply A → Reply A
refuse_unless true n r = r
refuse_unless false n r = refused n

-- what f makes of the value, where there is one
abbrev pub and_then : {A B : Type 0} → Reply A → (A → Reply B) → Reply B
and_then (refused n) f = refused n
and_then (given a) f = f a

-- ---- a reply as its caller sees it

-- 0, or 01's number of the refusal
abbrev pub code_of : {A : Type 0} → Reply A → ℕ
code_of (refused n) = n
code_of (given v) = 0

-- 01, What each call declines: "A refusal answers its number and changes nothing lent or held."
abbrev pub left_in : {A : Type 0} → Reply A → A → A
left_in (refused n) before = before
left_in (given v) before = v
