-- Decimal numbers, as a word's bytes. 01, Line of the program `assign`: "decimal −1,000,000 to 1,000,000, no leading zero, no `-0`".
use Rattle.std.specs.Prelude.{Bool, true, false, cond, ◌&&◌, List, [], ◌∷◌, ℕ, zero, suc, ◌+◌, ◌-◌, ◌*◌, eqb, leb, ℤ, pos, negsuc, Option, Some, None}
use Rattle.number.specs.Reply.{Reply, refused, given, reply_or}

abbrev pub digit : ℕ → Bool
digit b = leb 48 b && leb b 57

-- the value of digits that follow digits of the value v
unfoldable pub value_of : ℕ → List ℕ → Option ℕ
value_of v [] = Some v
value_of v (b ∷ l) = cond (digit b) (value_of (v * 10 + (b - 48)) l) None

-- in the range
unfoldable pub limited : Option ℕ → Option ℕ
limited None = None
limited (Some v) = cond (leb v 1000000) (Some v) None

-- one digit or more, no leading zero
unfoldable pub natural_of : List ℕ → Option ℕ
natural_of [] = None
natural_of (b ∷ []) = limited (value_of 0 (b ∷ []))
natural_of (b ∷ c ∷ l) = cond (eqb b 48) None (limited (value_of 0 (b ∷ c ∷ l)))

-- no `-0`
unfoldable pub minus : Option ℕ → Option ℤ
minus None = None
minus (Some zero) = None
minus (Some (suc n)) = Some (negsuc n)

unfoldable pub plus : Option ℕ → Option ℤ
plus None = None
plus (Some n) = Some (pos n)

unfoldable pub decimal_of : List ℕ → Option ℤ
decimal_of [] = None
decimal_of (b ∷ l) = cond (eqb b 45) (minus (natural_of l)) (plus (natural_of (b ∷ l)))

-- ---- as replies. 01: "13 for .. a number out of range"
abbrev pub natural_reply : Option ℕ → Reply ℕ
natural_reply o = reply_or 13 o

abbrev pub reply_of_natural : Option ℕ → Reply ℕ
reply_of_natural o = reply_or 13 o

-- whether it is below zero, and its size
abbrev pub signed_reply : ℤ → Reply (Bool × ℕ)
signed_reply (pos n) = given (false, n)
signed_reply (negsuc n) = given (true, suc n)

abbrev pub decimal_reply : Option ℤ → Reply (Bool × ℕ)
decimal_reply None = refused 13
decimal_reply (Some z) = signed_reply z

abbrev pub reply_of_decimal : Option ℤ → Reply (Bool × ℕ)
reply_of_decimal (Some z) = signed_reply z
reply_of_decimal None = refused 13
