-- The shape of a line: what stands behind a form at the head of the bytes, or nothing where none stands there.
-- 01, Line of the program `assign`: "A form is a word or brackets round forms, at most 4 deep, single blanks between forms; brackets may be empty.
-- A word is one or more bytes other than blank, newline and brackets."
use Rattle.std.specs.Prelude.{Bool, cond, not, ◌&&◌, List, [], ◌∷◌, ℕ, zero, suc, ◌+◌, ◌-◌, eqb, length, drop, Option, Some, None}
use Rattle.number.specs.Reply.{Reply, refused, given, reply_or}

-- neither blank, newline nor bracket
abbrev pub word_byte : ℕ → Bool
word_byte b = not (eqb b 32) && (not (eqb b 10) && (not (eqb b 40) && not (eqb b 41)))

-- what stands behind the word's bytes at the head
unfoldable pub past_word : List ℕ → List ℕ
past_word [] = []
past_word (b ∷ l) = cond (word_byte b) (past_word l) (b ∷ l)

-- the place in s behind the word's bytes that stand from `from` on: as many further as bytes were passed, so a place at the end or past it stays
abbrev pub word_end : List ℕ → ℕ → ℕ
word_end s from = from + (length (drop from s) - length (past_word (drop from s)))

-- what follows a form inside brackets: the closing bracket, or a blank and the forms that `more` reads
unfoldable pub behind : (List ℕ → Option (List ℕ)) → Option (List ℕ) → Option (List ℕ)
behind more None = None
behind more (Some []) = None
behind more (Some (c ∷ l)) = cond (eqb c 41) (Some l) (cond (eqb c 32) (more l) None)

-- one form or more that `one` reads, single blanks between them, and the closing bracket. k bounds their number
unfoldable pub forms_of : (List ℕ → Option (List ℕ)) → ℕ → List ℕ → Option (List ℕ)
forms_of one zero l = None
forms_of one (suc k) l = behind (forms_of one k) (one l)

-- a word, or brackets that are empty or have forms that `one` reads
unfoldable pub word : List ℕ → Option (List ℕ)
word [] = None
word (b ∷ l) = cond (word_byte b) (Some (past_word l)) None

unfoldable pub inside : (List ℕ → Option (List ℕ)) → List ℕ → Option (List ℕ)
inside one [] = None
inside one (c ∷ l) = cond (eqb c 41) (Some l) (forms_of one (suc (length l)) (c ∷ l))

unfoldable pub bracketed : (List ℕ → Option (List ℕ)) → List ℕ → Option (List ℕ)
bracketed one [] = None
bracketed one (b ∷ l) = cond (eqb b 40) (inside one l) (word (b ∷ l))

-- a form of at most `depth` brackets deep
unfoldable pub form_of : ℕ → List ℕ → Option (List ℕ)
form_of zero l = word l
form_of (suc d) l = bracketed (form_of d) l

-- the forms up to the closing bracket
abbrev pub list_of : ℕ → List ℕ → Option (List ℕ)
list_of d l = forms_of (form_of d) (length l) l

-- as a reply: the place in s of what is left, and 13 where no form stands. 01, Line of the program `assign`: "13 for another shape"
abbrev pub place_reply : List ℕ → Option (List ℕ) → Reply ℕ
place_reply s None = refused 13
place_reply s (Some l) = given (length s - length l)

abbrev pub reply_of_read : Option ℕ → Reply ℕ
reply_of_read o = reply_or 13 o
