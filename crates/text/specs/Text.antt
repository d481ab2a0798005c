-- What is written, as bytes. 01, Line of the program `assign`: "Whole output: `(answer (pairs (0 0) (1 1)) (rows) (columns))`: pairs as row and column, then those
-- unmatched, from 0. A refusal prints `(refused 13)`, with its own number. Either output ends with a newline."
use Rattle.std.specs.Prelude.{◌≡◌, cond, List, [], ◌∷◌, ◌++◌, ℕ, ◌+◌, ◌/◌, ◌%◌, ◌≤◌, ltb, length, take}
use Rattle.forms.specs.Bytes.{bytes_of}
use Rattle.number.specs.Reply.{Reply, refused, given}
use Rattle.lists.specs.Lay.{lay}
use Rattle.kuhn_munkres.specs.Assignment.{Pair, Pairs}
use Rattle.text.specs.declared.bytes.Text.{Text}

-- a number below 100, as every row, column and refusal is (laws: proofs/Digits here, proofs/Named in `line`)
unfoldable pub digits_of : ℕ → List ℕ
digits_of n = cond (ltb n 10) ((48 + n) ∷ []) ((48 + n / 10 % 10) ∷ (48 + n % 10) ∷ [])

-- a blank and a number
unfoldable pub item_text : ℕ → List ℕ
item_text n = bytes_of " " ++ digits_of n

unfoldable pub list_text : List ℕ → List ℕ
list_text [] = []
list_text (n ∷ l) = item_text n ++ list_text l

-- a blank, and row and column in brackets
unfoldable pub pair_text : Pair → List ℕ
pair_text p = bytes_of " (" ++ digits_of p.row ++ item_text p.column ++ bytes_of ")"

unfoldable pub pairs_text : List Pair → List ℕ
pairs_text [] = []
pairs_text (p ∷ l) = pair_text p ++ pairs_text l

-- those unmatched, and the end
unfoldable pub unmatched_text : List ℕ → List ℕ → List ℕ
unmatched_text rows columns =
    bytes_of ") (rows" ++ list_text rows
    ++ bytes_of ") (columns" ++ list_text columns
    ++ bytes_of "))\n"

-- the pairs and those unmatched
unfoldable pub answer_text : Pairs → List ℕ
answer_text a =
    bytes_of "(answer (pairs" ++ pairs_text a.pairs ++ unmatched_text a.rows a.columns

unfoldable pub refused_text : ℕ → List ℕ
refused_text n = bytes_of "(refused " ++ digits_of n ++ bytes_of ")\n"

unfoldable pub text_of : Reply Pairs → List ℕ
text_of (refused n) = refused_text n
text_of (given a) = answer_text a

-- t where there is room for n bytes: no answer has more than 1,024, and less room gets nothing
unfoldable pub roomed : ℕ → List ℕ → List ℕ
roomed n t = cond (ltb n 1024) [] t

-- a buffer that held o holds t and what is left of o, and r is t's length
pub record Wrote (t o : List ℕ) (r : ℕ) (o' : List ℕ) : Type 0 where
  pub place : r ≡ length t
  pub holds : o' ≡ lay t o

abbrev pub written : Text → List ℕ
written t = take t.len t.bytes

-- u put behind the bytes of a text
pub record Puts (u : List ℕ) (t t' : Text) : Type 0 where
  pub place : t'.len ≡ t.len + length u
  pub long : length t'.bytes ≡ length t.bytes
  pub holds : written t' ≡ written t ++ u

-- a text that holds u
pub record Written (u : List ℕ) (t : Text) : Type 0 where
  pub long : length t.bytes ≡ 1024
  pub room : t.len ≤ 1024
  pub holds : written t ≡ u
