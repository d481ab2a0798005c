-- What a line asks. 01, Line of the program `assign`: "Input `(assign 2 2 10 ((1 2) (- 4)))`: rows and columns (0 or more), row cost, table; `-` forbids and
-- stands only in the table; decimal −1,000,000 to 1,000,000, no leading zero, no `-0`."
use Rattle.std.specs.Prelude.{◌≡◌, Bool, true, false, cond, ◌&&◌, List, [], ◌∷◌, ℕ, ◌+◌, ◌-◌, ◌≤◌, eqb, ℤ, pos, negsuc, length, take, drop, set, Float, Option, Some, None}
use Rattle.std.specs.Float.{binary64, inf}
use Rattle.std.specs.Float.Ieee.{of_int}
use Rattle.forms.specs.Bytes.{bytes_of}
use Rattle.forms.specs.Shape.{past_word}
use Rattle.forms.specs.Decimal.{decimal_of}
use Rattle.request.specs.Listed.{Reader, bracketed, after, told}
use Rattle.request.specs.declared.words.Found.{Found}
use Rattle.request.specs.declared.head.Head.{Head}
use Rattle.request.specs.declared.table.Rows.{Rows}

-- ---- words
-- the word at the head
unfoldable pub word_of : List ℕ → List ℕ
word_of l = take (length l - length (past_word l)) l

-- `-`
unfoldable pub dash : List ℕ → Bool
dash [] = false
dash (b ∷ []) = eqb b 45
dash (b ∷ c ∷ l) = false

-- a value with what is left behind it
unfoldable pub leaving : {X : Type 0} → List ℕ → Option X → Option (X × List ℕ)
leaving r None = None
leaving r (Some x) = Some (x, r)

-- a whole number as a cost: binary64 holds it exactly
unfoldable pub cost_of : Option ℤ → Option Float
cost_of None = None
cost_of (Some z) = Some (of_int binary64 z)

-- "`-` forbids": a cost that is not finite
unfoldable pub cost_in : List ℕ → Option Float
cost_in w = cond (dash w) (Some (inf false)) (cost_of (decimal_of w))

-- an entry of the table
unfoldable pub entry_of : Reader Float
entry_of l = leaving (past_word l) (cost_in (word_of l))

-- a blank behind what was read
unfoldable pub blank : {X : Type 0} → Option (X × List ℕ) → Option (X × List ℕ)
blank None = None
blank (Some (x, [])) = None
blank (Some (x, c ∷ l)) = cond (eqb c 32) (Some (x, l)) None

-- a number and a blank
unfoldable pub argument_of : Reader ℤ
argument_of l = blank (leaving (past_word l) (decimal_of (word_of l)))

-- the same of a number that is not below zero
unfoldable pub counted : Option (ℤ × List ℕ) → Option (ℕ × List ℕ)
counted None = None
counted (Some (negsuc n, l)) = None
counted (Some (pos n, l)) = Some (n, l)

unfoldable pub count_of : Reader ℕ
count_of l = counted (argument_of l)

-- ---- the head: `(assign`, rows, columns, row cost, a blank after each
-- the bytes t, at the head
unfoldable pub begins : List ℕ → List ℕ → Bool
begins [] l = true
begins (b ∷ t) [] = false
begins (b ∷ t) (c ∷ l) = eqb c b && begins t l

unfoldable pub opening : List ℕ
opening = bytes_of "(assign "

pub record Sizes : Type 0 where
  pub rows : ℕ
  pub columns : ℕ
  pub cost : Float

unfoldable pub costed : ℕ → ℕ → Option (ℤ × List ℕ) → Option (Sizes × List ℕ)
costed r c None = None
costed r c (Some (k, l)) = Some (record { rows = r; columns = c; cost = of_int binary64 k }, l)

unfoldable pub columned : ℕ → Option (ℤ × List ℕ) → Option (Sizes × List ℕ)
columned r None = None
columned r (Some (negsuc c, l)) = None
columned r (Some (pos c, l)) = costed r c (argument_of l)

unfoldable pub rowed : Option (ℤ × List ℕ) → Option (Sizes × List ℕ)
rowed None = None
rowed (Some (negsuc r, l)) = None
rowed (Some (pos r, l)) = columned r (argument_of l)

unfoldable pub head_of : Reader Sizes
head_of l = cond (begins opening l) (rowed (argument_of (drop 8 l))) None

-- ---- the whole request
pub record Request : Type 0 where
  pub sizes : Sizes
  pub table : List (List Float)

-- `)`, the newline and no more
unfoldable pub closing : List ℕ → Bool
closing [] = false
closing (a ∷ []) = false
closing (a ∷ b ∷ []) = eqb a 41 && eqb b 10
closing (a ∷ b ∷ c ∷ l) = false

unfoldable pub closed : Sizes → Option (List (List Float) × List ℕ) → Option Request
closed h None = None
closed h (Some (t, l)) = cond (closing l) (Some (record { sizes = h; table = t })) None

-- rows of entries
unfoldable pub row_of : Reader (List Float)
row_of = bracketed entry_of

unfoldable pub table_of : Reader (List (List Float))
table_of = bracketed row_of

unfoldable pub tabled : Option (Sizes × List ℕ) → Option Request
tabled None = None
tabled (Some (h, l)) = closed h (table_of l)

unfoldable pub request_of : List ℕ → Option Request
request_of l = tabled (head_of l)

-- "unless the table has the stated rows, each of the stated columns"
unfoldable pub even : ℕ → List (List Float) → Bool
even w [] = true
even w (r ∷ t) = eqb (length r) w && even w t

abbrev pub shaped : Request → Bool
shaped q = eqb (length q.table) q.sizes.rows && even q.sizes.columns q.table

-- ---- as answers, with the place in s of what is left
abbrev pub found_of : {X : Type 0} → List ℕ → Option (X × List ℕ) → Option (Found X)
found_of s None = None
found_of s (Some (x, l)) = Some (record { value = x; end = length s - length l })

abbrev pub head_in : Sizes → Head
head_in h = record { rows = h.rows; columns = h.columns; cost = h.cost }

abbrev pub head_answer : List ℕ → Option (Sizes × List ℕ) → Option (Found Head)
head_answer s None = None
head_answer s (Some (h, l)) = Some (record { value = head_in h; end = length s - length l })

abbrev pub cost_answer : Option Float → Option Float
cost_answer None = None
cost_answer (Some x) = Some x

-- ---- costs stored while they are read: a place past the array's end takes none
pub record Stored : Type 0 where
  pub count : ℕ
  pub costs : List Float

-- one more, of those that stand from k on
abbrev pub store_one : ℕ → Stored → Float → Stored
store_one k a x = record { count = a.count + 1; costs = set a.costs (k + a.count) x }

abbrev pub row_answer : Option (Stored × ℕ) → Option (Found ℕ)
row_answer None = None
row_answer (Some (a, e)) = Some (record { value = a.count; end = e })

-- what a row's reader answers and leaves; an entry has at least one byte
pub record RowRead (read : Option (Stored × ℕ)) (at : ℕ) (r : Option (Found ℕ)) (o : List Float) : Type 0 where
  pub is : r ≡ row_answer read
  pub long : length o ≡ 4096
  pub short : (f : Found ℕ) → r ≡ Some f → at + f.value ≤ f.end
  pub holds : (a : Stored) (e : ℕ) → read ≡ Some (a, e) → o ≡ a.costs

abbrev pub row_told : ℕ → List Float → List ℕ → Option (List Float × List ℕ) → Option (Stored × ℕ)
row_told k o = told (store_one k) (record { count = 0; costs = o })

pub record Filled : Type 0 where
  pub rows : ℕ
  pub same : Bool
  pub next : ℕ
  pub costs : List Float

-- one row more, of w columns or not
abbrev pub fill_from : ℕ → Filled → Stored → Filled
fill_from w a p = record { rows = a.rows + 1; same = a.same && eqb p.count w; next = a.next + p.count; costs = p.costs }

abbrev pub fill_row : ℕ → Filled → List Float → Filled
fill_row w a row = fill_from w a (after (store_one a.next) (record { count = 0; costs = a.costs }) row)

abbrev pub rows_answer : Option (Filled × ℕ) → Option (Found Rows)
rows_answer None = None
rows_answer (Some (a, e)) = Some (record { value = record { count = a.rows; even = a.same }; end = e })

pub record TableRead (read : Option (Filled × ℕ)) (r : Option (Found Rows)) (o : List Float) : Type 0 where
  pub is : r ≡ rows_answer read
  pub long : length o ≡ 4096
  pub holds : (a : Filled) (e : ℕ) → read ≡ Some (a, e) → o ≡ a.costs

abbrev pub table_told : ℕ → List Float → List ℕ → Option (List (List Float) × List ℕ) → Option (Filled × ℕ)
table_told w o = told (fill_row w) (record { rows = 0; same = true; next = 0; costs = o })
