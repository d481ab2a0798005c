-- The whole line, from bytes to bytes.
use Rattle.std.specs.Prelude.{Bool, false, cond, ◌&&◌, List, [], ◌∷◌, ℕ, eqb, ltb, leb, length, None, Option, Some}
use Rattle.std.specs.Float.{binary64}
use Rattle.std.specs.Float.Ieee.{of_bits}
use Rattle.number.specs.Reply.{Reply, refused, refuse_unless}
use Rattle.kuhn_munkres.specs.Assignment.{Pairs, in_one, assignment_reply}
use Rattle.forms.specs.Shape.{form_of}
use Rattle.request.specs.Request.{Request, request_of, shaped}
use Rattle.text.specs.Text.{text_of}

-- a form, a newline and no more
unfoldable pub whole : Option (List ℕ) → Bool
whole None = false
whole (Some []) = false
whole (Some (b ∷ [])) = eqb b 10
whole (Some (b ∷ c ∷ l)) = false

-- 01: "13 for another shape, .. over 16,384 bytes with the newline, no newline, or bytes after it"; "A form is .. at most 4 deep"
unfoldable pub formed : List ℕ → Bool
formed l = cond (ltb 16384 (length l)) false (whole (form_of 4 l))

-- 01: "13 for another shape, a number out of range ..; then 11; then 10 unless the table has the stated rows, each of the stated columns." "Column cost is 0."
unfoldable pub decided : Option Request → Reply Pairs
decided None = refused 13
decided (Some q) =
    refuse_unless (leb q.sizes.rows 64 && leb q.sizes.columns 64) 11
    (refuse_unless (shaped q) 10
    (assignment_reply (in_one q.table) q.sizes.rows q.sizes.columns q.sizes.cost (of_bits binary64 0)))

unfoldable pub reply_to : List ℕ → Reply Pairs
reply_to l = refuse_unless (formed l) 13 (decided (request_of l))

-- what the program writes for the bytes it reads
unfoldable pub answer_of : List ℕ → List ℕ
answer_of l = text_of (reply_to l)
