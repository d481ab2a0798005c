-- Tables of 01 and of the ties, worked out by the definition itself.
use mathlib.Core.Path.{◌≡◌, refl}
use mathlib.Core.List.{List, [], ◌∷◌}
use mathlib.Core.Bool.{true, false}
use Prim.Native.Nat.{ℕ}
use lib.IntN.{pos}
use lib.Ieee.{Float, nan, inf, of_int, of_bits, of_fields, binary64, round, add, sub, mul, lt, size, units, odd, span, climb, sum, neg}
use lib.Count.{count_trailing_zeros}
use Rattle.number.specs.Reply.{Reply, refused, given}
use Rattle.kuhn_munkres.specs.Steps.{relax, scan, shift_at, shift, mark, look, go_on, step, search, back, start, settle, fresh, enter, leave, rows}
use Rattle.kuhn_munkres.specs.Square.{entry}
use Rattle.lists.specs.First.{any}
use Rattle.lists.specs.Masks.{left_by, spread, up_from, zipped}
use Rattle.kuhn_munkres.specs.Groups.{relabel, relabelled, hit, hits, joined_to, join, joins, labels, is_label}
use Rattle.kuhn_munkres.specs.Assignment.{Pairs, Pair, rows_of, in_one, largest, largest_of, sentinel_of, taker_of, takers_in, solved, named, group_in, groups, pairing, takers_reply, column_of, pair_at, free_at, pairs_from, free_rows, free_columns, pairs_of, assignment_reply}

abbrev pub f : ℕ → Float
f n = of_int binary64 (pos n)

abbrev pub max : Float
max = of_bits binary64 0x7fef_ffff_ffff_ffff

abbrev pub given_as : List Pair → List ℕ → List ℕ → Reply Pairs
given_as p r c = given (record { pairs = p; rows = r; columns = c })

abbrev pub at : ℕ → ℕ → Pair
at i j = record { row = i; column = j }

-- 01's line; no row and three columns; all forbidden; a cost equal to the row cost, and one above it; ties as the Rust breaks them;
-- then 11 before 9 before 10, and a step that is not finite.
abbrev pub asked : List (Reply Pairs)
asked =
    assignment_reply (f 1 ∷ f 2 ∷ nan ∷ f 4 ∷ []) 2 2 (f 10) (f 0)
    ∷ assignment_reply [] 0 3 (f 10) (f 0)
    ∷ assignment_reply (nan ∷ inf true ∷ inf false ∷ nan ∷ []) 2 2 (f 10) (f 0)
    ∷ assignment_reply (f 10 ∷ []) 1 1 (f 10) (f 0)
    ∷ assignment_reply (f 11 ∷ []) 1 1 (f 10) (f 0)
    ∷ assignment_reply (f 1 ∷ f 1 ∷ []) 1 2 (f 10) (f 0)
    ∷ assignment_reply (f 1 ∷ f 1 ∷ []) 2 1 (f 10) (f 0)
    ∷ assignment_reply (f 1 ∷ f 1 ∷ f 1 ∷ f 1 ∷ []) 2 2 (f 10) (f 0)
    ∷ assignment_reply (f 10 ∷ f 10 ∷ []) 2 1 (f 10) (f 0)
    ∷ assignment_reply [] 65 0 nan (f 0)
    ∷ assignment_reply [] 1 1 (f 0) (inf true)
    ∷ assignment_reply [] 1 1 (f 0) (f 0)
    ∷ assignment_reply (neg max ∷ neg max ∷ []) 2 1 max (f 0)
    ∷ []

pub answered : asked ≡ (
    given_as (at 0 0 ∷ at 1 1 ∷ []) [] []
    ∷ given_as [] [] (0 ∷ 1 ∷ 2 ∷ [])
    ∷ given_as [] (0 ∷ 1 ∷ []) (0 ∷ 1 ∷ [])
    ∷ given_as (at 0 0 ∷ []) [] []
    ∷ given_as [] (0 ∷ []) (0 ∷ [])
    ∷ given_as (at 0 1 ∷ []) [] (0 ∷ [])
    ∷ given_as (at 1 0 ∷ []) (0 ∷ []) []
    ∷ given_as (at 0 0 ∷ at 1 1 ∷ []) [] []
    ∷ given_as (at 1 0 ∷ []) (0 ∷ []) []
    ∷ refused 11
    ∷ refused 9
    ∷ refused 10
    ∷ refused 10
    ∷ [])
unfolding assignment_reply takers_reply pairing groups group_in solved takers_in taker_of named rows_of in_one largest largest_of sentinel_of column_of pair_at free_at pairs_from free_rows free_columns pairs_of relabel relabelled hit hits joined_to join joins labels is_label left_by spread any up_from zipped entry relax scan shift_at shift mark look go_on step search back start settle fresh enter leave rows of_int of_bits of_fields round add sub mul lt size units odd span climb count_trailing_zeros sum neg
answered = refl
