-- A group of one row and one column: what the comparison tells is what the steps give. Assumes nothing.
use mathlib.Core.Path.{◌≡◌, refl, sym, ap, ◌∙◌}
use mathlib.Core.Bool.{true}
use mathlib.Core.List.{List, [], ◌∷◌}
use Prim.Native.Nat.{ℕ, zero, suc, ◌+◌, ◌*◌, ◌<◌}
use native.Mathlib.Nat.{mul-pos}
use native.Mathlib.Omega.{arith}
use lib.Dec.{T}
use lib.ListN.{get_or, take}
use lib.Ieee.{Float, nan, binary64, lt, fits}
use Rattle.number.specs.Reply.{given}
use Rattle.kuhn_munkres.specs.Binary64.{float}
use Rattle.kuhn_munkres.specs.Square.{entry}
use Rattle.kuhn_munkres.specs.Steps.{rows}
use Rattle.kuhn_munkres.specs.Single.{is_single, single_rows}
use Rattle.kuhn_munkres.proofs.Single.{single_sizes, single_run}
use Rattle.hungarian.specs.Ends.{end_reply}
use Rattle.hungarian.specs.Structs.{square_from}
use Rattle.hungarian.specs.declared.Shape.{Shape}

first_of_lem : (l : List Float) (k : ℕ) → 0 < k → get_or (take k l) 0 nan ≡ get_or l 0 nan
first_of_lem l zero h = absurd (omega (arith, h))
first_of_lem [] (suc k) h = refl
first_of_lem (x ∷ l) (suc k) h = refl

-- the steps on one row and one column, told by the comparison
pub single_is : (own : List Float) (q : Shape) → (let c = get_or own 0 nan in is_single c q.rows q.cols q.row q.col ≡ true → T (fits binary64 c) → T (fits binary64 q.row) → T (fits binary64 q.col)
    → given (single_rows (lt q.row c)) ≡ end_reply (rows float (entry float (square_from (take (q.rows * q.cols) own) q)) (q.rows + q.cols) (q.rows + q.cols)))
unfolding end_reply
single_is own q h fc fr fl =
    let sizes = single_sizes (get_or own 0 nan) q.rows q.cols q.row q.col h in
    let some : 0 < q.rows * q.cols = mul-pos (omega (arith, sizes.0)) (omega (arith, sizes.1)) in
    let x = single_run (take (q.rows * q.cols) own) q.rows q.cols q.far q.row q.col (get_or own 0 nan) (first_of_lem own (q.rows * q.cols) some) fc fr fl h in
    ap given (sym x.2) ∙ ap end_reply (sym x.1)
