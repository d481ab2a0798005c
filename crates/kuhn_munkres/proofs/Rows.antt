-- Laws of the rows of a table that is lent as one list: how many, each row by its place, and back to one list. Assumes nothing.
use mathlib.Core.Path.{◌≡◌, refl, ap, ◌∙◌}
use mathlib.Core.List.{List, [], ◌∷◌, ◌++◌}
use Prim.Native.Nat.{ℕ, zero, suc, ◌+◌, ◌*◌, ◌≤◌, ◌<◌}
use native.Mathlib.Nat.{suc-mul, zero-mul}
use native.Mathlib.Omega.{arith}
use lib.ListN.{length, take, drop, get_or, length-append, length-drop}
use lib.Seq.{take-append_seam, drop-append_seam, length-take-le, drop-drop}
use Rattle.lists.specs.Masks.{Every}
use Rattle.kuhn_munkres.specs.Assignment.{rows_of, in_one}

-- ---- the rows of a list

pub rows_count : {F : Type 0} (n w : ℕ) (l : List F) → length (rows_of n w l) ≡ n
unfolding rows_of
rows_count zero w l = refl
rows_count (suc n) w l = ap suc (rows_count n w (drop w l))

pub rows_at : {F : Type 0} (n w : ℕ) (l : List F) (i : ℕ) → i < n → get_or (rows_of n w l) i [] ≡ take w (drop (i * w) l)
unfolding rows_of
rows_at zero w l i h = absurd (omega arith)
rows_at (suc n) w l zero h = rw (zero-mul w)
rows_at (suc n) w l (suc i) h =
    let m : w + i * w ≡ suc i * w = omega (arith, suc-mul i w) in
    rows_at n w (drop w l) i (omega arith) ∙ ap (take w) (drop-drop (i * w) w l ∙ ap (λ (k : ℕ). drop k l) m)

pub row_long : {F : Type 0} (n w : ℕ) (l : List F) → suc n * w ≤ length l → length (take w (drop (n * w) l)) ≡ w
row_long n w l h = length-take-le w (drop (n * w) l) (rw (length-drop (n * w) l) (omega (arith, suc-mul n w)))

-- one row more
pub rows_snoc : {F : Type 0} (n w : ℕ) (l : List F) → rows_of (suc n) w l ≡ rows_of n w l ++ (take w (drop (n * w) l) ∷ [])
unfolding rows_of
rows_snoc zero w l = rw (zero-mul w)
rows_snoc (suc n) w l =
    let m : w + n * w ≡ suc n * w = omega (arith, suc-mul n w) in
    let e : drop (n * w) (drop w l) ≡ drop (suc n * w) l = drop-drop (n * w) w l ∙ ap (λ (k : ℕ). drop k l) m in
    ap (λ (q : List (List _)). take w l ∷ q) (rows_snoc n w (drop w l)) ∙ rw e

-- ---- a table in one list, and its rows again

-- every row has m costs
abbrev pub Wide : {F : Type 0} → ℕ → List (List F) → Type 0
Wide m rows = Every (λ r. length r ≡ m) rows

pub one_length : {F : Type 0} (m : ℕ) (rows : List (List F)) → Wide m rows → length (in_one rows) ≡ length rows * m
unfolding in_one Every
one_length m [] h = omega arith
one_length m (r ∷ rows) h = length-append r (in_one rows) ∙ omega (arith, h.0, one_length m rows h.1)

pub one_rows : {F : Type 0} (m : ℕ) (rows : List (List F)) → Wide m rows → rows_of (length rows) m (in_one rows) ≡ rows
unfolding rows_of in_one Every
one_rows m [] h = refl
one_rows m (r ∷ rows) h =
    let front : take m (r ++ in_one rows) ≡ r = rw (← h.0) (take-append_seam r (in_one rows)) in
    let back : drop m (r ++ in_one rows) ≡ in_one rows = rw (← h.0) (drop-append_seam r (in_one rows)) in
    rw (front, back, one_rows m rows h.1)
