-- One column of the Cholesky factor, whatever the size and the column. Assumes nothing.
use mathlib.Core.Path.{◌≡◌, sym, ap, ◌∙◌}
use mathlib.Core.Bool.{true, false}
use mathlib.Core.List.{[], ◌∷◌, ◌++◌}
use Prim.Native.Nat.{ℕ, suc, ◌+◌}
use lib.Ieee.{Float, lt}
use Rattle.number.specs.Reply.{Reply, refused, given}
use Rattle.square_root.specs.Root.{root_reply}
use Rattle.square_root.proofs.Cases.{above_given}
use Rattle.matrix.specs.Matrix.{Matrix, nought}
use Rattle.cholesky.specs.Cholesky.{remainder, column_by, pivot_root, root_in, columns_from}

-- ---- the root of a pivot

pub pivot_given : (p : Float) {d : Float} → lt nought p ≡ true → given d ≡ root_reply p → given d ≡ pivot_root p
unfolding pivot_root
pivot_given p t e = rw (t, ← e)

pub pivot_refused : (p : Float) {m : ℕ} → lt nought p ≡ true → refused m ≡ root_reply p → refused 7 ≡ pivot_root p
unfolding pivot_root
pivot_refused p t e = rw (t, ← e)

pub pivot_low : (p : Float) → lt nought p ≡ false → refused 7 ≡ pivot_root p
unfolding pivot_root
pivot_low p t = rw t

-- the root alone says it all of a pivot greater than 0
pub pivot_found : (p : Float) {d : Float} → lt nought p ≡ true → d ≡ root_in (pivot_root p) → given d ≡ pivot_root p
pivot_found p t e =
    let g = pivot_given p t (above_given p t).is in
    ap given (e ∙ sym (ap root_in g)) ∙ g

-- ---- a column, and what follows it

module _ (left n : ℕ) (a : Matrix) (j : ℕ) (columns : Matrix) where
  pub column_given : {d : Float} {r : Reply Matrix} → given d ≡ pivot_root (remainder a columns j j) → r ≡ columns_from left n a (j + 1) (columns ++ (column_by n a columns j d ∷ [])) → r ≡ columns_from (suc left) n a j columns
  unfolding columns_from
  column_given e f = rw (← e) f

  pub column_refused : {m : ℕ} → refused m ≡ pivot_root (remainder a columns j j) → refused m ≡ columns_from (suc left) n a j columns
  unfolding columns_from
  column_refused e = rw (← e)
