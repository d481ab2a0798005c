-- The pairing of a whole table, with what was given. Assumes nothing.
use mathlib.Core.Path.{◌≡◌, refl, sym, ap, ◌∙◌}
use mathlib.Core.List.{List, [], ◌∷◌, ◌++◌}
use Prim.Native.Nat.{ℕ, zero, suc, ◌*◌}
use native.Mathlib.Nat.{suc-mul, zero-mul}
use native.Mathlib.Omega.{arith}
use lib.Ieee.{Float}
use lib.ListN.{length, take, drop, length-drop, take-append-drop}
use Rattle.std.specs.Prelude.{Option}
use Rattle.number.specs.Reply.{Reply, refused}
use Rattle.kuhn_munkres.specs.Assignment.{rows_of, in_one, takers_reply}
use Rattle.matrix.specs.Matrix.{nought}
use Rattle.kuhn_munkres.proofs.Rows.{rows_count}
use Rattle.assignment.specs.declared.AssignmentError.{AssignmentError}
use Rattle.assignment.specs.Replies as assignment
use Rattle.types.specs.Refusals.{number_of, of_assignment}
use Rattle.types.proofs.Numbers.{number_of_assignment}
use Rattle.calls.specs.Pairing.{assigned}

-- a refusal of the assignment, in the tracker's terms
pub refused_with : (why : AssignmentError) (r : Reply (List (Option ℕ))) → refused (assignment.number_of why) ≡ r → refused (number_of (of_assignment why)) ≡ r
refused_with why r e = ap {B = Reply (List (Option ℕ))} refused (number_of_assignment why) ∙ e

-- a table cut into rows, and put together
in_one_rows : (n m : ℕ) (l : List Float) → length l ≡ n * m → in_one (rows_of n m l) ≡ l
unfolding in_one rows_of
in_one_rows zero m [] h = refl
in_one_rows zero m (x ∷ l) h = absurd (omega (arith, h, zero-mul m))
in_one_rows (suc n) m l h =
    ap (λ (r : List Float). take m l ++ r) (in_one_rows n m (drop m l) (length-drop m l ∙ omega (arith, h, suc-mul n m)))
    ∙ take-append-drop m l

pub whole_assigned : (n m : ℕ) (l : List Float) (gate : Float) → length l ≡ n * m → takers_reply l n m gate nought ≡ assigned gate (rows_of n m l) m
unfolding assigned
whole_assigned n m l gate h = sym (rw (in_one_rows n m l h, rows_count n m l))
