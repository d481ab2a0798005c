-- The window's flags laid in front, and the pairing with them. Assumes nothing.
use Rattle.std.specs.Prelude.{Err, None, Ok, Option, Result, Some}
use mathlib.Core.Path.{◌≡◌, sym, ap, ◌∙◌, subst}
use mathlib.Core.Bool.{Bool}
use mathlib.Core.List.{List, ◌++◌}
use Prim.Native.Nat.{ℕ, ◌+◌, ◌≤◌}
use native.Mathlib.Omega.{arith}
use lib.IntN.{ℤ}
use lib.Ieee.{Float}
use lib.ListN.{length, take, drop}
use lib.Seq.{sets-eq, take_at}
use Rattle.number.specs.Reply.{Reply, refused, given, and_then}
use Rattle.kuhn_munkres.specs.Assignment.{rows_of}
use Rattle.lists.specs.Each.{each}
use Rattle.lists.proofs.Each.{each_long}
use Rattle.assignment.specs.Taking.{takers_of}
use Rattle.types.specs.declared.refusal.Refusal.{Refusal}
use Rattle.types.specs.Refusals.{number_of, reply_of}
use Rattle.calls.specs.Pairing.{assigned, cascaded}
use Rattle.pairing.specs.declared.Row.{Row}
use Rattle.pairing.specs.Rows.{recent_row}
use Rattle.pairing.specs.Laid.{Laid}
use Rattle.pairing.proofs.Ties.{laid_given, laid_refused}
use Rattle.cascade.specs.Stages.{CascadeAnswer}
use Rattle.matching.specs.Takers.{rows_paired, Takes}

module _ {A B : Type 0} (f : A → Reply B) (l : List A) (before after : List B) where
  -- all were given: their answers are the front of the array
  laid_front : length l ≤ length before → Laid f l 0 (given tt) before after → each f l ≡ given (take (length l) after)
  laid_front h s =
      let g = laid_given f l 0 before after s in
      let long = each_long f l g.0 g.1 in
      let at : after ≡ g.0 ++ drop (0 + length g.0) before = g.2 ∙ sets-eq g.0 before 0 (omega arith) in
      g.1 ∙ ap {B = Reply (List B)} given (sym (ap (take (length l)) at ∙ take_at g.0 (drop (0 + length g.0) before) (length l) long))

module _ (window now : ℤ) (rows : List Row) (n : ℕ) (flags₀ flags : List Bool) (long : length rows ≡ n) (few : n ≤ length flags₀) (o : Result (Unit {0}) Refusal) (marked : Laid (recent_row window now) rows 0 (reply_of o) flags₀ flags)
    (gate : Float) (costs : List Float) (m : ℕ) where
  pub recent_done : o ≡ Ok tt → (r : Reply (Unit {0})) (before after : List ℕ) → CascadeAnswer costs n m gate flags r before after → Takes m r after (rows_paired gate (Some window) now rows (rows_of n m costs) m)
  unfolding rows_paired
  recent_done e r before after a =
      let s = subst (λ (q : Result (Unit {0}) Refusal). Laid (recent_row window now) rows 0 (reply_of q) flags₀ flags) e marked in
      let g : each (recent_row window now) rows ≡ given (take n flags) = laid_front (recent_row window now) rows flags₀ flags (omega arith) s ∙ ap {B = Reply (List Bool)} (λ (k : ℕ). given (take k flags)) long in
      record { long = a.long; is = a.is ∙ sym (ap (λ (q : Reply (List Bool)). and_then q (λ fs. cascaded gate fs (rows_of n m costs) m)) g) }

  pub recent_stops : (why : Refusal) → o ≡ Err why → (after : List ℕ) → length after ≡ 64 → Takes m (refused (number_of why)) after (rows_paired gate (Some window) now rows (rows_of n m costs) m)
  unfolding rows_paired
  recent_stops why e after h =
      let s = subst (λ (q : Result (Unit {0}) Refusal). Laid (recent_row window now) rows 0 (reply_of q) flags₀ flags) e marked in
      let g = laid_refused (recent_row window now) rows 0 (number_of why) flags₀ flags s in
      record { long = h; is = sym (ap (λ (q : Reply (List Bool)). and_then q (λ fs. cascaded gate fs (rows_of n m costs) m)) g) }

module _ (w : Option ℤ) where
  pub all_done : w ≡ None → (gate : Float) (now : ℤ) (rows : List Row) (costs : List Float) (n m : ℕ) (r : Reply (Unit {0})) (after : List ℕ)
      → and_then r (λ u. given (takers_of m after)) ≡ assigned gate (rows_of n m costs) m → length after ≡ 64 → Takes m r after (rows_paired gate (w) now rows (rows_of n m costs) m)
  unfolding rows_paired
  all_done e gate now rows costs n m r after a h = record { long = h; is = a ∙ sym (ap (λ (o : Option ℤ). rows_paired gate (o) now rows (rows_of n m costs) m) e) }

  pub window_set : (window : ℤ) → w ≡ Some window → (gate : Float) (now : ℤ) (rows : List Row) (costs : List (List Float)) (m : ℕ) (r : Reply (Unit {0})) (after : List ℕ)
      → Takes m r after (rows_paired gate (Some window) now rows costs m) → Takes m r after (rows_paired gate (w) now rows costs m)
  window_set window e gate now rows costs m r after a = subst (λ (o : Option ℤ). Takes m r after (rows_paired gate (o) now rows costs m)) (sym e) a
