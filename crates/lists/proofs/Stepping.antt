-- A loop that changes an array in place by a step that may be refused: what it has done by index i, and the laws of a turn and of a refusal. Assumes nothing.
use mathlib.Core.Path.{◌≡◌, refl, sym, ap, ◌∙◌}
use mathlib.Core.List.{List, [], ◌∷◌, ◌++◌}
use Prim.Native.Nat.{ℕ, ◌+◌, ◌≤◌, ◌<◌}
use native.Mathlib.Omega.{arith}
use lib.ListN.{length, take, get_or, set}
use lib.Seq.{length-take-le}
use Rattle.number.specs.Reply.{Reply, refused, given}
use Rattle.lists.specs.Lay.{lay}
use Rattle.lists.specs.Each.{each_at}
use Rattle.lists.proofs.Laying.{set_lay, get_d_lay}
use Rattle.lists.proofs.Each.{each_length, each_more, each_stops}

-- l's first i elements were changed by f in place
pub record Stepped {A : Type 0} (f : ℕ → A → Reply A) (l m : List A) (i : ℕ) : Type 0 where
  pub done : List A
  pub read : i ≤ length l
  pub gives : each_at f 0 (take i l) ≡ given done
  pub slots : m ≡ lay done l

module _ {A : Type 0} (f : ℕ → A → Reply A) where
  pub stepped_start : (l : List A) → Stepped f l l 0
  stepped_start l = record { done = []; read = omega arith; gives = unfold each_at in refl; slots = unfold lay in refl }

  stepped_length : (l m : List A) (i : ℕ) (s : Stepped f l m i) → length s.done ≡ i
  stepped_length l m i s = each_length f 0 (take i l) s.done s.gives ∙ length-take-le i l s.read

  -- the element at i is as it was
  pub stepped_read : (l m : List A) (i : ℕ) (a : A) → Stepped f l m i → get_or m i a ≡ get_or l i a
  stepped_read l m i a s = let q = stepped_length l m i s in ap (λ (r : List A). get_or r i a) s.slots ∙ get_d_lay s.done l i a (omega arith)

  pub stepped_more : (l m : List A) (i : ℕ) (a y : A) → Stepped f l m i → i < length l → f i (get_or m i a) ≡ given y → Stepped f l (set m i y) (i + 1)
  stepped_more l m i a y s h e =
      let q = stepped_length l m i s in
      record {
        done = s.done ++ (y ∷ []);
        read = omega arith;
        gives = each_more f l i a s.done y h s.gives (rw (← stepped_read l m i a s) e);
        slots =
            ap (λ (r : List A). set r i y) s.slots
            ∙ ap (λ (k : ℕ). set (lay s.done l) k y) (sym q)
            ∙ set_lay s.done l y (omega arith);
      }

  pub stepped_stops : (l m : List A) (n i : ℕ) (a : A) (k : ℕ) → Stepped f l m i → i < n → n ≤ length l → f i (get_or m i a) ≡ refused k → each_at f 0 (take n l) ≡ refused k
  stepped_stops l m n i a k s h w e = each_stops f l n i a s.done k h w s.gives (rw (← stepped_read l m i a s) e)
