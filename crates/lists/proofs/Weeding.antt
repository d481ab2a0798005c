-- A loop that drops elements of an array in place by a test that may be refused: what it has done by index i, and the laws of its turns. Assumes nothing.
use mathlib.Core.Path.{◌≡◌, refl, sym, ap, ◌∙◌}
use mathlib.Core.List.{List, [], ◌∷◌, ◌++◌, append-nil}
use mathlib.Core.Bool.{Bool, true, false, cond}
use Prim.Native.Nat.{ℕ, ◌+◌, ◌≤◌, ◌<◌}
use native.Mathlib.Numerals.{add-one}
use native.Mathlib.Omega.{arith}
use lib.ListN.{length, take, get_or, set, length-append}
use lib.Seq.{take-suc, length-take-le}
use Rattle.number.specs.Reply.{Reply, refused, given}
use Rattle.lists.specs.Lay.{lay}
use Rattle.lists.specs.Masks.{left_by}
use Rattle.lists.specs.Each.{each}
use Rattle.lists.proofs.Laying.{set_lay, get_d_lay}
use Rattle.lists.proofs.Masks.{left_shorter, left_more}
use Rattle.lists.proofs.Each.{each_at_all, each_length, each_more, each_stops}

-- of l's first i elements the test f kept j, in m's first places
pub record Weeded {A : Type 0} (f : A → Reply Bool) (l m : List A) (i j : ℕ) : Type 0 where
  pub keep : List Bool
  pub read : i ≤ length l
  pub gives : each f (take i l) ≡ given keep
  pub count : j ≡ length (left_by keep (take i l))
  pub slots : m ≡ lay (left_by keep (take i l)) l

module _ {A : Type 0} (f : A → Reply Bool) where
  pub weeded_start : (l : List A) → Weeded f l l 0 0
  weeded_start l = record { keep = []; read = omega arith; gives = unfold each in refl; count = unfold left_by in refl; slots = unfold left_by lay in refl }

  keep_long : (l m : List A) (i j : ℕ) (s : Weeded f l m i j) → length s.keep ≡ length (take i l)
  keep_long l m i j s = each_length (λ k x. f x) 0 (take i l) s.keep (each_at_all f 0 (take i l) ∙ s.gives)

  -- the element at i is as it was
  pub weeded_read : (l m : List A) (i j : ℕ) (a : A) → Weeded f l m i j → get_or m i a ≡ get_or l i a
  weeded_read l m i j a s =
      ap (λ (r : List A). get_or r i a) s.slots
      ∙ get_d_lay (left_by s.keep (take i l)) l i a (omega (arith, left_shorter s.keep (take i l), length-take-le i l s.read))

  more : (l m : List A) (i j : ℕ) (a : A) (b : Bool) (s : Weeded f l m i j) → i < length l → f (get_or m i a) ≡ given b
      → (each f (take (i + 1) l) ≡ given (s.keep ++ (b ∷ []))) × (left_by (s.keep ++ (b ∷ [])) (take (i + 1) l) ≡ left_by s.keep (take i l) ++ cond b (get_or l i a ∷ []) [])
  more l m i j a b s h e = (
    sym (each_at_all f 0 (take (i + 1) l)) ∙ each_more (λ k x. f x) l i a s.keep b h (each_at_all f 0 (take i l) ∙ s.gives) (rw (← weeded_read l m i j a s) e),
    rw (add-one, take-suc l i a h) (left_more s.keep (take i l) b (get_or l i a) (keep_long l m i j s)),
  )

  pub weeded_drop : (l m : List A) (i j : ℕ) (a : A) → Weeded f l m i j → i < length l → f (get_or m i a) ≡ given false → Weeded f l m (i + 1) j
  weeded_drop l m i j a s h e =
      let p = more l m i j a false s h e in
      let q = p.1 ∙ append-nil (left_by s.keep (take i l)) in
      record { keep = s.keep ++ (false ∷ []); read = omega arith; gives = p.0; count = rw q s.count; slots = rw q s.slots }

  pub weeded_keep : (l m : List A) (i j : ℕ) (a : A) → Weeded f l m i j → i < length l → f (get_or m i a) ≡ given true → Weeded f l (set m j (get_or m i a)) (i + 1) (j + 1)
  weeded_keep l m i j a s h e =
      let p = more l m i j a true s h e in
      record {
        keep = s.keep ++ (true ∷ []);
        read = omega arith;
        gives = p.0;
        count = rw (p.1, length-append) (ap (λ (k : ℕ). k + 1) s.count);
        slots =
            rw (p.1, weeded_read l m i j a s, s.slots, s.count)
            (set_lay (left_by s.keep (take i l)) l (get_or l i a) (omega (arith, left_shorter s.keep (take i l), length-take-le i l s.read)));
      }

  pub weeded_stops : (l m : List A) (n i j : ℕ) (a : A) (k : ℕ) → Weeded f l m i j → i < n → n ≤ length l → f (get_or m i a) ≡ refused k → each f (take n l) ≡ refused k
  weeded_stops l m n i j a k s h w e =
      sym (each_at_all f 0 (take n l)) ∙ each_stops (λ q x. f x) l n i a s.keep k h w (each_at_all f 0 (take i l) ∙ s.gives) (rw (← weeded_read l m i j a s) e)
