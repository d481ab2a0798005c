-- What a loop has done by index i that sifts a list and changes what is kept, by a step that may be refused: the laws of a turn, of a refusal and of the end. Generic: nothing here knows a tracker. Assumes nothing.
use Rattle.std.specs.Prelude.{None, Option, Some}
use mathlib.Core.Path.{◌≡◌, refl, sym, ap, ◌∙◌}
use mathlib.Core.List.{List, [], ◌∷◌, ◌++◌, append-nil}
use Prim.Native.Nat.{ℕ, suc, ◌+◌, ◌≤◌, ◌<◌}
use native.Mathlib.Omega.{arith}
use lib.ListN.{length, take, drop, get_or, set, length-append, take-append-drop}
use lib.Seq.{drop-cons, length-take-le, get_or-take, take-take}
use Rattle.number.specs.Reply.{Reply, refused, given}
use Rattle.lists.specs.Lay.{lay}
use Rattle.lists.specs.Sift.{sift, kept}
use Rattle.lists.proofs.Laying.{set_lay, get_d_lay}
use Rattle.lists.proofs.Sifting.{sift_more, sift_take_length}
use Rattle.lists.specs.Each.{each}
use Rattle.number.proofs.Replies.{given_same}
use Rattle.lists.proofs.Each.{each_cons, cons_each, each_at_all, each_length}

-- ---- one element more, and a refusal after some that were given

module _ {A B : Type 0} (f : A → Reply B) where
  each_snoc : (l : List A) (y : A) (m : List B) (z : B) → each f l ≡ given m → f y ≡ given z → each f (l ++ (y ∷ [])) ≡ given (m ++ (z ∷ []))
  unfolding each
  each_snoc [] y m z e h = rw (← given_same [] m e, h)
  each_snoc (x ∷ l) y m z e h =
      let p = each_cons f x l m e in
      rw p.whole (cons_each f x (l ++ (y ∷ [])) (p.head ∷ (p.tail ++ (z ∷ [])))
      (record { head = p.head; tail = p.tail ++ (z ∷ []); first = p.first; rest = each_snoc l y p.tail z p.rest h; whole = refl }))

  each_refused : (l : List A) (y : A) (r : List A) (m : List B) (n : ℕ) → each f l ≡ given m → f y ≡ refused n → each f (l ++ (y ∷ r)) ≡ refused n
  unfolding each
  each_refused [] y r m n e h = rw h
  each_refused (x ∷ l) y r m n e h =
      let p = each_cons f x l m e in
      rw (p.first, each_refused l y r p.tail n p.rest h)

sift_at : {A : Type 0} (g : A → Option A) (l : List A) (x : A) (r : List A) → sift g (l ++ (x ∷ r)) ≡ sift g l ++ kept (g x) (sift g r)
unfolding sift
sift_at g [] x r = refl
sift_at g (w ∷ l) x r = go (g w) (sift_at g l x r)
  where
    go : (o : Option _) → sift g (l ++ (x ∷ r)) ≡ sift g l ++ kept (g x) (sift g r) → kept o (sift g (l ++ (x ∷ r))) ≡ kept o (sift g l) ++ kept (g x) (sift g r)
    go None e = e
    go (Some y) e = ap (λ q. y ∷ q) e

-- ---- the loop

-- of l's first i elements those that g keeps were changed by f, into m's first j
pub record Passed {A : Type 0} (g : A → Option A) (f : A → Reply A) (l m : List A) (i j : ℕ) : Type 0 where
  pub done : List A
  pub read : i ≤ length l
  pub gives : each f (sift g (take i l)) ≡ given done
  pub count : j ≡ length done
  pub slots : m ≡ lay done l

module _ {A : Type 0} (g : A → Option A) (f : A → Reply A) where
  pub passed_start : (l : List A) → Passed g f l l 0 0
  unfolding each sift lay
  passed_start l = record { done = []; read = omega arith; gives = refl; count = refl; slots = refl }

  pub passed_behind : (l m : List A) (i j : ℕ) → Passed g f l m i j → j ≤ i
  passed_behind l m i j s =
      let e : length s.done ≡ length (sift g (take i l)) = each_length (λ k x. f x) 0 (sift g (take i l)) s.done (each_at_all f 0 (sift g (take i l)) ∙ s.gives) in
      omega (arith, s.count, sift_take_length g l i s.read)

  -- the element at i is as it was
  pub passed_read : (l m : List A) (i j : ℕ) (a : A) → Passed g f l m i j → get_or m i a ≡ get_or l i a
  passed_read l m i j a s = ap (λ (q : List A). get_or q i a) s.slots ∙ get_d_lay s.done l i a (omega (arith, s.count, passed_behind l m i j s))

  pub passed_drop : (l m : List A) (i j : ℕ) (a : A) → Passed g f l m i j → i < length l → g (get_or m i a) ≡ None → Passed g f l m (i + 1) j
  passed_drop l m i j a s h e =
      let more : sift g (take (i + 1) l) ≡ sift g (take i l) =
      sift_more g l i a h ∙ ap (λ (o : Option A). sift g (take i l) ++ kept o []) (ap g (sym (passed_read l m i j a s)) ∙ e) ∙ append-nil (sift g (take i l)) in
      record { done = s.done; read = omega arith; gives = rw more s.gives; count = s.count; slots = s.slots }

  pub passed_keep : (l m : List A) (i j : ℕ) (a y z : A) → Passed g f l m i j → i < length l → g (get_or m i a) ≡ Some y → f y ≡ given z → Passed g f l (set m j z) (i + 1) (j + 1)
  passed_keep l m i j a y z s h e d =
      let more : sift g (take (i + 1) l) ≡ sift g (take i l) ++ (y ∷ []) =
      sift_more g l i a h ∙ ap (λ (o : Option A). sift g (take i l) ++ kept o []) (ap g (sym (passed_read l m i j a s)) ∙ e) in
      record {
        done = s.done ++ (z ∷ []);
        read = omega arith;
        gives = rw more (each_snoc f (sift g (take i l)) y s.done z s.gives d);
        count = rw length-append (ap (λ (k : ℕ). k + 1) s.count);
        slots = rw (s.slots, s.count) (set_lay s.done l z (omega (arith, s.count, passed_behind l m i j s)));
      }

  pub passed_stops : (l m : List A) (n i j : ℕ) (a y : A) (k : ℕ) → Passed g f l m i j → i < n → n ≤ length l → g (get_or m i a) ≡ Some y → f y ≡ refused k → each f (sift g (take n l)) ≡ refused k
  passed_stops l m n i j a y k s h w e d =
      let long : length (take n l) ≡ n = length-take-le n l w in
      let front : take i (take n l) ≡ take i l = take-take i n l (omega arith) in
      let parts : take n l ≡ take i l ++ (get_or l i a ∷ drop (suc i) (take n l)) =
      sym (take-append-drop i (take n l)) ∙ rw (front, drop-cons (take n l) i a (omega arith), get_or-take n l i a h) in
      let at : sift g (take n l) ≡ sift g (take i l) ++ (y ∷ sift g (drop (suc i) (take n l))) =
      ap (sift g) parts
      ∙ sift_at g (take i l) (get_or l i a) (drop (suc i) (take n l))
      ∙ ap (λ (o : Option A). sift g (take i l) ++ kept o (sift g (drop (suc i) (take n l)))) (ap g (sym (passed_read l m i j a s)) ∙ e) in
      rw at (each_refused f (sift g (take i l)) y (sift g (drop (suc i) (take n l))) s.done k s.gives d)
