-- What a loop that lays the answers for a list's elements into an array has done by index i. Assumes nothing.
use mathlib.Core.Path.{◌≡◌, refl, sym, ap, ◌∙◌}
use mathlib.Core.List.{List, [], ◌∷◌, ◌++◌}
use Prim.Native.Nat.{ℕ, suc, ◌+◌, ◌≤◌, ◌<◌}
use native.Mathlib.Omega.{arith}
use lib.ListN.{length, take, drop, get_or, set, take-append-drop}
use lib.Seq.{sets, drop-cons, length-take-le, take_all}
use Rattle.number.specs.Reply.{Reply, refused, given, and_then}
use Rattle.lists.specs.Each.{each}
use Rattle.lists.proofs.Each.{each_at_all, each_cons, each_nil, each_long, each_more, each_stops}
use Rattle.pairing.specs.Laid.{front, ahead, Laid}

-- one store more
pub sets_snoc : {B : Type 0} (l m : List B) (k : ℕ) (x : B) → sets m k (l ++ (x ∷ [])) ≡ set (sets m k l) (k + length l) x
sets_snoc [] m k x = let e : k + 0 ≡ k = omega arith in rw e
sets_snoc (y ∷ l) m k x = let e : k + suc (length l) ≡ suc k + length l = omega arith in rw e (sets_snoc l (set m k y) (suc k) x)

module _ {A B : Type 0} (f : A → Reply B) where
  -- nothing is refused
  pub front_all : (l : List A) (m : List B) → each f l ≡ given m → front f l ≡ m
  unfolding front
  front_all [] m e = sym (each_nil f m e)
  front_all (x ∷ l) m e = let p = each_cons f x l m e in ap (λ (r : Reply B). ahead r (front f l)) p.first ∙ ap {B = List B} (λ r. p.head ∷ r) (front_all l p.tail p.rest) ∙ sym p.whole

  -- the first refusal ends it
  front_stop : (l : List A) (x : A) (r : List A) (m : List B) (n : ℕ) → each f l ≡ given m → f x ≡ refused n → front f (l ++ (x ∷ r)) ≡ m
  unfolding front
  front_stop [] x r m n e g = rw g (sym (each_nil f m e))
  front_stop (w ∷ l) x r m n e g = let p = each_cons f w l m e in ap (λ (q : Reply B). ahead q (front f (l ++ (x ∷ r)))) p.first ∙ ap {B = List B} (λ q. p.head ∷ q) (front_stop l x r p.tail n p.rest g) ∙ sym p.whole

-- the answers for l's first i elements were stored from k on
pub record Laying {A B : Type 0} (f : A → Reply B) (l : List A) (k i : ℕ) (before after : List B) : Type 0 where
  pub done : List B
  pub read : i ≤ length l
  pub gives : each f (take i l) ≡ given done
  pub slots : after ≡ sets before k done

module _ {A B : Type 0} (f : A → Reply B) (l : List A) (k : ℕ) (before : List B) where
  pub laying_none : Laying f l k 0 before before
  laying_none = record { done = []; read = omega arith; gives = unfold each in refl; slots = refl }

  pub laying_more : (i j : ℕ) (after : List B) (a : A) (y : B) → Laying f l k i before after → i < length l → j ≡ k + i → f (get_or l i a) ≡ given y → Laying f l k (i + 1) before (set after j y)
  laying_more i j after a y s h w e =
      let q : length s.done ≡ i = each_long f (take i l) s.done s.gives ∙ length-take-le i l s.read in
      record {
        done = s.done ++ (y ∷ []);
        read = omega arith;
        gives = sym (each_at_all f 0 (take (i + 1) l)) ∙ each_more (λ j x. f x) l i a s.done y h (each_at_all f 0 (take i l) ∙ s.gives) e;
        slots = ap (λ (r : List B). set r j y) s.slots ∙ ap (λ (x : ℕ). set (sets before k s.done) x y) (omega arith) ∙ sym (sets_snoc s.done before k y);
      }

  pub laying_stops : (i : ℕ) (after : List B) (a : A) (r : ℕ) → Laying f l k i before after → i < length l → f (get_or l i a) ≡ refused r → Laid f l k (refused r) before after
  laying_stops i after a r s h e =
      let whole : take (length l) l ≡ l = take_all (length l) l (omega arith) in
      let split : l ≡ take i l ++ (get_or l i a ∷ drop (suc i) l) = sym (take-append-drop i l) ∙ rw (drop-cons l i a h) in
      let stop : each f l ≡ refused r =
      ap (each f) (sym whole)
      ∙ sym (each_at_all f 0 (take (length l) l))
      ∙ each_stops (λ j x. f x) l (length l) i a s.done r h (omega arith) (each_at_all f 0 (take i l) ∙ s.gives) e in
      record {
        is = sym (ap (λ (x : Reply (List B)). and_then x (λ m. given tt)) stop);
        content = s.slots ∙ ap (sets before k) (sym (ap (front f) split ∙ front_stop f (take i l) (get_or l i a) (drop (suc i) l) s.done r s.gives e));
      }

  pub laying_all : (i : ℕ) (after : List B) → i ≡ length l → Laying f l k i before after → Laid f l k (given tt) before after
  laying_all i after e s =
      let gives : each f l ≡ given s.done = ap (each f) (sym (take_all i l (omega arith))) ∙ s.gives in
      record {
        is = sym (ap (λ (x : Reply (List B)). and_then x (λ m. given tt)) gives);
        content = s.slots ∙ ap (sets before k) (sym (front_all f l s.done gives));
      }
