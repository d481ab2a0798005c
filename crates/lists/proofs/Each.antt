-- Laws of replies for each element: what a given list was made of, one element more, the first refusal; a loop over the first elements of a list. Assumes nothing.
use mathlib.Core.Path.{◌≡◌, refl, sym, ap, ◌∙◌}
use mathlib.Core.List.{List, [], ◌∷◌, ◌++◌}
use mathlib.Core.Bool.{Bool, true, false}
use Prim.Native.Nat.{ℕ, suc, zero, ◌+◌, ◌≤◌, ◌<◌}
use native.Mathlib.Numerals.{add-one}
use native.Mathlib.Omega.{arith}
use lib.ListN.{length, take, drop, get_or, take-append-drop}
use lib.Seq.{take-suc, drop-cons, length-take-le, get_or-take, take-take}
use Rattle.number.specs.Reply.{Reply, refused, given}
use Rattle.number.proofs.Replies.{given_same, bound}
use Rattle.lists.specs.Masks.{left_by}
use Rattle.lists.specs.Each.{each, each_at}

module _ {A B : Type 0} (f : A → Reply B) where
  pub each_nil : (m : List B) → each f [] ≡ given m → m ≡ []
  unfolding each
  each_nil m e = cc

  pub record Cons (x : A) (l : List A) (m : List B) : Type 0 where
    pub head : B
    pub tail : List B
    pub first : f x ≡ given head
    pub rest : each f l ≡ given tail
    pub whole : m ≡ head ∷ tail

  pub each_cons : (x : A) (l : List A) (m : List B) → each f (x ∷ l) ≡ given m → Cons x l m
  unfolding each
  each_cons x l m e =
      let p = bound (f x) _ m e in
      let q = bound (each f l) _ m p.2 in
      record { head = p.0; tail = q.0; first = p.1; rest = q.1; whole = let g = q.2 in cc }

  pub cons_each : (x : A) (l : List A) (m : List B) → Cons x l m → each f (x ∷ l) ≡ given m
  unfolding each
  cons_each x l m p = rw (p.first, p.rest, p.whole)

  -- striking before is striking after
  pub each_left : (k : List Bool) (l : List A) (m : List B) → each f l ≡ given m → each f (left_by k l) ≡ given (left_by k m)
  unfolding left_by
  each_left [] l m e = unfold each in refl
  each_left (b ∷ k) [] m e = rw (each_nil m e) (unfold each in refl)
  each_left (true ∷ k) (x ∷ l) m e =
      let p = each_cons x l m e in
      rw p.whole (cons_each x (left_by k l) (p.head ∷ left_by k p.tail)
      (record { head = p.head; tail = left_by k p.tail; first = p.first; rest = each_left k l p.tail p.rest; whole = refl }))
  each_left (false ∷ k) (x ∷ l) m e =
      let p = each_cons x l m e in rw p.whole (each_left k l p.tail p.rest)

-- the step's place only counts where it is read
pub each_at_all : {A B : Type 0} (f : A → Reply B) (i : ℕ) (l : List A) → each_at (λ k x. f x) i l ≡ each f l
unfolding each each_at
each_at_all f i [] = refl
each_at_all f i (x ∷ l) = rw (each_at_all f (suc i) l)

-- ---- by a step that knows the place

module _ {A B : Type 0} (f : ℕ → A → Reply B) where
  pub each_length : (i : ℕ) (l : List A) (m : List B) → each_at f i l ≡ given m → length m ≡ length l
  unfolding each_at
  each_length i [] m e = rw (← given_same [] m e)
  each_length i (x ∷ l) m e =
      let p = bound (f i x) _ m e in
      let q = bound (each_at f (suc i) l) _ m p.2 in
      rw (← given_same _ m q.2) (ap suc (each_length (suc i) l q.0 q.1))

  -- the result at a place is what the step gave there
  pub each_step : (i : ℕ) (l : List A) (m : List B) (k : ℕ) (a : A) (b : B) → each_at f i l ≡ given m → k < length l → f (i + k) (get_or l k a) ≡ given (get_or m k b)
  unfolding each_at
  each_step i [] m k a b e h = absurd (omega arith)
  each_step i (x ∷ l) m zero a b e h =
      let p = bound (f i x) _ m e in
      let q = bound (each_at f (suc i) l) _ m p.2 in
      let z : i + 0 ≡ i = omega arith in
      rw (← given_same _ m q.2, z) p.1
  each_step i (x ∷ l) m (suc k) a b e h =
      let p = bound (f i x) _ m e in
      let q = bound (each_at f (suc i) l) _ m p.2 in
      let z : i + suc k ≡ suc i + k = omega arith in
      rw (← given_same _ m q.2, z) (each_step (suc i) l q.0 k a b q.1 (omega arith))

  at_cons : (i : ℕ) (x : A) (l : List A) (y : B) (m : List B) → f i x ≡ given y → each_at f (suc i) l ≡ given m → each_at f i (x ∷ l) ≡ given (y ∷ m)
  unfolding each_at
  at_cons i x l y m p q = rw (p, q)

  -- one element more
  pub each_snoc : (i : ℕ) (l : List A) (x : A) (m : List B) (y : B) → each_at f i l ≡ given m → f (i + length l) x ≡ given y → each_at f i (l ++ (x ∷ [])) ≡ given (m ++ (y ∷ []))
  unfolding each_at
  each_snoc i [] x m y e g =
      let z : i + 0 ≡ i = omega arith in
      rw (← given_same [] m e, rw z at g)
  each_snoc i (w ∷ l) x m y e g =
      let p = bound (f i w) _ m e in
      let q = bound (each_at f (suc i) l) _ m p.2 in
      let z : i + suc (length l) ≡ suc i + length l = omega arith in
      at_cons i w (l ++ (x ∷ [])) p.0 (q.0 ++ (y ∷ [])) p.1 (each_snoc (suc i) l x q.0 y q.1 (rw z at g))
      ∙ ap (λ (r : List B). given (r ++ (y ∷ []))) (given_same _ m q.2)

  -- a refusal after some that were given
  pub each_refused : (i : ℕ) (l : List A) (x : A) (r : List A) (m : List B) (n : ℕ) → each_at f i l ≡ given m → f (i + length l) x ≡ refused n → each_at f i (l ++ (x ∷ r)) ≡ refused n
  unfolding each_at
  each_refused i [] x r m n e g =
      let z : i + 0 ≡ i = omega arith in
      rw (rw z at g)
  each_refused i (w ∷ l) x r m n e g =
      let p = bound (f i w) _ m e in
      let q = bound (each_at f (suc i) l) _ m p.2 in
      let z : i + suc (length l) ≡ suc i + length l = omega arith in
      rw (p.1, each_refused (suc i) l x r q.0 n q.1 (rw z at g))

  -- ---- a loop over the first n elements of l, at i

  pub each_more : (l : List A) (i : ℕ) (a : A) (m : List B) (y : B) → i < length l → each_at f 0 (take i l) ≡ given m → f i (get_or l i a) ≡ given y → each_at f 0 (take (i + 1) l) ≡ given (m ++ (y ∷ []))
  each_more l i a m y h e g =
      let z : 0 + length (take i l) ≡ i = (let q = length-take-le i l (omega arith) in omega arith) in
      rw (add-one, take-suc l i a h) (each_snoc 0 (take i l) (get_or l i a) m y e (rw z g))

  pub each_stops : (l : List A) (n i : ℕ) (a : A) (m : List B) (k : ℕ) → i < n → n ≤ length l → each_at f 0 (take i l) ≡ given m → f i (get_or l i a) ≡ refused k → each_at f 0 (take n l) ≡ refused k
  each_stops l n i a m k h w e g =
      let z : 0 + length (take i l) ≡ i = (let q = length-take-le i l (omega arith) in omega arith) in
      let long : length (take n l) ≡ n = length-take-le n l w in
      let front : take i (take n l) ≡ take i l = take-take i n l (omega arith) in
      let split : take n l ≡ take i l ++ (get_or l i a ∷ drop (suc i) (take n l)) =
      sym (take-append-drop i (take n l)) ∙ rw (front, drop-cons (take n l) i a (omega arith), get_or-take n l i a h) in
      rw split (each_refused 0 (take i l) (get_or l i a) (drop (suc i) (take n l)) m k e (rw z g))

-- ---- the results of `each`

module _ {A B : Type 0} (f : A → Reply B) where
  pub each_entry : (l : List A) (m : List B) (k : ℕ) (a : A) (b : B) → each f l ≡ given m → k < length l → f (get_or l k a) ≡ given (get_or m k b)
  each_entry l m k a b e h = each_step (λ i x. f x) 0 l m k a b (each_at_all f 0 l ∙ e) h

  pub each_long : (l : List A) (m : List B) → each f l ≡ given m → length m ≡ length l
  each_long l m e = each_length (λ i x. f x) 0 l m (each_at_all f 0 l ∙ e)
