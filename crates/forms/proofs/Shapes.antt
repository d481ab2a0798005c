-- What the form readers use of the shape.
use Rattle.std.specs.Prelude.{None, Option, Some}
use mathlib.Core.Path.{◌≡◌, refl, ap, sym, ◌∙◌}
use mathlib.Core.Bool.{Bool, true, false, cond}
use mathlib.Core.List.{List, [], ◌∷◌}
use Prim.Native.Nat.{ℕ, zero, suc, ◌+◌, ◌-◌, ◌<◌, ◌≤◌}
use native.Mathlib.Numerals.{add-one}
use native.Mathlib.Omega.{arith}
use borrow.Author.Tests.{ne_eqb}
use lib.Dec.{eqb}
use lib.ListN.{length, drop, get_or, length-drop, drop_of_length-le}
use lib.Seq.{drop-cons, drop-drop}
use Rattle.number.specs.Reply.{refused, given}
use Rattle.std.specs.Prelude.{take_while}
use Rattle.std.proofs.lemmas.List.Sums.{take_while-cons}
use Rattle.forms.specs.Shape.{word_byte, past_word, word_end, behind, forms_of, word, inside, bracketed, form_of, list_of, place_reply}

-- ---- the second list is what is left of the first behind one element or more
pub data Tail : List ℕ → List ℕ → Type 0 where
  one : {b : ℕ} {l : List ℕ} → Tail (b ∷ l) l
  more : {b : ℕ} {l r : List ℕ} → Tail l r → Tail (b ∷ l) r

pub on : {l m r : List ℕ} → Tail l m → Tail m r → Tail l r
on one u = more u
on (more t) u = more (on t u)

pub shorter : {l r : List ℕ} → Tail l r → length r < length l
shorter one = omega arith
shorter (more t) = let h = shorter t in omega arith

pub placed : {l r : List ℕ} → Tail l r → r ≡ drop (length l - length r) l
placed (one {b} {l}) = let e : suc (length l) - length l ≡ suc 0 = omega arith in rw e
placed (more {b} {l} {r} t) =
    let h : length r < length l = shorter t in
    let e : suc (length l) - length r ≡ suc (length l - length r) = omega arith in
    rw e (placed t)

pub inner : (i : ℕ) (s : List ℕ) {r : List ℕ} → Tail (drop i s) r → Tail s r
inner zero s t = t
inner (suc i) [] t = t
inner (suc i) (x ∷ s) t = more (inner i s t)

-- ---- a form leaves a tail
past_cond : (b : ℕ) {l r : List ℕ} (t : Bool) → Tail l r → Tail (b ∷ l) (cond t r l)
past_cond b true t = more t
past_cond b false t = one

pub past_tail : (b : ℕ) (l : List ℕ) → Tail (b ∷ l) (past_word l)
unfolding past_word
past_tail b [] = one
past_tail b (c ∷ l) = past_cond b (word_byte c) (past_tail c l)

past_short : (l : List ℕ) → length (past_word l) ≤ length l
past_short l = let t = shorter (past_tail 0 l) in omega arith

-- ---- the place behind a word
pub word_long : (l : List ℕ) → length (take_while word_byte l) ≡ length l - length (past_word l)
unfolding past_word
word_long [] = refl
word_long (b ∷ l) = ap length (take_while-cons word_byte b l) ∙ go (word_byte b) (word_long l)
  where
    go : (t : Bool) → length (take_while word_byte l) ≡ length l - length (past_word l) → length (cond t (b ∷ take_while word_byte l) []) ≡ suc (length l) - length (cond t (past_word l) (b ∷ l))
    go true e = let h = past_short l in omega arith
    go false e = omega arith

-- what callers use of it
pub record Passed (s : List ℕ) (from r : ℕ) : Type 0 where
  pub past : from ≤ r
  pub within : r ≤ length s
  pub left : drop r s ≡ past_word (drop from s)

word_left : (l : List ℕ) → drop (length l - length (past_word l)) l ≡ past_word l
word_left l =
    let h = past_short l in
    let e : suc (length l) - length (past_word l) ≡ suc (length l - length (past_word l)) = omega arith in
    sym (placed (past_tail 0 l) ∙ ap (λ (k : ℕ). drop k (0 ∷ l)) e)

pub passed : (s : List ℕ) (from r : ℕ) → from ≤ length s → r ≡ word_end s from → Passed s from r
passed s from r h e =
    let l = past_short (drop from s) in
    let n : length (drop from s) ≡ length s - from = length-drop from s in
    record { past = omega arith; within = omega arith; left = ap (λ (k : ℕ). drop k s) e ∙ sym (drop-drop _ from s) ∙ word_left (drop from s) }

pub never : {X : Type 0} {x : X} {Y : Type 0} → None ≡ Some x → Y
never {X} {x} h = absurd (let z : ◌≡◌ {A = ℕ} 0 1 = cc in omega arith)

abbrev Shrinks : (List ℕ → Option (List ℕ)) → Type 0
Shrinks p = (l r : List ℕ) → p l ≡ Some r → Tail l r

word_shrinks : Shrinks word
unfolding word
word_shrinks [] r h = never h
word_shrinks (b ∷ l) r h = go (word_byte b) h
  where
    go : (t : Bool) → cond t (Some (past_word l)) None ≡ Some r → Tail (b ∷ l) r
    go true e = let u : past_word l ≡ r = cc in rw u at (past_tail b l)
    go false e = never e

-- what follows a form leaves a tail where the form and the further forms do, and is the same where the further forms are
behind_shrinks : (go : List ℕ → Option (List ℕ)) (l r : List ℕ) (o : Option (List ℕ)) → Shrinks go → ((m : List ℕ) → o ≡ Some m → Tail l m) → behind go o ≡ Some r → Tail l r
unfolding behind
behind_shrinks go l r None s t h = never h
behind_shrinks go l r (Some []) s t h = never h
behind_shrinks go l r (Some (c ∷ m)) s t h = closed (eqb c 41) (eqb c 32) h
  where
    closed : (x y : Bool) → cond x (Some m) (cond y (go m) None) ≡ Some r → Tail l r
    closed true y d = let u : m ≡ r = cc in rw u at (on (t (c ∷ m) refl) one)
    closed false true d = on (t (c ∷ m) refl) (more (s m r d))
    closed false false d = never d

behind_same : (f g : List ℕ → Option (List ℕ)) (o : Option (List ℕ)) → ((c : ℕ) (m : List ℕ) → o ≡ Some (c ∷ m) → f m ≡ g m) → behind f o ≡ behind g o
unfolding behind
behind_same f g None h = refl
behind_same f g (Some []) h = refl
behind_same f g (Some (c ∷ m)) h = rw (h c m refl)

module _ (p : List ℕ → Option (List ℕ)) (shrinks : Shrinks p) where
  forms_shrink : (k : ℕ) → Shrinks (forms_of p k)
  unfolding forms_of
  forms_shrink zero l r h = never h
  forms_shrink (suc k) l r h = behind_shrinks (forms_of p k) l r (p l) (forms_shrink k) (shrinks l) h

  inside_shrinks : Shrinks (inside p)
  unfolding inside
  inside_shrinks [] r h = never h
  inside_shrinks (c ∷ l) r h = go (eqb c 41) h
    where
      go : (x : Bool) → cond x (Some l) (forms_of p (suc (length l)) (c ∷ l)) ≡ Some r → Tail (c ∷ l) r
      go true d = let u : l ≡ r = cc in rw (sym u) one
      go false d = forms_shrink (suc (length l)) (c ∷ l) r d

  bracketed_shrinks : Shrinks (bracketed p)
  unfolding bracketed
  bracketed_shrinks [] r h = never h
  bracketed_shrinks (b ∷ l) r h = go (eqb b 40) h
    where
      go : (x : Bool) → cond x (inside p l) (word (b ∷ l)) ≡ Some r → Tail (b ∷ l) r
      go true d = more (inside_shrinks l r d)
      go false d = word_shrinks (b ∷ l) r d

  at_none : p [] ≡ None
  at_none = go (p []) refl
    where
      go : (o : Option (List ℕ)) → p [] ≡ o → o ≡ None
      go None e = refl
      go (Some r) e = absurd (let t = shorter (shrinks [] r e) in omega arith)

  -- a bound that is large enough is as good as another
  enough : (k j : ℕ) (l : List ℕ) → length l ≤ k → length l ≤ j → forms_of p k l ≡ forms_of p j l
  unfolding forms_of behind
  enough zero zero l h g = refl
  enough zero (suc j) [] h g = rw at_none
  enough zero (suc j) (b ∷ l) h g = absurd (omega arith)
  enough (suc k) zero [] h g = rw at_none
  enough (suc k) zero (b ∷ l) h g = absurd (omega arith)
  enough (suc k) (suc j) l h g = behind_same (forms_of p k) (forms_of p j) (p l) (λ c m e. let t = shorter (shrinks l (c ∷ m) e) in enough k j m (omega arith) (omega arith))

  -- the list's equation, in which the bound has no part
  forms_is : (l : List ℕ) → forms_of p (length l) l ≡ behind (λ m. forms_of p (length m) m) (p l)
  unfolding forms_of behind
  forms_is [] = rw at_none
  forms_is (b ∷ l) = behind_same (forms_of p (length l)) (λ m. forms_of p (length m) m) (p (b ∷ l)) (λ c m e. let t = shorter (shrinks (b ∷ l) (c ∷ m) e) in enough (length l) (length m) m (omega arith) (omega arith))

form_shrinks : (d : ℕ) → Shrinks (form_of d)
unfolding form_of
form_shrinks zero l r h = word_shrinks l r h
form_shrinks (suc d) l r h = bracketed_shrinks (form_of d) (form_shrinks d) l r h

pub list_is : (d : ℕ) (l : List ℕ) → list_of d l ≡ behind (list_of d) (form_of d l)
list_is d l = forms_is (form_of d) (form_shrinks d) l

-- ---- what an answer says
pub next_at : (s : List ℕ) (k : ℕ) → k ≤ length s → given k ≡ place_reply s (Some (drop k s))
next_at s k h = let e : length s - length (drop k s) ≡ k = simp (length-drop) (omega arith) in rw e

pub record Found (s : List ℕ) (at : ℕ) (d : ℕ) (e : ℕ) : Type 0 where
  pub left : form_of d (drop at s) ≡ Some (drop e s)
  pub past : at < e
  pub within : e ≤ length s

pub read_next : (s : List ℕ) (at d e : ℕ) → given e ≡ place_reply s (form_of d (drop at s)) → Found s at d e
read_next s at d e h = go (form_of d (drop at s)) refl h
  where
    go : (o : Option (List ℕ)) → form_of d (drop at s) ≡ o → given e ≡ place_reply s o → Found s at d e
    go None q g = absurd (let z : ◌≡◌ {A = ℕ} 0 1 = cc in omega arith)
    go (Some r) q g =
        let t : Tail (drop at s) r = form_shrinks d (drop at s) r q in
        let u : e ≡ length s - length r = cc in
        let v : r ≡ drop (length s - length r) s = placed (inner at s t) in
        let w : length r < length s - at = rw length-drop at (shorter t) in
        record { left = q ∙ ap (λ (m : List ℕ). Some m) (v ∙ ap (λ (n : ℕ). drop n s) (sym u)); past = omega arith; within = omega arith }

pub read_refused : (s : List ℕ) (at d : ℕ) → refused 13 ≡ place_reply s (form_of d (drop at s)) → form_of d (drop at s) ≡ None
read_refused s at d h = go (form_of d (drop at s)) h
  where
    go : (o : Option (List ℕ)) → refused 13 ≡ place_reply s o → o ≡ None
    go None g = refl
    go (Some r) g = absurd (let z : ◌≡◌ {A = ℕ} 0 1 = cc in omega arith)

-- ---- the list reader's answers
module _ (s : List ℕ) (at d : ℕ) where
  pub list_refused : form_of d (drop at s) ≡ None → refused 13 ≡ place_reply s (list_of d (drop at s))
  unfolding behind
  list_refused h = rw (list_is d (drop at s), h)

  module _ (e : ℕ) (f : Found s at d e) where
    pub list_ends : length s ≤ e → refused 13 ≡ place_reply s (list_of d (drop at s))
    unfolding behind
    list_ends h = rw (list_is d (drop at s), f.left, drop_of_length-le s h)

    list_steps : e < length s → list_of d (drop at s) ≡ behind (list_of d) (Some (get_or s e 0 ∷ drop (e + 1) s))
    list_steps h = rw (list_is d (drop at s), f.left, drop-cons s e 0, ← add-one)

    pub list_closed : e < length s → get_or s e 0 ≡ 41 → given (e + 1) ≡ place_reply s (list_of d (drop at s))
    unfolding behind
    list_closed h g = next_at s (e + 1) (omega arith) ∙ rw (list_steps h, g)

    pub list_more : e < length s → get_or s e 0 ≡ 32 → list_of d (drop (e + 1) s) ≡ list_of d (drop at s)
    unfolding behind
    list_more h g = rw (list_steps h, g)

    pub list_other : e < length s → (get_or s e 0 ≡ 41 → ⊥) → (get_or s e 0 ≡ 32 → ⊥) → refused 13 ≡ place_reply s (list_of d (drop at s))
    unfolding behind
    list_other h g k = rw (list_steps h, ne_eqb _ _ g, ne_eqb _ _ k)

-- what is read of a list's later part is read of the whole
pub listed_on : (s : List ℕ) {o p : Option (List ℕ)} → o ≡ p → place_reply s o ≡ place_reply s p
listed_on s e = ap (λ (o : Option (List ℕ)). place_reply s o) e

-- ---- the form reader's answers
module _ (s : List ℕ) (at d : ℕ) where
  pub form_ends : length s ≤ at → refused 13 ≡ place_reply s (form_of d (drop at s))
  form_ends h = rw (drop_of_length-le s h, at_none (form_of d) (form_shrinks d))

  module _ (h : at < length s) where
    opens : drop at s ≡ get_or s at 0 ∷ drop (at + 1) s
    opens = rw (add-one, drop-cons s at 0)

    at_word : (get_or s at 0 ≡ 40 → ⊥) → form_of d (drop at s) ≡ word (get_or s at 0 ∷ drop (at + 1) s)
    unfolding form_of bracketed
    at_word g = rw opens (go d)
      where
        go : (k : ℕ) → form_of k (get_or s at 0 ∷ drop (at + 1) s) ≡ word (get_or s at 0 ∷ drop (at + 1) s)
        go zero = refl
        go (suc k) = rw (ne_eqb _ _ g)

    pub form_word : (get_or s at 0 ≡ 40 → ⊥) → word_byte (get_or s at 0) ≡ true → (r : ℕ) → r ≤ length s → drop r s ≡ past_word (drop (at + 1) s) → given r ≡ place_reply s (form_of d (drop at s))
    unfolding word
    form_word g k r w e = next_at s r w ∙ rw (at_word g, k, e)

    pub form_other : (get_or s at 0 ≡ 40 → ⊥) → word_byte (get_or s at 0) ≡ false → refused 13 ≡ place_reply s (form_of d (drop at s))
    unfolding word
    form_other g k = rw (at_word g, k)

    pub form_deep : get_or s at 0 ≡ 40 → d ≡ 0 → refused 13 ≡ place_reply s (form_of d (drop at s))
    unfolding word form_of
    form_deep g z = rw (z, opens, g)

    module _ (g : get_or s at 0 ≡ 40) (n : d ≡ 0 → ⊥) where
      into : form_of d (drop at s) ≡ inside (form_of (d - 1)) (drop (at + 1) s)
      unfolding form_of bracketed
      into = let z : d ≡ suc (d - 1) = omega arith in rw (opens, g) (ap (λ (k : ℕ). form_of k (40 ∷ drop (at + 1) s)) z)

      pub form_open : length s ≤ at + 1 → refused 13 ≡ place_reply s (form_of d (drop at s))
      unfolding inside
      form_open w = rw (into, drop_of_length-le s w)

      module _ (w : at + 1 < length s) where
        opens' : drop (at + 1) s ≡ get_or s (at + 1) 0 ∷ drop (at + 1 + 1) s
        opens' = drop-cons s (at + 1) 0 w ∙ rw (add-one (at + 1))

        pub form_empty : get_or s (at + 1) 0 ≡ 41 → given (at + 2) ≡ place_reply s (form_of d (drop at s))
        unfolding inside
        form_empty k = let e : at + 2 ≡ at + 1 + 1 = omega arith in rw e (next_at s (at + 1 + 1) (omega arith) ∙ rw (into, opens', k))

        pub form_list : (get_or s (at + 1) 0 ≡ 41 → ⊥) → place_reply s (list_of (d - 1) (drop (at + 1) s)) ≡ place_reply s (form_of d (drop at s))
        unfolding inside
        form_list k = rw (into, opens', ne_eqb _ _ k)
