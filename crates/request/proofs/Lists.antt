-- Lists in brackets: the bound never matters, what they leave, and what a walk over the things in them makes.
use Rattle.std.specs.Prelude.{Option}
use mathlib.Core.Path.{◌≡◌, refl, ap, sym, ◌∙◌}
use mathlib.Core.Bool.{Bool, true, false, cond}
use mathlib.Core.List.{List, [], ◌∷◌}
use Prim.Native.Nat.{ℕ, zero, suc, ◌+◌, ◌-◌, ◌<◌, ◌≤◌}
use native.Mathlib.Numerals.{add-one}
use native.Mathlib.Omega.{arith}
use borrow.Author.Tests.{ne_eqb}
use lib.Dec.{eqb}
use lib.ListN.{length, drop, get_or, length-drop, drop_of_length-le}
use lib.Seq.{drop-cons}
use Rattle.std.proofs.Common.{Some, None}
use Rattle.forms.proofs.Shapes.{never, Tail, one, more, on, shorter, placed, inner}
use Rattle.request.specs.Request.{found_of}
use Rattle.request.specs.declared.words.Found.{Found}
use Rattle.request.specs.Listed.{Reader, also, behind, up_to, listed, inside, bracketed, after, told}

unfoldable pub rest_of : {X : Type 0} → Option (X × List ℕ) → List ℕ
rest_of None = []
rest_of (Some p) = p.1

pub place : (s : List ℕ) (e : ℕ) → e ≤ length s → length s - length (drop e s) ≡ e
place s e h = simp length-drop (omega arith)

-- a reader that takes at least one byte, and leaves what stands behind those that it takes
abbrev pub Leaves : {X : Type 0} → Reader X → Type 0
Leaves {X} p = (l r : List ℕ) (x : X) → p l ≡ Some (x, r) → Tail l r

-- x stands at `at`, and e is the place behind it
pub record Got {X : Type 0} (p : Reader X) (s : List ℕ) (at : ℕ) (x : X) (e : ℕ) : Type 0 where
  pub left : p (drop at s) ≡ Some (x, drop e s)
  pub past : at < e
  pub within : e ≤ length s

module _ {X : Type 0} (p : Reader X) (leaves : Leaves p) where
  pub got : (s : List ℕ) (at : ℕ) (x : X) (l : List ℕ) (e : ℕ) → p (drop at s) ≡ Some (x, l) → e ≡ length s - length l → Got p s at x e
  got s at x r e q u =
      let t : Tail (drop at s) r = leaves (drop at s) r x q in
      let v : r ≡ drop (length s - length r) s = placed (inner at s t) in
      let w : length r < length s - at = rw length-drop at (shorter t) in
      record { left = q ∙ ap (λ (m : List ℕ). Some (x, m)) (v ∙ ap (λ (n : ℕ). drop n s) (sym u)); past = omega arith; within = omega arith }

  -- what the answer of its reader says
  pub found_got : (s : List ℕ) (at : ℕ) (f : Found X) → Some f ≡ found_of s (p (drop at s)) → Got p s at f.value f.end
  found_got s at f h = go (p (drop at s)) refl h
    where
      go : (o : Option (X × List ℕ)) → p (drop at s) ≡ o → Some f ≡ found_of s o → Got p s at f.value f.end
      go None q g = absurd (let z : ◌≡◌ {A = ℕ} 0 1 = cc in omega arith)
      go (Some (x, l)) q g =
          let u : f ≡ record { value = x; end = length s - length l } = cc in
          got s at f.value l f.end (q ∙ ap (λ (f : Found X). Some (f.value, l)) (sym u)) (ap (λ (f : Found X). f.end) u)

pub found_none : {X : Type 0} (s : List ℕ) (o : Option (X × List ℕ)) → None ≡ found_of s o → o ≡ None
found_none s None h = refl
found_none s (Some (x, l)) h = absurd (let z : ◌≡◌ {A = ℕ} 0 1 = cc in omega arith)

module _ {X : Type 0} where
  behind_same : (f g : Reader (List X)) (o : Option (X × List ℕ)) → ((x : X) (c : ℕ) (m : List ℕ) → o ≡ Some (x, c ∷ m) → f m ≡ g m) → behind f o ≡ behind g o
  unfolding behind
  behind_same f g None h = refl
  behind_same f g (Some (x, [])) h = refl
  behind_same f g (Some (x, c ∷ m)) h = rw (h x c m refl)

  module _ (p : Reader X) (leaves : Leaves p) where
    at_none : p [] ≡ None
    at_none = go (p []) refl
      where
        go : (o : Option (X × List ℕ)) → p [] ≡ o → o ≡ None
        go None e = refl
        go (Some (x, r)) e = absurd (let t = shorter (leaves [] r x e) in omega arith)

    enough : (k j : ℕ) (l : List ℕ) → length l ≤ k → length l ≤ j → up_to p k l ≡ up_to p j l
    unfolding up_to behind
    enough zero zero l h g = refl
    enough zero (suc j) [] h g = rw at_none
    enough zero (suc j) (b ∷ l) h g = absurd (omega arith)
    enough (suc k) zero [] h g = rw at_none
    enough (suc k) zero (b ∷ l) h g = absurd (omega arith)
    enough (suc k) (suc j) l h g = behind_same (up_to p k) (up_to p j) (p l) (λ x c m e. let t = shorter (leaves l (c ∷ m) x e) in enough k j m (omega arith) (omega arith))

    -- a list's equation, in which the bound has no part
    pub listed_is : (l : List ℕ) → listed p l ≡ behind (listed p) (p l)
    unfolding listed up_to behind
    listed_is [] = rw at_none
    listed_is (b ∷ l) = behind_same (up_to p (length l)) (listed p) (p (b ∷ l)) (λ x c m e. let t = shorter (leaves (b ∷ l) (c ∷ m) x e) in enough (length l) (length m) m (omega arith) (omega arith))

  behind_leaves : (go : Reader (List X)) (l r : List ℕ) (xs : List X) (o : Option (X × List ℕ)) → Leaves go → ((m : List ℕ) (x : X) → o ≡ Some (x, m) → Tail l m) → behind go o ≡ Some (xs, r) → Tail l r
  unfolding behind also rest_of
  behind_leaves go l r xs None s t h = never h
  behind_leaves go l r xs (Some (x, [])) s t h = never h
  behind_leaves go l r xs (Some (x, c ∷ m)) s t h = closed (eqb c 41) (eqb c 32) (go m) refl h
    where
      closed : (a b : Bool) (o : Option (List X × List ℕ)) → go m ≡ o → cond a (Some (x ∷ [], m)) (cond b (also x o) None) ≡ Some (xs, r) → Tail l r
      closed true b o q d = let u : m ≡ r = ap rest_of d in rw u at (on (t (c ∷ m) x refl) one)
      closed false true None q d = never d
      closed false true (Some (ys, k)) q d = let u : k ≡ r = ap rest_of d in rw u at (on (t (c ∷ m) x refl) (more (s m k ys q)))
      closed false false o q d = never d

  module _ (p : Reader X) (leaves : Leaves p) where
    up_to_leaves : (k : ℕ) → Leaves (up_to p k)
    unfolding up_to
    up_to_leaves zero l r xs h = never h
    up_to_leaves (suc k) l r xs h = behind_leaves (up_to p k) l r xs (p l) (up_to_leaves k) (leaves l) h

    inside_leaves : Leaves (inside p)
    unfolding inside listed rest_of
    inside_leaves [] r xs h = never h
    inside_leaves (c ∷ l) r xs h = go (eqb c 41) h
      where
        go : (a : Bool) → cond a (Some ([], l)) (up_to p (length (c ∷ l)) (c ∷ l)) ≡ Some (xs, r) → Tail (c ∷ l) r
        go true d = let u : r ≡ l = ap rest_of (sym d) in rw u one
        go false d = up_to_leaves (length (c ∷ l)) (c ∷ l) r xs d

    -- a list in brackets is again something that a list can hold: rows in a table
    pub bracketed_leaves : Leaves (bracketed p)
    unfolding bracketed
    bracketed_leaves [] r xs h = never h
    bracketed_leaves (b ∷ l) r xs h = go (eqb b 40) h
      where
        go : (a : Bool) → cond a (inside p l) None ≡ Some (xs, r) → Tail (b ∷ l) r
        go true d = more (inside_leaves l r xs d)
        go false d = never d

-- ---- a walk over the list at `at`, which has made a of the things before
module _ {X A : Type 0} (step : A → X → A) (p : Reader X) (leaves : Leaves p) (s : List ℕ) (at : ℕ) (a : A) where
  rest_is : listed p (drop at s) ≡ behind (listed p) (p (drop at s))
  rest_is = listed_is p leaves (drop at s)

  pub walk_refused : p (drop at s) ≡ None → told step a s (listed p (drop at s)) ≡ None
  unfolding told behind
  walk_refused h = rw (rest_is, h)

  module _ (x : X) (e : ℕ) (g : Got p s at x e) where
    pub walk_ends : length s ≤ e → told step a s (listed p (drop at s)) ≡ None
    unfolding told behind
    walk_ends h = rw (rest_is, g.left, drop_of_length-le s h)

    steps : e < length s → listed p (drop at s) ≡ behind (listed p) (Some (x, get_or s e 0 ∷ drop (e + 1) s))
    steps h = rest_is ∙ ap (behind (listed p)) (g.left ∙ ap (λ (m : List ℕ). Some (x, m)) (rw (add-one, drop-cons s e 0)))

    pub walk_closed : e < length s → get_or s e 0 ≡ 41 → told step a s (listed p (drop at s)) ≡ Some (step a x, e + 1)
    unfolding told after behind
    walk_closed h q = rw (steps h, q, place s (e + 1) (omega arith))

    pub walk_more : e < length s → get_or s e 0 ≡ 32 → told step (step a x) s (listed p (drop (e + 1) s)) ≡ told step a s (listed p (drop at s))
    unfolding told after behind also
    walk_more h q = rw (steps h, q) (go (listed p (drop (e + 1) s)))
      where
        go : (o : Option (List X × List ℕ)) → told step (step a x) s o ≡ told step a s (also x o)
        go None = refl
        go (Some (xs, l)) = refl

    pub walk_other : e < length s → (get_or s e 0 ≡ 41 → ⊥) → (get_or s e 0 ≡ 32 → ⊥) → told step a s (listed p (drop at s)) ≡ None
    unfolding told behind
    walk_other h q r = rw (steps h, ne_eqb _ _ q, ne_eqb _ _ r)

  -- ---- in brackets
  pub bracket_ends : length s ≤ at → told step a s (bracketed p (drop at s)) ≡ None
  unfolding told bracketed
  bracket_ends h = rw (drop_of_length-le s h)

  module _ (h : at < length s) where
    opens : drop at s ≡ get_or s at 0 ∷ drop (at + 1) s
    opens = rw (add-one, drop-cons s at 0)

    pub bracket_other : (get_or s at 0 ≡ 40 → ⊥) → told step a s (bracketed p (drop at s)) ≡ None
    unfolding told bracketed
    bracket_other g = rw (opens, ne_eqb _ _ g)

    module _ (g : get_or s at 0 ≡ 40) where
      pub bracket_open : length s ≤ at + 1 → told step a s (bracketed p (drop at s)) ≡ None
      unfolding told bracketed inside
      bracket_open k = rw (opens, g, drop_of_length-le s k)

      module _ (k : at + 1 < length s) where
        opens' : drop (at + 1) s ≡ get_or s (at + 1) 0 ∷ drop (at + 1 + 1) s
        opens' = drop-cons s (at + 1) 0 k ∙ rw (add-one (at + 1))

        pub bracket_empty : get_or s (at + 1) 0 ≡ 41 → told step a s (bracketed p (drop at s)) ≡ Some (a, at + 2)
        unfolding told after bracketed inside
        bracket_empty q = let e : at + 2 ≡ at + 1 + 1 = omega arith in rw (e, opens, g, opens', q, place s (at + 1 + 1) (omega arith))

        pub bracket_full : (get_or s (at + 1) 0 ≡ 41 → ⊥) → told step a s (listed p (drop (at + 1) s)) ≡ told step a s (bracketed p (drop at s))
        unfolding bracketed inside
        bracket_full q = rw (opens, g, opens', ne_eqb _ _ q)
