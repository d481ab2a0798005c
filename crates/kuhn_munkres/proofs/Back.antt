-- What stands at each place after the walk back: a column on the path has the row of the column before it, every other its own.
use mathlib.Core.Path.{◌≡◌, refl, sym, ap, ◌∙◌, subst}
use mathlib.Core.Logic.{◌⊎◌, inl, inr}
use mathlib.Core.Bool.{Bool}
use mathlib.Core.List.{List}
use Prim.Native.Nat.{ℕ, suc, ◌≤◌, ◌<◌}
use native.Mathlib.Decide.{ℕ_discrete}
use native.Mathlib.Omega.{arith}
use borrow.Author.Tests.{eq-eqb, ne_eqb}
use lib.ListN.{get_or, set, length, length-set}
use lib.Seq.{get_or-set_same, get_or-set_other}
use Rattle.kuhn_munkres.specs.Ops.{Ops}
use Rattle.kuhn_munkres.specs.Steps.{back, ended}

-- i is on the path from j, of at most k columns
pub data On (way : List ℕ) : ℕ → ℕ → Type 0 where
  here : {j : ℕ} → On way j j
  there : {j i : ℕ} → (get_or way j 0 ≡ 0 → ⊥) → On way (get_or way j 0) i → On way j i

module _ {N : Type 0} (O : Ops N) (way : List ℕ) (time : ℕ → ℕ) (L : ℕ) where
  -- from j the path goes down in time, within the list, to 0
  pub data Down : ℕ → ℕ → Type 0 where
    last : {j : ℕ} → 0 < j → j < L → get_or way j 0 ≡ 0 → Down 1 j
    more : {k j : ℕ} → 0 < j → j < L → (get_or way j 0 ≡ 0 → ⊥) → time (get_or way j 0) < time j → Down k (get_or way j 0) → Down (suc k) j

  time_le : {k j i : ℕ} → Down k j → On way j i → time i ≤ time j
  time_le d here = omega arith
  time_le (last z h e) (there g o) = absurd (g e)
  time_le (more {k = k} z h g t d) (there g' o) = let r = time_le {k = k} d o in omega arith

  -- the next one after a column of the path is never a column that is above it
  next_not : {k j i : ℕ} (c : ℕ) → 0 < c → Down k j → On way j i → time j < time c → get_or way i 0 ≡ c → ⊥
  next_not c z (last y h e) here t w = omega arith
  next_not c z (last y h e) (there g o) t w = absurd (g e)
  next_not c z (more y h g t' d) here t w = let r : time (get_or way _ 0) ≡ time c = ap time w in omega arith
  next_not c z (more y h g t' d) (there g' o) t w = next_not c z d o (omega arith) w

  not_on : {k : ℕ} (j : ℕ) → time (get_or way j 0) < time j → Down k (get_or way j 0) → On way (get_or way j 0) j → ⊥
  not_on j t d o = let r = time_le d o in omega arith

  -- a turn
  pub back_last : (k : ℕ) (p : List ℕ) (j : ℕ) → get_or way j 0 ≡ 0 → back O (suc k) way p j ≡ set p j (get_or p (get_or way j 0) 0)
  unfolding back
  back_last k p j e = ap (λ (b : Bool). ended O b (set p j (get_or p (get_or way j 0) 0)) (back O k way (set p j (get_or p (get_or way j 0) 0)) (get_or way j 0))) (eq-eqb (get_or way j 0) 0 e)

  pub back_more : (k : ℕ) (p : List ℕ) (j : ℕ) → (get_or way j 0 ≡ 0 → ⊥) → back O (suc k) way p j ≡ back O k way (set p j (get_or p (get_or way j 0) 0)) (get_or way j 0)
  unfolding back
  back_more k p j g = ap (λ (b : Bool). ended O b (set p j (get_or p (get_or way j 0) 0)) (back O k way (set p j (get_or p (get_or way j 0) 0)) (get_or way j 0))) (ne_eqb (get_or way j 0) 0 g)

  pub back_off : {k j : ℕ} (p : List ℕ) → Down k j → (i : ℕ) → (On way j i → ⊥) → get_or (back O k way p j) i 0 ≡ get_or p i 0
  back_off {j} p (last z h e) i f = rw (back_last 0 p j e) (get_or-set_other p j i (get_or p (get_or way j 0) 0) 0 (λ w. f (subst (λ (x : ℕ). On way j x) (sym w) here)))
  back_off {j} p (more {k = k'} z h g t d) i f =
      rw (back_more k' p j g) (back_off (set p j (get_or p (get_or way j 0) 0)) d i (λ o. f (there g o)) ∙ get_or-set_other p j i (get_or p (get_or way j 0) 0) 0 (λ w. f (subst (λ (x : ℕ). On way j x) (sym w) here)))

  pub back_at : {k j : ℕ} (p : List ℕ) → L ≤ length p → Down k j → (i : ℕ) → On way j i → get_or (back O k way p j) i 0 ≡ get_or p (get_or way i 0) 0
  back_at {j} p l (last z h e) i here = rw (back_last 0 p j e) (get_or-set_same p j (get_or p (get_or way j 0) 0) 0 (omega arith))
  back_at p l (last z h e) i (there g o) = absurd (g e)
  back_at {j} p l (more {k = k'} z h g t d) i here =
      rw (back_more k' p j g) (back_off (set p j (get_or p (get_or way j 0) 0)) d j (not_on j t d) ∙ get_or-set_same p j (get_or p (get_or way j 0) 0) 0 (omega arith))
  back_at {j} p l (more {k = k'} z h g t d) i (there g' o) =
      rw (back_more k' p j g)
      (back_at (set p j (get_or p (get_or way j 0) 0)) (rw length-set l) d i o ∙ get_or-set_other p j (get_or way i 0) (get_or p (get_or way j 0) 0) 0 (next_not j z d o t))

  -- ---- the path as a set of columns
  -- no column of the path leads to its head
  not_head : {k j i : ℕ} → 0 < j → Down k j → On way j i → get_or way i 0 ≡ j → ⊥
  not_head y (last z h e) here w = omega arith
  not_head y (last z h e) (there g o) w = absurd (g e)
  not_head y (more z h g t d) here w = let r : time (get_or way _ 0) ≡ time _ = ap time w in omega arith
  not_head y (more z h g t d) (there g' o) w = next_not _ y d o t w

  pos : (m : ℕ) → (m ≡ 0 → ⊥) → 0 < m
  pos m g = omega arith

  -- two columns of the path that lead to the same place are one
  pub same_next : {k j a b : ℕ} → Down k j → On way j a → On way j b → get_or way a 0 ≡ get_or way b 0 → a ≡ b
  same_next d here here e = refl
  same_next (last z h e') here (there g o) e = absurd (g e')
  same_next (more z h g t d) here (there g' o) e = absurd (not_head (pos _ g) d o (sym e))
  same_next (last z h e') (there g o) b e = absurd (g e')
  same_next (more z h g t d) (there g' o) here e = absurd (not_head (pos _ g) d o e)
  same_next (more {k = k} z h g t d) (there g' o) (there g'' q) e = same_next {k = k} d o q e

  -- what a column of the path leads to is on the path, or 0
  pub next_on : {k j i : ℕ} → Down k j → On way j i → (get_or way i 0 ≡ 0) ⊎ On way j (get_or way i 0)
  next_on (last z h e) here = inl e
  next_on (last z h e) (there g o) = absurd (g e)
  next_on (more z h g t d) here = inr (there g here)
  next_on (more z h g t d) (there g' o) = elim (next_on d o) [ inl e ↦ inl e | inr q ↦ inr (there g q) ]

  -- a column of the path is its head or on the rest
  split_on : {j i : ℕ} → On way j i → (i ≡ j) ⊎ ((get_or way j 0 ≡ 0 → ⊥) × On way (get_or way j 0) i)
  split_on here = inl refl
  split_on (there g o) = inr (g, o)

  head_on : (j i : ℕ) → i ≡ j → On way j i
  head_on j i q = subst (λ (x : ℕ). On way j x) (sym q) here

  pub on? : {k j : ℕ} → Down k j → (i : ℕ) → Dec (On way j i)
  on? {j} (last z h e) i = go (ℕ_discrete i j)
    where
      go : Dec (i ≡ j) → Dec (On way j i)
      go (yes q) = yes (head_on j i q)
      go (no q) = no (λ o. elim (split_on o) [ inl w ↦ q w | inr w ↦ w.0 e ])
  on? {j} (more z h g t d) i = go (ℕ_discrete i j) (on? d i)
    where
      go : Dec (i ≡ j) → Dec (On way (get_or way j 0) i) → Dec (On way j i)
      go (yes q) r = yes (head_on j i q)
      go (no q) (yes r) = yes (there g r)
      go (no q) (no r) = no (λ o. elim (split_on o) [ inl w ↦ q w | inr w ↦ r w.1 ])
