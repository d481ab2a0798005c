-- What a mask leaves, as what a pass picks; a mask with no tick; what is put back by a mask, by its ticks.
use mathlib.Core.Path.{◌≡◌, refl, sym, ap, ap₂, ◌∙◌}
use mathlib.Core.Bool.{Bool, true, false, cond}
use mathlib.Core.List.{List, [], ◌∷◌}
use Prim.Native.Nat.{ℕ, zero, suc, ◌≤◌, ◌<◌}
use native.Mathlib.Omega.{arith}
use lib.ListN.{get_or, length, take}
use lib.Seq.{take_all}
use Rattle.lists.specs.First.{any}
use Rattle.lists.specs.Masks.{left_by, spread}
use Rattle.lists.proofs.Masks.{any_in, any_out}
use Rattle.kuhn_munkres.specs.Assignment.{same}
use Rattle.groups.specs.Picks.{add_if, picked, ticks}
use Rattle.groups.proofs.Picking.{ticks_some, some_tick, ticks_shift}

-- ---- a mask's pick
left_take : {A : Type 0} (d : A) (k : List Bool) (l : List A) (n : ℕ) → n < length k → n < length l → left_by (take (suc n) k) (take (suc n) l) ≡ add_if (get_or k n false) (get_or l n d) (left_by (take n k) (take n l))
unfolding left_by
left_take d [] l n h g = absurd (omega arith)
left_take d (b ∷ k) [] n h g = absurd (omega arith)
left_take d (true ∷ k) (x ∷ l) zero h g = refl
left_take d (false ∷ k) (x ∷ l) zero h g = refl
left_take d (true ∷ k) (x ∷ l) (suc n) h g = ap (λ (t : List _). x ∷ t) (left_take d k l n (omega arith) (omega arith)) ∙ out (get_or k n false)
  where
    out : (c : Bool) → x ∷ add_if c (get_or l n d) (left_by (take n k) (take n l)) ≡ add_if c (get_or l n d) (x ∷ left_by (take n k) (take n l))
    out true = refl
    out false = refl
left_take d (false ∷ k) (x ∷ l) (suc n) h g = left_take d k l n (omega arith) (omega arith)

left_upto : {A : Type 0} (d : A) (k : List Bool) (l : List A) (n : ℕ) → n ≤ length k → n ≤ length l → left_by (take n k) (take n l) ≡ picked (λ i. get_or k i false) (λ i. get_or l i d) n
unfolding picked left_by
left_upto d k l zero h g = refl
left_upto d k l (suc n) h g = left_take d k l n h g ∙ ap (add_if (get_or k n false) (get_or l n d)) (left_upto d k l n (omega arith) (omega arith))

pub left_picked : {A : Type 0} (d : A) (k : List Bool) (l : List A) (n : ℕ) → length k ≡ n → length l ≡ n → left_by k l ≡ picked (λ i. get_or k i false) (λ i. get_or l i d) n
left_picked d k l n h g = ap₂ (λ (a : List Bool) (b : List _). left_by a b) (sym (take_all n k (rw h (omega arith)))) (sym (take_all n l (rw g (omega arith)))) ∙ left_upto d k l n (rw h (omega arith)) (rw g (omega arith))

-- ---- a mask with something on it
pub not_true : (b : Bool) → (b ≡ true → ⊥) → b ≡ false
not_true true f = absurd (f refl)
not_true false f = refl

module _ (k : List Bool) (m : ℕ → Bool) (n : ℕ) (long : length k ≡ n) (like : (i : ℕ) → i < n → get_or k i false ≡ m i) where
  pub any_none : ticks m n ≡ 0 → any same k ≡ false
  any_none e = not_true (any same k) (λ q. let r = any_out k q in let l : r.0 < n = rw long at r.1 in omega (arith, ticks_some m n r.0 l (sym (like r.0 l) ∙ r.2)))

  pub any_some : (ticks m n ≡ 0 → ⊥) → any same k ≡ true
  any_some g = let r = some_tick m n (let h : 0 < ticks m n = omega (arith, g) in h) in any_in k r.0 (like r.0 r.1 ∙ r.2)

-- ---- putting back by a mask
pub spread_at : {A : Type 0} (d : A) (k : List Bool) (l t : List A) (j : ℕ) → length k ≡ length t → j < length t → ticks (λ i. get_or k i false) (length k) ≤ length l
    → get_or (spread k l t) j d ≡ cond (get_or k j false) (get_or l (ticks (λ i. get_or k i false) j) d) (get_or t j d)
unfolding spread
spread_at d [] l [] j e h q = absurd (omega arith)
spread_at d [] l (o ∷ t) j e h q = absurd (omega arith)
spread_at d (b ∷ k) l [] j e h q = absurd (omega arith)
spread_at d (true ∷ k) [] (o ∷ t) j e h q = absurd (omega (arith, q, ticks_shift (λ i. get_or (true ∷ k) i false) (length k)))
spread_at d (true ∷ k) (x ∷ l) (o ∷ t) zero e h q = unfold ticks in refl
spread_at d (true ∷ k) (x ∷ l) (o ∷ t) (suc j) e h q =
    let s = ticks_shift (λ i. get_or (true ∷ k) i false) j in
    let w : ticks (λ i. get_or (true ∷ k) i false) (suc j) ≡ suc (ticks (λ i. get_or k i false) j) = omega (arith, s) in
    spread_at d k l t j (omega arith) (omega arith) (omega (arith, q, ticks_shift (λ i. get_or (true ∷ k) i false) (length k))) ∙ rw w
spread_at d (false ∷ k) l (o ∷ t) zero e h q = refl
spread_at d (false ∷ k) l (o ∷ t) (suc j) e h q =
    let s = ticks_shift (λ i. get_or (false ∷ k) i false) j in
    let w : ticks (λ i. get_or (false ∷ k) i false) (suc j) ≡ ticks (λ i. get_or k i false) j = omega (arith, s) in
    spread_at d k l t j (omega arith) (omega arith) (omega (arith, q, ticks_shift (λ i. get_or (false ∷ k) i false) (length k))) ∙ rw w
