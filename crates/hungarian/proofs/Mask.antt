-- A turn as the code takes it is a turn of the definition: minv with `out` at the columns that are used. Any numbers with the three laws of `out`.
use mathlib.Core.Path.{◌≡◌, refl, sym, ap, ap₂, ◌∙◌}
use mathlib.Core.Bool.{Bool, true, false, cond}
use mathlib.Core.List.{List, [], ◌∷◌}
use Prim.Native.Nat.{ℕ, zero, suc, ◌+◌, ◌≤◌, ◌<◌}
use native.Mathlib.Omega.{arith}
use lib.ListN.{get_or, set, length}
use lib.Seq.{set-get_or}
use Rattle.kuhn_munkres.specs.Ops.{Ops}
use Rattle.kuhn_munkres.specs.Steps.{State, relax, scan, shift_at, shift}
use Rattle.kuhn_munkres.proofs.Ranges.{shift_p}
use Rattle.kuhn_munkres.proofs.Places.{scan_kept, scan_ahead, scan_looked, cur}
use mathlib.Core.Logic.{inr}
use Rattle.hungarian.specs.Passes.{Two, Least, Pots, relax_at, relaxed, better, chosen, lowered, pay_at, paid, two, pots}

pub record Outside {N : Type 0} (O : Ops N) : Type 0 where
  pub not_below : (x : N) → O.lt x O.out ≡ false
  pub not_above : (x : N) → O.lt O.out x ≡ false
  pub stays : (x : N) → O.sub O.out x ≡ O.out

module _ {N : Type 0} (O : Ops N) where
  unfoldable pub mask : List Bool → List N → List N
  mask [] m = m
  mask (b ∷ bs) [] = []
  mask (b ∷ bs) (x ∷ xs) = cond b O.out x ∷ mask bs xs

  cond_same : {A : Type 0} (b : Bool) (x : A) → x ≡ cond b x x
  cond_same true x = refl
  cond_same false x = refl

  pub mask_at : (us : List Bool) (m : List N) (j : ℕ) → get_or (mask us m) j O.out ≡ cond (get_or us j false) O.out (get_or m j O.out)
  unfolding mask
  mask_at [] m j = refl
  mask_at (b ∷ bs) [] j = cond_same (get_or (b ∷ bs) j false) O.out
  mask_at (b ∷ bs) (x ∷ xs) zero = refl
  mask_at (b ∷ bs) (x ∷ xs) (suc j) = mask_at bs xs j

  -- a store at a column that is not used
  pub mask_set : (us : List Bool) (m : List N) (j : ℕ) (x : N) → get_or us j false ≡ false → set (mask us m) j x ≡ mask us (set m j x)
  unfolding mask
  mask_set [] m j x h = refl
  mask_set (b ∷ bs) [] j x h = refl
  mask_set (b ∷ bs) (y ∷ ys) zero x h = rw h
  mask_set (b ∷ bs) (y ∷ ys) (suc j) x h = ap (λ (l : List N). cond b O.out y ∷ l) (mask_set bs ys j x h)

  -- marking a column
  pub mask_mark : (us : List Bool) (m : List N) (j : ℕ) → j < length us → set (mask us m) j O.out ≡ mask (set us j true) m
  unfolding mask
  mask_mark [] m j h = absurd (omega (arith, h))
  mask_mark (b ∷ bs) [] zero h = refl
  mask_mark (b ∷ bs) [] (suc j) h = refl
  mask_mark (b ∷ bs) (y ∷ ys) zero h = refl
  mask_mark (b ∷ bs) (y ∷ ys) (suc j) h = ap (λ (l : List N). cond b O.out y ∷ l) (mask_mark bs ys j (omega arith))

  module _ (L : Outside O) where
    -- column j, used or not
    relax_used : (us : List Bool) (m : List N) (w : List ℕ) (j : ℕ) (x : N) (j0 : ℕ) → get_or us j false ≡ true → relax_at O j x j0 (two (mask us m) w) ≡ two (mask us m) w
    relax_used us m w j x j0 h =
        let e : get_or (mask us m) j O.out ≡ O.out = mask_at us m j ∙ ap (λ (b : Bool). cond b O.out (get_or m j O.out)) h in
        let f : O.lt x (get_or (mask us m) j O.out) ≡ false = ap (O.lt x) e ∙ L.not_below x in
        ap (λ (b : Bool). two (set (mask us m) j (cond b x (get_or (mask us m) j O.out))) (set w j (cond b j0 (get_or w j 0)))) f
        ∙ ap₂ two (set-get_or (mask us m) j O.out) (set-get_or w j 0)

    relax_free : (us : List Bool) (m : List N) (w : List ℕ) (j : ℕ) (x : N) (j0 : ℕ) → get_or us j false ≡ false
        → let b = O.lt x (get_or m j O.out) in relax_at O j x j0 (two (mask us m) w) ≡ two (mask us (cond b (set m j x) m)) (cond b (set w j j0) w)
    relax_free us m w j x j0 h =
        let e : get_or (mask us m) j O.out ≡ get_or m j O.out = mask_at us m j ∙ ap (λ (b : Bool). cond b O.out (get_or m j O.out)) h in
        ap (λ (y : N). two (set (mask us m) j (cond (O.lt x y) x y)) (set w j (cond (O.lt x y) j0 (get_or w j 0)))) e
        ∙ by (O.lt x (get_or m j O.out))
      where
        by : (b : Bool) → two (set (mask us m) j (cond b x (get_or m j O.out))) (set w j (cond b j0 (get_or w j 0))) ≡ two (mask us (cond b (set m j x) m)) (cond b (set w j j0) w)
        by true = ap (λ (l : List N). two l (set w j j0)) (mask_set us m j x h)
        by false = ap₂ two (mask_set us m j (get_or m j O.out) h ∙ ap (mask us) (set-get_or m j O.out)) (set-get_or w j 0)

    module _ (a : ℕ → N) (ui : N) (s : State N) where
      abbrev S : ℕ → State N
      S k = scan O a ui s k

      -- the first pass
      pub scan_two : (k : ℕ) → relaxed O a ui s.v s.j0 (two (mask s.used s.minv) s.way) k ≡ two (mask s.used (S k).minv) (S k).way
      unfolding relaxed scan relax
      scan_two zero = refl
      scan_two (suc k) = ap (λ (t : Two N). relax_at O (k + 1) (cur O a ui s (k + 1)) s.j0 t) (scan_two k) ∙ go (get_or s.used (k + 1) false) refl
        where
          go : (u : Bool) → get_or s.used (k + 1) false ≡ u
              → relax_at O (k + 1) (cur O a ui s (k + 1)) s.j0 (two (mask s.used (S k).minv) (S k).way)
              ≡ two (mask s.used (cond u (S k) (relax O (k + 1) (cur O a ui s (k + 1)) (S k))).minv) (cond u (S k) (relax O (k + 1) (cur O a ui s (k + 1)) (S k))).way
          go true e = relax_used s.used (S k).minv (S k).way (k + 1) (cur O a ui s (k + 1)) s.j0 e
          go false e =
              relax_free s.used (S k).minv (S k).way (k + 1) (cur O a ui s (k + 1)) s.j0 e
              ∙ ap (λ (i : ℕ). two (mask s.used (cond (O.lt (cur O a ui s (k + 1)) (get_or (S k).minv (k + 1) O.out)) (set (S k).minv (k + 1) (cur O a ui s (k + 1))) (S k).minv)) (cond (O.lt (cur O a ui s (k + 1)) (get_or (S k).minv (k + 1) O.out)) (set (S k).way (k + 1) i) (S k).way)) (sym (scan_kept O a ui s k).j0_is)

      abbrev least : ℕ → Least N
      least k = record { delta = (S k).delta; j1 = (S k).j1 }

      -- the second pass, over what the first leaves of n columns
      pub scan_least : (n k : ℕ) → k ≤ n → n < length s.minv → n < length s.way → s.delta ≡ O.top → s.j1 ≡ 0 → chosen O (mask s.used (S n).minv) k ≡ least k
      unfolding chosen scan relax
      scan_least n zero h l w d i = ap₂ (λ (x : N) (y : ℕ). record { delta = x; j1 = y }) (sym d) (sym i)
      scan_least n (suc k) h l w d i = ap (λ (t : Least N). better O (k + 1) (get_or (mask s.used (S n).minv) (k + 1) O.out) t) (scan_least n k (omega arith) l w d i) ∙ go (get_or s.used (k + 1) false) refl
        where
          go : (u : Bool) → get_or s.used (k + 1) false ≡ u
              → better O (k + 1) (get_or (mask s.used (S n).minv) (k + 1) O.out) (least k)
              ≡ record { delta = (cond u (S k) (relax O (k + 1) (cur O a ui s (k + 1)) (S k))).delta; j1 = (cond u (S k) (relax O (k + 1) (cur O a ui s (k + 1)) (S k))).j1 }
          go true e =
              ap (λ (x : N). better O (k + 1) x (least k)) (mask_at s.used (S n).minv (k + 1) ∙ ap (λ (b : Bool). cond b O.out (get_or (S n).minv (k + 1) O.out)) e)
              ∙ ap (λ (b : Bool). record { delta = cond b O.out (S k).delta; j1 = cond b (k + 1) (S k).j1 }) (L.not_above (S k).delta)
          go false e =
              ap (λ (x : N). better O (k + 1) x (least k))
              (mask_at s.used (S n).minv (k + 1) ∙ ap (λ (b : Bool). cond b O.out (get_or (S n).minv (k + 1) O.out)) e
              ∙ (scan_looked O a ui s n (k + 1) (omega arith) (omega arith) e (omega arith) (omega arith)).minv_is
              ∙ ap (λ (x : N). cond (O.lt (cur O a ui s (k + 1)) x) (cur O a ui s (k + 1)) x) (sym (scan_ahead O a ui s k (k + 1) (inr (omega arith))).minv_was))

    -- ---- the step by delta
    module _ (s : State N) where
      pub shift_used : (k : ℕ) → (shift O s k).used ≡ s.used
      unfolding shift shift_at
      shift_used zero = refl
      shift_used (suc k) = shift_used k

      pub shift_delta : (k : ℕ) → (shift O s k).delta ≡ s.delta
      unfolding shift shift_at
      shift_delta zero = refl
      shift_delta (suc k) = shift_delta k

      pub shift_paid : (k : ℕ) → paid O s.used s.p s.delta (pots s.u s.v) k ≡ pots (shift O s k).u (shift O s k).v
      unfolding paid shift shift_at
      shift_paid zero = refl
      shift_paid (suc k) = ap (λ (t : Pots N). pay_at O s.used s.p s.delta k t) (shift_paid k) ∙ rw (shift_used k, shift_p O s k, shift_delta k)

      pub shift_lowered : (k : ℕ) → lowered O s.delta (mask s.used s.minv) k ≡ mask s.used (shift O s k).minv
      unfolding lowered shift shift_at
      shift_lowered zero = refl
      shift_lowered (suc k) =
          ap (λ (t : List N). set t k (O.sub (get_or t k O.out) s.delta)) (shift_lowered k)
          ∙ go (get_or s.used k false) refl
          ∙ rw (shift_used k, shift_delta k)
        where
          go : (u : Bool) → get_or s.used k false ≡ u
              → set (mask s.used (shift O s k).minv) k (O.sub (get_or (mask s.used (shift O s k).minv) k O.out) s.delta)
              ≡ mask s.used (cond u (shift O s k).minv (set (shift O s k).minv k (O.sub (get_or (shift O s k).minv k O.out) s.delta)))
          go true e =
              let x : get_or (mask s.used (shift O s k).minv) k O.out ≡ O.out = mask_at s.used (shift O s k).minv k ∙ ap (λ (b : Bool). cond b O.out (get_or (shift O s k).minv k O.out)) e in
              ap (λ (y : N). set (mask s.used (shift O s k).minv) k y) (ap (λ (y : N). O.sub y s.delta) x ∙ L.stays s.delta ∙ sym x)
              ∙ set-get_or (mask s.used (shift O s k).minv) k O.out
          go false e =
              let x : get_or (mask s.used (shift O s k).minv) k O.out ≡ get_or (shift O s k).minv k O.out = mask_at s.used (shift O s k).minv k ∙ ap (λ (b : Bool). cond b O.out (get_or (shift O s k).minv k O.out)) e in
              ap (λ (y : N). set (mask s.used (shift O s k).minv) k (O.sub y s.delta)) x
              ∙ mask_set s.used (shift O s k).minv k (O.sub (get_or (shift O s k).minv k O.out) s.delta) e
