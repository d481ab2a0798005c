-- The search never runs out of turns, whatever the numbers: each turn uses up a column. It asks only that the top is not finite.
use mathlib.Core.Path.{◌≡◌, refl, sym, ap, ◌∙◌}
use mathlib.Core.Logic.{◌⊎◌, inl, inr}
use mathlib.Core.Bool.{Bool, true, false, cond, true≢false}
use mathlib.Core.List.{List}
use Prim.Native.Nat.{ℕ, zero, suc, ◌+◌, ◌≤◌, ◌<◌, zero-le}
use native.Mathlib.Decide.{ℕ_discrete}
use native.Mathlib.Omega.{arith}
use lib.Dec.{eqb}
use lib.ListN.{get_or, set, length, length-set}
use lib.Seq.{get_or-set_same, get_or-set_other}
use Rattle.kuhn_munkres.specs.Ops.{Ops}
use Rattle.kuhn_munkres.specs.Steps.{State, Search, found, stopped, spent, relax, scan, mark, look, step, turned, search, start, enter, leave, rows, size}
use Rattle.kuhn_munkres.proofs.Marks.{all_alike}
use Rattle.kuhn_munkres.proofs.Kept.{turn_used, turn_j0}

-- how many of the first k places are not marked
pub unmarked : List Bool → ℕ → ℕ
unmarked l zero = 0
unmarked l (suc k) = cond (get_or l k false) 0 1 + unmarked l k

unmarked_ahead : (l : List Bool) (j k : ℕ) → k ≤ j → unmarked (set l j true) k ≡ unmarked l k
unfolding unmarked
unmarked_ahead l j zero h = refl
unmarked_ahead l j (suc k) h = rw (get_or-set_other l j k true false (apart k h), unmarked_ahead l j k (omega arith))
  where
    apart : (k : ℕ) → suc k ≤ j → k ≡ j → ⊥
    apart k h e = omega arith

unmarked_set : (l : List Bool) (j k : ℕ) → j < k → j < length l → get_or l j false ≡ false → unmarked l k ≡ suc (unmarked (set l j true) k)
unfolding unmarked
unmarked_set l j zero h m f = absurd (none h)
  where
    none : j < 0 → ⊥
    none h = omega arith
unmarked_set l j (suc k) h m f = go (ℕ_discrete k j) (λ q. unmarked_set l j k q m f)
  where
    go : Dec (k ≡ j) → (j < k → unmarked l k ≡ suc (unmarked (set l j true) k)) → cond (get_or l k false) 0 1 + unmarked l k ≡ suc (cond (get_or (set l j true) k false) 0 1 + unmarked (set l j true) k)
    go (yes e) ih = rw (e, f, get_or-set_same l j true false m, unmarked_ahead l j j (omega arith)) (omega arith)
    go (no g) ih = rw (get_or-set_other l j k true false g) (omega (arith, ih (omega arith)))

module _ {N : Type 0} (O : Ops N) where
  -- where the scan's step comes from, with no law of order
  pub From : State N → ℕ → State N → Type 0
  From s k t = ((t.delta ≡ s.delta) × (t.j1 ≡ s.j1)) ⊎ ((0 < t.j1) × (t.j1 ≤ k) × (get_or s.used t.j1 false ≡ false))

  scan_from : (a : ℕ → N) (ui : N) (s : State N) (k : ℕ) → From s k (scan O a ui s k)
  unfolding From scan relax
  scan_from a ui s zero = inl (refl, refl)
  scan_from a ui s (suc k) = go (get_or s.used (k + 1) false) refl (scan_from a ui s k)
    where
      t : State N
      t = scan O a ui s k

      cur : N
      cur = O.sub (O.sub (a (k + 1)) ui) (get_or s.v (k + 1) O.out)

      old : From s k t → From s (suc k) t
      old (inl x) = inl x
      old (inr x) = inr (x.0, let l = x.1 in omega arith, x.2)

      go : (b : Bool) → get_or s.used (k + 1) false ≡ b → From s k t → From s (suc k) (cond b t (relax O (k + 1) cur t))
      go true e h = old h
      go false e h = pick (O.lt (cond (O.lt cur (get_or t.minv (k + 1) O.out)) cur (get_or t.minv (k + 1) O.out)) t.delta) (old h)
        where
          m : N
          m = cond (O.lt cur (get_or t.minv (k + 1) O.out)) cur (get_or t.minv (k + 1) O.out)

          pick : (d : Bool) → From s (suc k) t
              → ((cond d m t.delta ≡ s.delta) × (cond d (k + 1) t.j1 ≡ s.j1)) ⊎ ((0 < cond d (k + 1) t.j1) × (cond d (k + 1) t.j1 ≤ suc k) × (get_or s.used (cond d (k + 1) t.j1) false ≡ false))
          pick true q = inr (omega arith, omega arith, e)
          pick false q = q

  module _ (top-not : O.finite O.top ≡ false) (a : ℕ → ℕ → N) (n : ℕ) where
    pub never_spent : (k : ℕ) (s : State N) → s.j0 ≤ n → get_or s.used s.j0 false ≡ false → n < length s.used → unmarked s.used (n + 1) ≤ k → search O a n k s ≡ spent → ⊥
    unfolding search look mark From
    never_spent zero s h f l c e = let x = unmarked_set s.used s.j0 (n + 1) (omega arith) (omega arith) f in omega arith
    never_spent (suc k) s h f l c e = go (O.finite t.delta) refl (eqb (get_or x.p x.j0 0) 0) e (scan_from (a i0) (get_or s.u i0 O.out) (mark O s) n) (never_spent k x)
      where
        i0 : ℕ
        i0 = get_or s.p s.j0 0

        t : State N
        t = look O a n s

        x : State N
        x = step O n t

        used_x : x.used ≡ set s.used s.j0 true
        used_x = turn_used O a n s

        j0_x : x.j0 ≡ t.j1
        j0_x = turn_j0 O a n s

        go : (b : Bool) → O.finite t.delta ≡ b → (free : Bool) → turned O b free x (search O a n k x) ≡ spent → From (mark O s) n t
            → (x.j0 ≤ n → get_or x.used x.j0 false ≡ false → n < length x.used → unmarked x.used (n + 1) ≤ k → search O a n k x ≡ spent → ⊥) → ⊥
        go false q free r w ih = let z : ◌≡◌ {A = ℕ} 0 1 = cc in omega arith
        go true q true r w ih = let z : ◌≡◌ {A = ℕ} 0 1 = cc in omega arith
        go true q false r (inl w) ih = true≢false (sym q ∙ ap O.finite w.0 ∙ top-not)
        go true q false r (inr w) ih =
            let c' = unmarked_set s.used s.j0 (n + 1) (omega arith) (omega arith) f in
            ih (rw j0_x w.1) (rw (used_x, j0_x) w.2) (rw (used_x, length-set) l) (rw used_x (omega arith)) r

    -- a square of n is smaller than the code's arrays
    module _ (fits : n < size) where
      unmarked_le : (l : List Bool) (k : ℕ) → unmarked l k ≤ k
      unfolding unmarked
      unmarked_le l zero = omega arith
      unmarked_le l (suc k) = go (get_or l k false) (unmarked_le l k)
        where
          go : (b : Bool) → unmarked l k ≤ k → cond b 0 1 + unmarked l k ≤ suc k
          go true h = omega arith
          go false h = omega arith

      start_ends : (i : ℕ) (s : State N) → search O a n (n + 1) (start O i s) ≡ spent → ⊥
      start_ends i s e = never_spent (n + 1) (start O i s) (unfold start in zero-le) (unfold start in all_alike false size 0) (unfold start in fits) (unmarked_le (start O i s).used (n + 1)) e

      pub rows_end : (k : ℕ) → rows O a n k ≡ spent → ⊥
      unfolding rows
      rows_end zero e = let z : ◌≡◌ {A = ℕ} 0 1 = cc in omega arith
      rows_end (suc k) e = go (rows O a n k) refl (rows_end k) e
        where
          left : (x : Search N) → (x ≡ spent → ⊥) → leave O n x ≡ spent → ⊥
          left (found y) h w = unfold leave in (let z : ◌≡◌ {A = ℕ} 0 1 = cc in omega arith)
          left stopped h w = unfold leave in (let z : ◌≡◌ {A = ℕ} 0 1 = cc in omega arith)
          left spent h w = h refl

          go : (x : Search N) → rows O a n k ≡ x → (rows O a n k ≡ spent → ⊥) → leave O n (enter O a n (k + 1) (rows O a n k)) ≡ spent → ⊥
          go (found s) q h w = left (enter O a n (k + 1) (found s)) (λ v. start_ends (k + 1) s (unfold enter in v)) (rw q at w)
          go stopped q h w = left stopped (λ v. let z : ◌≡◌ {A = ℕ} 0 1 = cc in omega arith) (unfold enter in (rw q at w))
          go spent q h w = h q
