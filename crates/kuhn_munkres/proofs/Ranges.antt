-- What keeps the indices in range, over any numbers.
use mathlib.Core.Path.{◌≡◌, refl, sym, ap, ap₂, ◌∙◌, subst}
use mathlib.Core.Bool.{Bool, true, false, cond}
use mathlib.Core.List.{List, [], ◌∷◌}
use Prim.Native.Nat.{ℕ, zero, suc, ◌+◌, ◌≤◌, zero-le}
use native.Mathlib.Omega.{arith}
use lib.Dec.{eqb, lit<}
use lib.ListN.{get_or, set, length, length-set}
use mathlib.Core.Logic.{inl, inr}
use native.Mathlib.Nat.{eq-or-lt_of_le}
use Rattle.kuhn_munkres.specs.Ops.{Ops}
use Rattle.kuhn_munkres.specs.Ranges.{Sane}
use Rattle.kuhn_munkres.specs.Steps.{State, relax, scan, shift_at, shift, mark, look, go_on, step, turned, search, Search, found, stopped, spent, ended, back, start, settle, fresh, enter, leave, rows}
use Rattle.kuhn_munkres.proofs.Marks.{all_alike}

pub cond_all : {A : Type 0} (P : A → Type 0) (b : Bool) (x y : A) → P x → P y → P (cond b x y)
cond_all P true x y p q = p
cond_all P false x y p q = q

module _ {N : Type 0} (O : Ops N) where
  pub shift_p : (s : State N) (k : ℕ) → (shift O s k).p ≡ s.p
  unfolding shift shift_at
  shift_p s zero = refl
  shift_p s (suc k) = shift_p s k

  -- every entry of a list keeps a property over a store
  pub set_all : {A : Type 0} (P : A → Type 0) (l : List A) (d : A) (j : ℕ) (x : A) → P x → ((k : ℕ) → P (get_or l k d)) → (k : ℕ) → P (get_or (set l j x) k d)
  set_all P [] d j x q h k = h k
  set_all P (y ∷ ys) d zero x q h zero = q
  set_all P (y ∷ ys) d zero x q h (suc k) = h (suc k)
  set_all P (y ∷ ys) d (suc j) x q h zero = h zero
  set_all P (y ∷ ys) d (suc j) x q h (suc k) = set_all P ys d j x q (λ i. h (suc i)) k

  pick_le : (b : Bool) (l : List ℕ) (n j x : ℕ) → x ≤ n → ((k : ℕ) → get_or l k 0 ≤ n) → (k : ℕ) → get_or (cond b (set l j x) l) k 0 ≤ n
  pick_le true l n j x q h k = set_all (λ y. y ≤ n) l 0 j x q h k
  pick_le false l n j x q h k = h k

  cond_le : (b : Bool) (x y n : ℕ) → x ≤ n → y ≤ n → cond b x y ≤ n
  cond_le true x y n p q = p
  cond_le false x y n p q = q

  pub relax_sane : (n j : ℕ) (cur : N) (s : State N) → j ≤ n → Sane n s → Sane n (relax O j cur s)
  unfolding relax
  relax_sane n j cur s h q =
      let b = O.lt cur (get_or s.minv j O.out) in
      let d = O.lt (cond b cur (get_or s.minv j O.out)) s.delta in
      record { p_some = q.p_some; p_le = q.p_le; way_le = pick_le b s.way n j s.j0 q.j0_le q.way_le; j0_le = q.j0_le; j1_le = cond_le d j s.j1 n h q.j1_le }

  pub scan_sane : (n : ℕ) (a : ℕ → N) (ui : N) (s : State N) (k : ℕ) → k ≤ n → Sane n s → Sane n (scan O a ui s k)
  unfolding scan
  scan_sane n a ui s zero h q = q
  scan_sane n a ui s (suc k) h q =
      let r = scan_sane n a ui s k (omega arith) q in
      cond_all (λ (t : State N). Sane n t) (get_or s.used (k + 1) false) (scan O a ui s k) _ r (relax_sane n (k + 1) _ (scan O a ui s k) (omega arith) r)

  pub mark_sane : (n : ℕ) (s : State N) → Sane n s → Sane n (mark O s)
  unfolding mark
  mark_sane n s q = record { p_some = q.p_some; p_le = q.p_le; way_le = q.way_le; j0_le = q.j0_le; j1_le = zero-le }

  pub look_sane : (n : ℕ) (a : ℕ → ℕ → N) (s : State N) → Sane n s → Sane n (look O a n s)
  unfolding look
  look_sane n a s q = scan_sane n (a (get_or s.p s.j0 0)) (get_or s.u (get_or s.p s.j0 0) O.out) (mark O s) n (omega arith) (mark_sane n s q)

  pub shift_sane : (n : ℕ) (s : State N) (k : ℕ) → Sane n s → Sane n (shift O s k)
  unfolding shift shift_at
  shift_sane n s zero q = q
  shift_sane n s (suc k) q = let r = shift_sane n s k q in record { p_some = r.p_some; p_le = r.p_le; way_le = r.way_le; j0_le = r.j0_le; j1_le = r.j1_le }

  pub go_on_sane : (n : ℕ) (s : State N) → Sane n s → Sane n (go_on O s)
  unfolding go_on
  go_on_sane n s q = record { p_some = q.p_some; p_le = q.p_le; way_le = q.way_le; j0_le = q.j1_le; j1_le = q.j1_le }

  pub step_sane : (n : ℕ) (s : State N) → Sane n s → Sane n (step O n s)
  unfolding step
  step_sane n s q = go_on_sane n (shift O s (n + 1)) (shift_sane n s (n + 1) q)

  -- ---- a turn of the search, from a state t after the look and a state x after the step
  module _ (a : ℕ → ℕ → N) (n k : ℕ) (s t : State N) (e : t ≡ look O a n s) where
    pub search_stop : O.finite t.delta ≡ false → search O a n (suc k) s ≡ stopped
    unfolding search
    search_stop h =
        ap (λ (b : Bool). turned O b (eqb (get_or (step O n (look O a n s)).p (step O n (look O a n s)).j0 0) 0) (step O n (look O a n s)) (search O a n k (step O n (look O a n s))))
        (ap (λ (x : State N). O.finite x.delta) (sym e) ∙ h)

    pub search_on : (x : State N) (free : Bool) → x ≡ step O n t → O.finite t.delta ≡ true → eqb (get_or x.p x.j0 0) 0 ≡ free
        → search O a n (suc k) s ≡ turned O true free x (search O a n k x)
    unfolding search
    search_on x free i h g =
        ap₂ (λ (b : Bool) (y : State N). turned O b (eqb (get_or y.p y.j0 0) 0) y (search O a n k y))
        (ap (λ (y : State N). O.finite y.delta) (sym e) ∙ h)
        (ap (λ (y : State N). step O n y) (sym e) ∙ sym i)
        ∙ ap (λ (b : Bool). turned O true b x (search O a n k x)) g

  -- ---- a turn of the walk back
  module _ (k : ℕ) (way p : List ℕ) (j : ℕ) where
    pub back_on : (end : Bool) → eqb (get_or way j 0) 0 ≡ end → back O (suc k) way p j ≡ ended O end (set p j (get_or p (get_or way j 0) 0)) (back O k way (set p j (get_or p (get_or way j 0) 0)) (get_or way j 0))
    unfolding back
    back_on end h = ap (λ (b : Bool). ended O b (set p j (get_or p (get_or way j 0) 0)) (back O k way (set p j (get_or p (get_or way j 0) 0)) (get_or way j 0))) h

  ended_all : (P : List ℕ → Type 0) (b : Bool) (p r : List ℕ) → P p → P r → P (ended O b p r)
  ended_all P true p r x y = x
  ended_all P false p r x y = y

  -- ---- what is found is in range too
  pub SaneS : ℕ → Search N → Type 0
  SaneS n (found s) = Sane n s
  SaneS n stopped = Unit
  SaneS n spent = Unit

  turned_sane : (n : ℕ) (b free : Bool) (s : State N) (r : Search N) → Sane n s → SaneS n r → SaneS n (turned O b free s r)
  unfolding SaneS
  turned_sane n false free s r p q = tt
  turned_sane n true true s r p q = p
  turned_sane n true false s r p q = q

  search_sane : (a : ℕ → ℕ → N) (n k : ℕ) (s : State N) → Sane n s → SaneS n (search O a n k s)
  unfolding SaneS search
  search_sane a n zero s q = tt
  search_sane a n (suc k) s q =
      let r = step_sane n (look O a n s) (look_sane n a s q) in
      let x = step O n (look O a n s) in
      turned_sane n (O.finite (look O a n s).delta) (eqb (get_or x.p x.j0 0) 0) x (search O a n k x) r (search_sane a n k (step O n (look O a n s)) r)

  pub found_sane : (a : ℕ → ℕ → N) (n k : ℕ) (s r : State N) → Sane n s → found r ≡ search O a n k s → Sane n r
  unfolding SaneS
  found_sane a n k s r q e = subst (λ (x : Search N). SaneS n x) (sym e) (search_sane a n k s q)

  back_le : (n k : ℕ) (way p : List ℕ) (j : ℕ) → ((i : ℕ) → get_or p i 0 ≤ n) → (i : ℕ) → get_or (back O k way p j) i 0 ≤ n
  unfolding back
  back_le n zero way p j h = h
  back_le n (suc k) way p j h =
      let p' = set p j (get_or p (get_or way j 0) 0) in
      let h' = set_all (λ (y : ℕ). y ≤ n) p 0 j (get_or p (get_or way j 0) 0) (h (get_or way j 0)) h in
      ended_all (λ (l : List ℕ). (i : ℕ) → get_or l i 0 ≤ n) (eqb (get_or way j 0) 0) p' (back O k way p' (get_or way j 0)) h' (back_le n k way p' (get_or way j 0) h')

  pub back_length : (k : ℕ) (way p : List ℕ) (j : ℕ) → length (back O k way p j) ≡ length p
  unfolding back
  back_length zero way p j = refl
  back_length (suc k) way p j =
      let p' = set p j (get_or p (get_or way j 0) 0) in
      let e = length-set p j (get_or p (get_or way j 0) 0) in
      ended_all (λ (l : List ℕ). length l ≡ length p) (eqb (get_or way j 0) 0) p' (back O k way p' (get_or way j 0)) e (back_length k way p' (get_or way j 0) ∙ e)

  pub settle_sane : (n : ℕ) (s : State N) → Sane n s → Sane n (settle O n s)
  unfolding settle
  settle_sane n s q =
      record {
        p_some = rw (back_length (n + 1) s.way s.p s.j0) q.p_some;
        p_le = back_le n (n + 1) s.way s.p s.j0 q.p_le;
        way_le = q.way_le;
        j0_le = q.j0_le;
        j1_le = q.j1_le;
      }

  pub start_sane : (n i : ℕ) (s : State N) → i ≤ n → Sane n s → Sane n (start O i s)
  unfolding start
  start_sane n i s h q =
      record { p_some = rw (length-set s.p 0 i) q.p_some; p_le = set_all (λ (y : ℕ). y ≤ n) s.p 0 0 i h q.p_le; way_le = q.way_le; j0_le = zero-le; j1_le = q.j1_le }

  pub fresh_sane : (n : ℕ) → Sane n (fresh O)
  unfolding fresh
  fresh_sane n =
      record { p_some = lit< tt; p_le = λ k. rw (all_alike {A = ℕ} 0 129 k) zero-le; way_le = λ k. rw (all_alike {A = ℕ} 0 129 k) zero-le; j0_le = zero-le; j1_le = zero-le }

  -- ---- once stopped, stopped
  pub rows_stopped : (a : ℕ → ℕ → N) (n k m : ℕ) → k ≤ m → rows O a n k ≡ stopped → rows O a n m ≡ stopped
  unfolding rows enter leave
  rows_stopped a n k zero h e = let z : k ≡ 0 = omega arith in rw z at e
  rows_stopped a n k (suc m) h e =
      elim (eq-or-lt_of_le h) [ inl z ↦ rw z at e | inr l ↦ ap (λ (x : Search N). leave O n (enter O a n (m + 1) x)) (rows_stopped a n k m (omega arith) e) ]

  pub rows_spent : (a : ℕ → ℕ → N) (n k m : ℕ) → k ≤ m → rows O a n k ≡ spent → rows O a n m ≡ spent
  unfolding rows enter leave
  rows_spent a n k zero h e = let z : k ≡ 0 = omega arith in rw z at e
  rows_spent a n k (suc m) h e =
      elim (eq-or-lt_of_le h) [ inl z ↦ rw z at e | inr l ↦ ap (λ (x : Search N). leave O n (enter O a n (m + 1) x)) (rows_spent a n k m (omega arith) e) ]
