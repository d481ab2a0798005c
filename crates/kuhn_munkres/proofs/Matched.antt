-- The run gives no row to two columns, whatever the numbers: it asks only that the top is not finite, and that a finite step leaves it where it is.
use mathlib.Core.Path.{◌≡◌, refl, sym, ap, ◌∙◌, subst}
use mathlib.Core.Logic.{◌⊎◌, inl, inr}
use mathlib.Core.Bool.{Bool, true, false, cond, true≢false}
use mathlib.Core.List.{List}
use Prim.Native.Nat.{ℕ, zero, suc, ◌+◌, ◌≤◌, ◌<◌}
use native.Mathlib.Decide.{ℕ_discrete}
use native.Mathlib.Omega.{arith}
use borrow.Author.Tests.{eq-eqb, ne_eqb, eqb-true, eqb-false}
use lib.Dec.{eqb}
use lib.ListN.{get_or, set, length, length-set, get_or-replicate}
use lib.Seq.{get_or-set_same, get_or-set_other}
use Rattle.kuhn_munkres.specs.Ops.{Ops}
use Rattle.kuhn_munkres.specs.Ranges.{Sane}
use Rattle.kuhn_munkres.specs.Steps.{State, Search, found, stopped, spent, relax, scan, mark, look, go_on, step, turned, search, back, start, settle, fresh, enter, leave, rows, size}
use Rattle.kuhn_munkres.proofs.Marks.{all_alike, mark_set, mark_cases, mark_more, mark_less}
use Rattle.kuhn_munkres.proofs.Ranges.{look_sane, step_sane, start_sane, settle_sane, fresh_sane, back_length}
use Rattle.kuhn_munkres.proofs.Places.{Looked, scan_kept, scan_ahead, scan_used, scan_looked, shift_kept, shift_minv, cur, falls, best}
use Rattle.kuhn_munkres.proofs.Back.{On, here, there, Down, last, more, back_at, back_off, back_last, back_more, same_next, next_on, on?}
use Rattle.kuhn_munkres.proofs.Kept.{AllFound, all_map, search_p, look_used, turn_used, turn_way, turn_p, turn_j0}

module _ {N : Type 0} (O : Ops N) where
  -- where the scan's step comes from, with no law of order
  Picked : (ℕ → N) → N → State N → ℕ → State N → Type 0
  Picked a ui s k t = ((t.delta ≡ s.delta) × (t.j1 ≡ s.j1)) ⊎ ((0 < t.j1) × (t.j1 ≤ k) × (get_or s.used t.j1 false ≡ false) × (t.delta ≡ best O a ui s t.j1))

  scan_picks : (a : ℕ → N) (ui : N) (s : State N) (k : ℕ) → Picked a ui s k (scan O a ui s k)
  unfolding Picked scan relax
  scan_picks a ui s zero = inl (refl, refl)
  scan_picks a ui s (suc k) = go (get_or s.used (k + 1) false) refl (scan_picks a ui s k)
    where
      t : State N
      t = scan O a ui s k

      old : Picked a ui s k t → Picked a ui s (suc k) t
      old (inl x) = inl x
      old (inr x) = inr (x.0, let l = x.1 in omega arith, x.2, x.3)

      go : (b : Bool) → get_or s.used (k + 1) false ≡ b → Picked a ui s k t → Picked a ui s (suc k) (cond b t (relax O (k + 1) (cur O a ui s (k + 1)) t))
      go true e h = old h
      go false e h = rw was (pick (O.lt (best O a ui s (k + 1)) t.delta) (old h))
        where
          was : get_or t.minv (k + 1) O.out ≡ get_or s.minv (k + 1) O.out
          was = (scan_ahead O a ui s k (k + 1) (inr (omega arith))).minv_was

          pick : (d : Bool) → Picked a ui s (suc k) t
              → ((cond d (best O a ui s (k + 1)) t.delta ≡ s.delta) × (cond d (k + 1) t.j1 ≡ s.j1)) ⊎ ((0 < cond d (k + 1) t.j1) × (cond d (k + 1) t.j1 ≤ suc k) × (get_or s.used (cond d (k + 1) t.j1) false ≡ false) × (cond d (best O a ui s (k + 1)) t.delta ≡ best O a ui s (cond d (k + 1) t.j1)))
          pick true q = inr (omega arith, omega arith, e, refl)
          pick false q = q

  -- ---- what holds while a free column is looked for: t columns are used, each reached from an earlier one
  pub record Shape (n t : ℕ) (s : State N) : Type 0 where
    pub time : ℕ → ℕ
    pub sane : Sane n s
    pub used_long : n < length s.used
    pub way_long : n < length s.way
    pub minv_long : n < length s.minv
    pub off : get_or s.used s.j0 false ≡ false
    pub row : (k : ℕ) → get_or s.used k false ≡ true → get_or s.p k 0 ≡ 0 → ⊥
    pub one : (j k : ℕ) → j ≤ n → k ≤ n → (get_or s.p j 0 ≡ 0 → ⊥) → get_or s.p j 0 ≡ get_or s.p k 0 → j ≡ k
    pub tree : (j : ℕ) → 0 < j → j ≤ n → (get_or s.used j false ≡ true) ⊎ (j ≡ s.j0) → (get_or s.used (get_or s.way j 0) false ≡ true) × (time (get_or s.way j 0) < time j)
    pub edge : (j : ℕ) → 0 < j → j ≤ n → get_or s.used j false ≡ false → (get_or s.minv j O.out ≡ O.top) ⊎ (get_or s.used (get_or s.way j 0) false ≡ true)
    pub old : (k : ℕ) → get_or s.used k false ≡ true → time k < t
    pub new : time s.j0 ≡ t

  module _ (L1 : O.finite O.top ≡ false) (L2 : (d : N) → O.finite d ≡ true → O.sub O.top d ≡ O.top) (a : ℕ → ℕ → N) (n : ℕ) where
    -- ---- a turn
    module _ (t : ℕ) (s : State N) (S : Shape n t s) (fine : O.finite (look O a n s).delta ≡ true) (has : get_or s.p s.j0 0 ≡ 0 → ⊥) where
      abbrev i0 : ℕ
      i0 = get_or s.p s.j0 0

      abbrev ui : N
      ui = get_or s.u i0 O.out

      abbrev m : State N
      m = mark O s

      abbrev l : State N
      l = look O a n s

      abbrev x : State N
      x = step O n l

      l_is : l ≡ scan O (a i0) ui m n
      l_is = unfold look in refl

      j0_in : s.j0 < length s.used
      j0_in = let b = S.used_long in let c = S.sane.j0_le in omega arith

      on_j0 : get_or (set s.used s.j0 true) s.j0 false ≡ true
      on_j0 = mark_set s.used s.j0 j0_in

      on_cases : (k : ℕ) → get_or (set s.used s.j0 true) k false ≡ true → (k ≡ s.j0) ⊎ (get_or s.used k false ≡ true)
      on_cases = mark_cases s.used s.j0 j0_in

      on_more : (k : ℕ) → get_or s.used k false ≡ true → get_or (set s.used s.j0 true) k false ≡ true
      on_more = mark_more s.used s.j0 j0_in

      off_less : (k : ℕ) → get_or (set s.used s.j0 true) k false ≡ false → get_or s.used k false ≡ false
      off_less = mark_less s.used s.j0 j0_in

      abbrev used' : List Bool
      used' = set s.used s.j0 true

      x_used : x.used ≡ used'
      x_used = turn_used O a n s

      l_used : l.used ≡ used'
      l_used = look_used O a n s

      x_way : x.way ≡ l.way
      x_way = turn_way O a n s

      x_p : x.p ≡ s.p
      x_p = turn_p O a n s

      x_j0 : x.j0 ≡ l.j1
      x_j0 = turn_j0 O a n s

      minv_in : n < length l.minv
      minv_in = unfold look mark in (rw (scan_kept O (a i0) ui m n).minv_long S.minv_long)

      way_in : n < length x.way
      way_in = rw x_way (unfold look mark in (rw (scan_kept O (a i0) ui m n).way_long S.way_long))

      x_minv_long : n < length x.minv
      x_minv_long = unfold step go_on in (rw (shift_kept O l (n + 1)).m_long minv_in)

      -- a column that is used keeps its mark
      way_used : (j : ℕ) → get_or used' j false ≡ true → get_or x.way j 0 ≡ get_or s.way j 0
      way_used j h = ap (λ (w : List ℕ). get_or w j 0) x_way ∙ (unfold look mark in (scan_used O (a i0) ui (mark O s) n j (unfold mark in h)).way_was)

      -- the nearest column
      chosen : (0 < l.j1) × (l.j1 ≤ n) × (get_or used' l.j1 false ≡ false) × (l.delta ≡ best O (a i0) ui m l.j1)
      unfolding Picked look mark
      chosen = go (scan_picks (a i0) ui m n)
        where
          go : Picked (a i0) ui m n (scan O (a i0) ui m n) → (0 < l.j1) × (l.j1 ≤ n) × (get_or used' l.j1 false ≡ false) × (l.delta ≡ best O (a i0) ui m l.j1)
          go (inl q) = absurd (true≢false (sym fine ∙ ap O.finite q.0 ∙ L1))
          go (inr q) = q

      -- a column that is not used: its least is the top still, or its mark is fresh
      next_edge : (j : ℕ) → 0 < j → j ≤ n → get_or used' j false ≡ false → (get_or l.minv j O.out ≡ O.top) ⊎ (get_or used' (get_or l.way j 0) false ≡ true)
      unfolding look mark
      next_edge j z h f = go (falls O (a i0) ui m j) refl (S.edge j z h (off_less j f))
        where
          q : Looked O (a i0) ui m (scan O (a i0) ui m n) j
          q = scan_looked O (a i0) ui m n j z h f (let b = S.minv_long in omega arith) (let b = S.way_long in omega arith)

          go : (b : Bool) → falls O (a i0) ui m j ≡ b → (get_or s.minv j O.out ≡ O.top) ⊎ (get_or s.used (get_or s.way j 0) false ≡ true) → (get_or l.minv j O.out ≡ O.top) ⊎ (get_or used' (get_or l.way j 0) false ≡ true)
          go true e w = inr (rw (q.way_is ∙ ap (λ (b : Bool). cond b s.j0 (get_or s.way j 0)) e) on_j0)
          go false e (inl w) = inl (q.minv_is ∙ ap (λ (b : Bool). cond b (cur O (a i0) ui (mark O s) j) (get_or s.minv j O.out)) e ∙ w)
          go false e (inr w) = inr (rw (q.way_is ∙ ap (λ (b : Bool). cond b s.j0 (get_or s.way j 0)) e) (on_more (get_or s.way j 0) w))

      -- the mark of the nearest column is fresh
      fresh_mark : get_or used' (get_or l.way l.j1 0) false ≡ true
      unfolding look mark
      fresh_mark = go (next_edge l.j1 chosen.0 chosen.1 chosen.2)
        where
          q : Looked O (a i0) ui m (scan O (a i0) ui m n) l.j1
          q = scan_looked O (a i0) ui m n l.j1 chosen.0 chosen.1 chosen.2 (let b = S.minv_long in let d = chosen.1 in omega arith) (let b = S.way_long in let d = chosen.1 in omega arith)

          go : (get_or l.minv l.j1 O.out ≡ O.top) ⊎ (get_or used' (get_or l.way l.j1 0) false ≡ true) → get_or used' (get_or l.way l.j1 0) false ≡ true
          go (inl w) = absurd (true≢false (sym fine ∙ ap O.finite (chosen.3 ∙ sym q.minv_is ∙ w) ∙ L1))
          go (inr w) = w

      time' : ℕ → ℕ
      time' k = cond (eqb k l.j1) (suc t) (S.time k)

      time_new : time' l.j1 ≡ suc t
      time_new = unfold time' in (rw (eq-eqb l.j1 l.j1 refl))

      time_old : (k : ℕ) → (k ≡ l.j1 → ⊥) → time' k ≡ S.time k
      time_old k g = unfold time' in (rw (ne_eqb k l.j1 g))

      -- a used column is not the nearest one
      apart : (k : ℕ) → get_or used' k false ≡ true → k ≡ l.j1 → ⊥
      apart k h e = true≢false (sym h ∙ ap (λ (j : ℕ). get_or used' j false) e ∙ chosen.2)

      used_time : (k : ℕ) → get_or used' k false ≡ true → time' k < suc t
      used_time k h = rw (time_old k (apart k h)) (go (on_cases k h))
        where
          go : (k ≡ s.j0) ⊎ (get_or s.used k false ≡ true) → S.time k < suc t
          go (inl e) = rw (e, S.new) (omega arith)
          go (inr e) = let b = S.old k e in omega arith

      pub turn_pos : 0 < x.j0
      turn_pos = rw x_j0 chosen.0

      pub turn_shape : Shape n (suc t) x
      turn_shape = record {
        time = time';
        sane = step_sane O n l (look_sane O n a s S.sane);
        used_long = rw (x_used, length-set s.used s.j0 true) S.used_long;
        way_long = way_in;
        minv_long = x_minv_long;
        off = rw (x_used, x_j0) chosen.2;
        row = λ k h e. rowless k (rw x_used at h) (rw x_p at e);
        one = rw x_p S.one;
        tree = λ j z h w. rw x_used (trees j z h (rw (x_used, x_j0) at w));
        edge = λ j z h f. rw x_used (edges j z h (rw x_used at f));
        old = λ k h. used_time k (rw x_used at h);
        new = rw x_j0 time_new;
      }
        where
          rowless : (k : ℕ) → get_or used' k false ≡ true → get_or s.p k 0 ≡ 0 → ⊥
          rowless k h e = elim (on_cases k h) [ inl q ↦ has (rw q at e) | inr q ↦ S.row k q e ]

          lower : (j : ℕ) → get_or used' (get_or s.way j 0) false ≡ true → get_or used' j false ≡ true → S.time (get_or s.way j 0) < S.time j → time' (get_or s.way j 0) < time' j
          lower j h g w = rw (time_old (get_or s.way j 0) (apart (get_or s.way j 0) h), time_old j (apart j g)) w

          used_tree : (j : ℕ) → 0 < j → j ≤ n → get_or used' j false ≡ true → (get_or used' (get_or x.way j 0) false ≡ true) × (time' (get_or x.way j 0) < time' j)
          used_tree j z h g =
              let q : (get_or s.used j false ≡ true) ⊎ (j ≡ s.j0) = elim (on_cases j g) [ inl e ↦ inr e | inr e ↦ inl e ] in
              let w = S.tree j z h q in
              let o = on_more (get_or s.way j 0) w.0 in
              rw (way_used j g) (o, lower j o g w.1)

          trees : (j : ℕ) → 0 < j → j ≤ n → (get_or used' j false ≡ true) ⊎ (j ≡ l.j1) → (get_or used' (get_or x.way j 0) false ≡ true) × (time' (get_or x.way j 0) < time' j)
          trees j z h (inl g) = used_tree j z h g
          trees j z h (inr e) = rw (e, time_new, x_way) (fresh_mark, used_time (get_or l.way l.j1 0) fresh_mark)

          edges : (j : ℕ) → 0 < j → j ≤ n → get_or used' j false ≡ false → (get_or x.minv j O.out ≡ O.top) ⊎ (get_or used' (get_or x.way j 0) false ≡ true)
          edges j z h f = elim (next_edge j z h f) [ inl w ↦ inl (top w) | inr w ↦ inr (rw x_way w) ]
            where
              top : get_or l.minv j O.out ≡ O.top → get_or x.minv j O.out ≡ O.top
              top w = unfold step go_on in (shift_minv O l (n + 1) j (let b = minv_in in omega arith) (omega arith) ∙ ap (λ (b : Bool). cond b (get_or l.minv j O.out) (O.sub (get_or l.minv j O.out) l.delta)) (ap (λ (u : List Bool). get_or u j false) l_used ∙ f) ∙ ap (λ (y : N). O.sub y l.delta) w ∙ L2 l.delta fine)

    -- ---- the search
    pub record Reached (bound : ℕ) (s : State N) : Type 0 where
      pub t : ℕ
      pub t_le : t ≤ bound
      pub shape : Shape n t s
      pub pos : 0 < s.j0
      pub free : get_or s.p s.j0 0 ≡ 0

    search_shape : (k t : ℕ) (s : State N) → Shape n t s → (get_or s.p s.j0 0 ≡ 0 → ⊥) → AllFound O (Reached (t + k)) (search O a n k s)
    unfolding search AllFound
    search_shape zero t s S h = tt
    search_shape (suc k) t s S h = go (O.finite (look O a n s).delta) refl (eqb (get_or x.p x.j0 0) 0) refl (search_shape k (suc t) x)
      where
        x : State N
        x = step O n (look O a n s)

        later : (y : State N) → Reached (suc t + k) y → Reached (t + suc k) y
        later y r = record { t = r.t; t_le = let b = r.t_le in omega arith; shape = r.shape; pos = r.pos; free = r.free }

        go : (b : Bool) → O.finite (look O a n s).delta ≡ b → (f : Bool) → eqb (get_or x.p x.j0 0) 0 ≡ f
            → (Shape n (suc t) x → (get_or x.p x.j0 0 ≡ 0 → ⊥) → AllFound O (Reached (suc t + k)) (search O a n k x)) → AllFound O (Reached (t + suc k)) (turned O b f x (search O a n k x))
        go false e f g ih = tt
        go true e true g ih = record { t = suc t; t_le = omega arith; shape = turn_shape t s S e h; pos = turn_pos t s S e h; free = eqb-true (get_or x.p x.j0 0) 0 g }
        go true e false g ih = all_map O (Reached (suc t + k)) (Reached (t + suc k)) (search O a n k x) later (ih (turn_shape t s S e h) (eqb-false (get_or x.p x.j0 0) 0 g))

    -- ---- the way back from the column that was reached
    module _ (bound : ℕ) (s : State N) (r : Reached bound s) where
      S : Shape n r.t s
      S = r.shape

      abbrev W : ℕ → ℕ
      W j = get_or s.way j 0

      abbrev P : ℕ → ℕ
      P j = get_or s.p j 0

      record Way (j : ℕ) : Type 0 where
        k : ℕ
        short : k ≤ S.time j
        down : Down O s.way S.time (n + 1) k j

      way_from : (fuel j : ℕ) → S.time j ≤ fuel → 0 < j → j ≤ n → (get_or s.used j false ≡ true) ⊎ (j ≡ s.j0) → Way j
      way_from zero j h z l o = let w = S.tree j z l o in let q = w.1 in absurd (omega arith)
      way_from (suc fuel) j h z l o = go (ℕ_discrete (W j) 0) (λ g. way_from fuel (W j) (let q = (S.tree j z l o).1 in omega arith) (positive (W j) g) (S.sane.way_le j) (inl (S.tree j z l o).0))
        where
          positive : (m : ℕ) → (m ≡ 0 → ⊥) → 0 < m
          positive m g = omega (arith, g)

          go : Dec (W j ≡ 0) → ((W j ≡ 0 → ⊥) → Way (W j)) → Way j
          go (yes e) ih = record { k = 1; short = let q = (S.tree j z l o).1 in omega arith; down = last z (omega arith) e }
          go (no g) ih = let w = ih g in record { k = suc w.k; short = let q = (S.tree j z l o).1 in let b = w.short in omega arith; down = more z (omega arith) g (S.tree j z l o).1 w.down }

      way : Way s.j0
      way = way_from (S.time s.j0) s.j0 (omega arith) r.pos S.sane.j0_le (inr refl)

      D : Down O s.way S.time (n + 1) way.k s.j0
      D = way.down

      more_fuel : {k j : ℕ} (p : List ℕ) (m : ℕ) → Down O s.way S.time (n + 1) k j → k ≤ m → back O m s.way p j ≡ back O k s.way p j
      more_fuel p zero (last z h e) l = absurd (omega (arith, l))
      more_fuel {j = j} p (suc m) (last z h e) l = back_last O s.way S.time (n + 1) m p j e ∙ sym (back_last O s.way S.time (n + 1) 0 p j e)
      more_fuel p zero (more z h g t d) l = absurd (omega (arith, l))
      more_fuel {j = j} p (suc m) (more {k = k'} z h g t d) l = back_more O s.way S.time (n + 1) m p j g ∙ more_fuel {k = k'} (set p j (get_or p (get_or s.way j 0) 0)) m d (omega arith) ∙ sym (back_more O s.way S.time (n + 1) k' p j g)

      -- a column on the path is used, or the one reached; what it leads to is used
      on_used : {k j i : ℕ} → (get_or s.used j false ≡ true) ⊎ (j ≡ s.j0) → Down O s.way S.time (n + 1) k j → On s.way j i → (0 < i) × (i ≤ n) × (get_or s.used (W i) false ≡ true)
      on_used o (last z h e) here = (z, omega arith, (S.tree _ z (omega arith) o).0)
      on_used o (last z h e) (there g w) = absurd (g e)
      on_used o (more z h g t d) here = (z, omega arith, (S.tree _ z (omega arith) o).0)
      on_used o (more z h g t d) (there g' w) = on_used (inl (S.tree _ z (omega arith) o).0) d w

      -- a column on the path is used, or the one reached
      on_marked : {k j i : ℕ} → (get_or s.used j false ≡ true) ⊎ (j ≡ s.j0) → Down O s.way S.time (n + 1) k j → On s.way j i → (get_or s.used i false ≡ true) ⊎ (i ≡ s.j0)
      on_marked o d here = o
      on_marked o (last z h e) (there g w) = absurd (g e)
      on_marked o (more {k = k} z h g t d) (there g' w) = on_marked {k = k} (inl (S.tree _ z (omega arith) o).0) d w

      module _ (few : bound ≤ n + 1) (long : n < length s.p) where
        abbrev P' : ℕ → ℕ
        P' i = get_or (settle O n s).p i 0

        settled : (settle O n s).p ≡ back O way.k s.way s.p s.j0
        settled = unfold settle in more_fuel s.p (n + 1) D (let a = way.short in let b = S.new in let c = r.t_le in omega arith)

        at_on : (i : ℕ) → On s.way s.j0 i → P' i ≡ P (W i)
        at_on i o = ap (λ (l : List ℕ). get_or l i 0) settled ∙ back_at O s.way S.time (n + 1) s.p (omega arith) D i o

        at_off : (i : ℕ) → (On s.way s.j0 i → ⊥) → P' i ≡ P i
        at_off i o = ap (λ (l : List ℕ). get_or l i 0) settled ∙ back_off O s.way S.time (n + 1) s.p D i o

        -- the path takes the column reached and used ones, and gives each the row that it came from
        pub settled_at : (i : ℕ) → ((P' i ≡ P (W i)) × ((get_or s.used i false ≡ true) ⊎ (i ≡ s.j0))) ⊎ ((P' i ≡ P i) × (i ≡ s.j0 → ⊥))
        settled_at i = go (on? O s.way S.time (n + 1) D i)
          where
            go : Dec (On s.way s.j0 i) → ((P' i ≡ P (W i)) × ((get_or s.used i false ≡ true) ⊎ (i ≡ s.j0))) ⊎ ((P' i ≡ P i) × (i ≡ s.j0 → ⊥))
            go (yes o) = inl (at_on i o, on_marked (inr refl) D o)
            go (no f) = inr (at_off i f, λ e. f (subst (λ (j : ℕ). On s.way s.j0 j) (sym e) here))

        leads : (i : ℕ) → On s.way s.j0 i → P (W i) ≡ 0 → ⊥
        leads i o = S.row (W i) (on_used (inr refl) D o).2

        mixed : (j i : ℕ) → 0 < i → i ≤ n → On s.way s.j0 j → (On s.way s.j0 i → ⊥) → P (W j) ≡ P i → ⊥
        mixed j i z h o f e =
            let w : W j ≡ i = S.one (W j) i (S.sane.way_le j) h (leads j o) e in
            elim (next_on O s.way S.time (n + 1) D o) [ inl q ↦ (let v : i ≡ 0 = sym w ∙ q in omega arith) | inr q ↦ f (subst (λ (y : ℕ). On s.way s.j0 y) w q) ]

        pub settle_one : (j i : ℕ) → 0 < j → j ≤ n → 0 < i → i ≤ n → (P' j ≡ 0 → ⊥) → P' j ≡ P' i → j ≡ i
        settle_one j i zj hj zi hi f e = go (on? O s.way S.time (n + 1) D j) (on? O s.way S.time (n + 1) D i)
          where
            go : Dec (On s.way s.j0 j) → Dec (On s.way s.j0 i) → j ≡ i
            go (yes p) (yes q) = same_next O s.way S.time (n + 1) D p q (S.one (W j) (W i) (S.sane.way_le j) (S.sane.way_le i) (leads j p) (sym (at_on j p) ∙ e ∙ at_on i q))
            go (yes p) (no q) = absurd (mixed j i zi hi p q (sym (at_on j p) ∙ e ∙ at_off i q))
            go (no p) (yes q) = absurd (mixed i j zj hj q p (sym (at_on i q) ∙ sym e ∙ at_off j p))
            go (no p) (no q) = S.one j i hj hi (λ w. f (at_off j p ∙ w)) (sym (at_off j p) ∙ e ∙ at_off i q)

        pub settle_low : (m : ℕ) → ((i : ℕ) → i ≤ n → P i ≤ m) → (j : ℕ) → j ≤ n → P' j ≤ m
        settle_low m h j l = go (on? O s.way S.time (n + 1) D j)
          where
            go : Dec (On s.way s.j0 j) → P' j ≤ m
            go (yes p) = rw (at_on j p) (h (W j) (S.sane.way_le j))
            go (no p) = rw (at_off j p) (h j l)

    -- ---- row after row
    pub record Matched (k : ℕ) (s : State N) : Type 0 where
      pub sane : Sane n s
      pub p_long : n < length s.p
      pub way_long : n < length s.way
      pub low : (j : ℕ) → 0 < j → j ≤ n → get_or s.p j 0 ≤ k
      pub one : (j i : ℕ) → 0 < j → j ≤ n → 0 < i → i ≤ n → (get_or s.p j 0 ≡ 0 → ⊥) → get_or s.p j 0 ≡ get_or s.p i 0 → j ≡ i

    module _ (fits : n < size) (k : ℕ) (s : State N) (M : Matched k s) (less : k < n) where
      abbrev b : State N
      b = start O (k + 1) s

      p_is : b.p ≡ set s.p 0 (k + 1)
      p_is = unfold start in refl

      pub at_zero : get_or b.p 0 0 ≡ k + 1
      at_zero = rw p_is (get_or-set_same s.p 0 (k + 1) 0 (let h = M.p_long in omega arith))

      pub at_other : (j : ℕ) → 0 < j → get_or b.p j 0 ≡ get_or s.p j 0
      at_other j z = rw p_is (get_or-set_other s.p 0 j (k + 1) 0 (λ e. nonzero j z e))
        where
          nonzero : (j : ℕ) → 0 < j → j ≡ 0 → ⊥
          nonzero j z e = omega arith

      pub all_low : (j : ℕ) → j ≤ n → get_or b.p j 0 ≤ k + 1
      all_low j h = go (ℕ_discrete j 0)
        where
          go : Dec (j ≡ 0) → get_or b.p j 0 ≤ k + 1
          go (yes e) = rw (e, at_zero) (omega arith)
          go (no g) = rw (at_other j (omega (arith, g))) (let q = M.low j (omega (arith, g)) h in omega arith)

      start_one : (j i : ℕ) → j ≤ n → i ≤ n → (get_or b.p j 0 ≡ 0 → ⊥) → get_or b.p j 0 ≡ get_or b.p i 0 → j ≡ i
      start_one j i hj hi f e = go (ℕ_discrete j 0) (ℕ_discrete i 0)
        where
          new : (x y : ℕ) → x ≡ 0 → (y ≡ 0 → ⊥) → y ≤ n → get_or b.p x 0 ≡ get_or b.p y 0 → ⊥
          new x y p q h w =
              let z : 0 < y = omega (arith, q) in
              let v : k + 1 ≡ get_or s.p y 0 = sym (rw p at_zero) ∙ w ∙ at_other y z in
              let u = M.low y z h in
              omega arith

          go : Dec (j ≡ 0) → Dec (i ≡ 0) → j ≡ i
          go (yes p) (yes q) = p ∙ sym q
          go (yes p) (no q) = absurd (new j i p q hi e)
          go (no p) (yes q) = absurd (new i j q p hj (sym e))
          go (no p) (no q) =
              let zj : 0 < j = omega (arith, p) in
              let zi : 0 < i = omega (arith, q) in
              M.one j i zj hj zi hi (λ w. f (at_other j zj ∙ w)) (sym (at_other j zj) ∙ e ∙ at_other i zi)

      pub none_used : (j : ℕ) → get_or b.used j false ≡ true → ⊥
      none_used j h = true≢false (sym h ∙ (unfold start in all_alike false size j))

      pub start_shape : Shape n 0 b
      start_shape = record {
        time = λ j. 0;
        sane = start_sane O n (k + 1) s (omega arith) M.sane;
        used_long = unfold start in fits;
        way_long = unfold start in M.way_long;
        minv_long = unfold start in fits;
        off = unfold start in all_alike false size 0;
        row = λ j h e. none_used j h;
        one = start_one;
        tree = λ j z h o. elim o [ inl w ↦ absurd (none_used j w) | inr w ↦ absurd (not_first j z (unfold start in w)) ];
        edge = λ j z h f. inl (unfold start in get_or-replicate size j O.top O.out (omega arith));
        old = λ j h. absurd (none_used j h);
        new = refl;
      }
        where
          not_first : (j : ℕ) → 0 < j → j ≡ 0 → ⊥
          not_first j z e = omega arith

      start_row : get_or b.p b.j0 0 ≡ 0 → ⊥
      unfolding start
      start_row e = let q = at_zero in let w : k + 1 ≡ 0 = sym q ∙ e in omega arith

      both : (P Q : State N → Type 0) (x : Search N) → AllFound O P x → AllFound O Q x → AllFound O (λ y. P y × Q y) x
      unfolding AllFound
      both P Q (found y) p q = (p, q)
      both P Q stopped p q = tt
      both P Q spent p q = tt

      settle_length : (y : State N) → length (settle O n y).p ≡ length y.p
      unfolding settle
      settle_length y = back_length O (n + 1) y.way y.p y.j0

      settle_way : (y : State N) → (settle O n y).way ≡ y.way
      unfolding settle
      settle_way y = refl

      settled_matched : (y : State N) → Reached (n + 1) y → y.p ≡ b.p → Matched (suc k) (settle O n y)
      settled_matched y r e =
          let long : n < length y.p = rw (e, p_is, length-set s.p 0 (k + 1)) M.p_long in
          let le : n + 1 ≤ n + 1 = omega arith in
          record {
            sane = settle_sane O n y r.shape.sane;
            p_long = rw (settle_length y) long;
            way_long = rw (settle_way y) r.shape.way_long;
            low = λ j z h. let q = settle_low (n + 1) y r le long (k + 1) (λ i g. rw e (all_low i g)) j h in omega arith;
            one = settle_one (n + 1) y r le long;
          }

      entered : enter O a n (k + 1) (found s) ≡ search O a n (n + 1) b
      unfolding enter
      entered = refl

      pub row_matched : AllFound O (Matched (suc k)) (leave O n (enter O a n (k + 1) (found s)))
      row_matched = go (search O a n (n + 1) b) (both (Reached (0 + (n + 1))) (λ y. y.p ≡ b.p) (search O a n (n + 1) b) (search_shape (n + 1) 0 b start_shape start_row) (search_p O a n (n + 1) b))
        where
          zero_add : (m : ℕ) → 0 + m ≡ m
          zero_add m = omega arith

          out : (x : Search N) → AllFound O (λ y. Reached (0 + (n + 1)) y × (y.p ≡ b.p)) x → AllFound O (Matched (suc k)) (leave O n x)
          out (found y) h = unfold leave AllFound in (let q : Reached (0 + (n + 1)) y × (y.p ≡ b.p) = (unfold AllFound in h) in settled_matched y (rw (zero_add (n + 1)) at q.0) q.1)
          out stopped h = unfold leave AllFound in tt
          out spent h = unfold leave AllFound in tt

          go : (x : Search N) → AllFound O (λ y. Reached (0 + (n + 1)) y × (y.p ≡ b.p)) (search O a n (n + 1) b) → AllFound O (Matched (suc k)) (leave O n (enter O a n (k + 1) (found s)))
          go x h = subst (λ (z : Search N). AllFound O (Matched (suc k)) (leave O n z)) (sym entered) (out (search O a n (n + 1) (start O (k + 1) s)) h)

    fresh_matched : n < size → Matched 0 (fresh O)
    fresh_matched fits = record {
      sane = fresh_sane O n;
      p_long = unfold fresh in fits;
      way_long = unfold fresh in fits;
      low = λ j z h. unfold fresh in (rw (all_alike {A = ℕ} 0 size j) (omega arith));
      one = λ j i zj hj zi hi f e. absurd (f (unfold fresh in all_alike {A = ℕ} 0 size j));
    }

    -- no row is given to two columns
    pub rows_matched : n < size → (k : ℕ) → k ≤ n → AllFound O (Matched k) (rows O a n k)
    unfolding rows AllFound
    rows_matched fits zero h = fresh_matched fits
    rows_matched fits (suc k) h = go (rows O a n k) (rows_matched fits k (omega arith))
      where
        go : (x : Search N) → AllFound O (Matched k) x → AllFound O (Matched (suc k)) (leave O n (enter O a n (k + 1) x))
        go (found s) m = row_matched fits k s m (omega arith)
        go stopped m = unfold enter leave in tt
        go spent m = unfold enter leave in tt
