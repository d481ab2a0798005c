-- What stands at each place after a scan and after a step by delta, over any numbers.
use mathlib.Core.Path.{◌≡◌, refl, sym, ap, ◌∙◌}
use mathlib.Core.Logic.{◌⊎◌, inl, inr}
use mathlib.Core.Bool.{Bool, true, false, cond, true≢false}
use mathlib.Core.List.{List}
use Prim.Native.Nat.{ℕ, zero, suc, ◌+◌, ◌≤◌, ◌<◌}
use native.Mathlib.Decide.{ℕ_discrete}
use native.Mathlib.Omega.{arith}
use lib.ListN.{get_or, set, length, length-set}
use lib.Seq.{get_or-set_same, get_or-set_other}
use Rattle.kuhn_munkres.specs.Ops.{Ops}
use Rattle.kuhn_munkres.specs.Steps.{State, relax, scan, shift_at, shift}
use Rattle.kuhn_munkres.proofs.Ranges.{cond_all}

-- a list after a store that a test decides
module _ {A : Type 0} (b : Bool) (l : List A) (c : ℕ) (x d : A) where
  put_other : (j : ℕ) → (j ≡ c → ⊥) → get_or (cond b (set l c x) l) j d ≡ get_or l j d
  put_other j h = cond_all (λ (m : List A). get_or m j d ≡ get_or l j d) b (set l c x) l (get_or-set_other l c j x d h) refl

  put_length : length (cond b (set l c x) l) ≡ length l
  put_length = cond_all (λ (m : List A). length m ≡ length l) b (set l c x) l (length-set l c x) refl

put_same : {A : Type 0} (b : Bool) (l : List A) (c : ℕ) (x d : A) → c < length l → get_or (cond b (set l c x) l) c d ≡ cond b x (get_or l c d)
put_same true l c x d h = get_or-set_same l c x d h
put_same false l c x d h = refl

pub keep_length : {A : Type 0} (b : Bool) (l : List A) (c : ℕ) (x : A) → length (cond b l (set l c x)) ≡ length l
keep_length true l c x = refl
keep_length false l c x = length-set l c x

keep_other : {A : Type 0} (b : Bool) (l : List A) (c : ℕ) (x d : A) (j : ℕ) → (j ≡ c → ⊥) → get_or (cond b l (set l c x)) j d ≡ get_or l j d
keep_other true l c x d j h = refl
keep_other false l c x d j h = get_or-set_other l c j x d h

keep_same : {A : Type 0} (b : Bool) (l : List A) (c : ℕ) (x d : A) → c < length l → get_or (cond b l (set l c x)) c d ≡ cond b (get_or l c d) x
keep_same true l c x d h = refl
keep_same false l c x d h = get_or-set_same l c x d h

module _ {N : Type 0} (O : Ops N) where
  -- ---- the scan
  module _ (a : ℕ → N) (ui : N) (s : State N) where
    abbrev pub cur : ℕ → N
    cur j = O.sub (O.sub (a j) ui) (get_or s.v j O.out)

    -- column j's least after it was looked at, and whether it fell
    abbrev pub falls : ℕ → Bool
    falls j = O.lt (cur j) (get_or s.minv j O.out)

    abbrev pub best : ℕ → N
    best j = cond (falls j) (cur j) (get_or s.minv j O.out)

    pub record Kept (t : State N) : Type 0 where
      pub u_is : t.u ≡ s.u
      pub v_is : t.v ≡ s.v
      pub p_is : t.p ≡ s.p
      pub used_is : t.used ≡ s.used
      pub j0_is : t.j0 ≡ s.j0
      pub minv_long : length t.minv ≡ length s.minv
      pub way_long : length t.way ≡ length s.way

    relax_kept : (j : ℕ) (c : N) (t : State N) → Kept t → Kept (relax O j c t)
    unfolding relax
    relax_kept j c t k =
        let b = O.lt c (get_or t.minv j O.out) in
        record {
          u_is = k.u_is;
          v_is = k.v_is;
          p_is = k.p_is;
          used_is = k.used_is;
          j0_is = k.j0_is;
          minv_long = put_length b t.minv j c O.out ∙ k.minv_long;
          way_long = put_length b t.way j t.j0 0 ∙ k.way_long;
        }

    pub scan_kept : (k : ℕ) → Kept (scan O a ui s k)
    unfolding scan
    scan_kept zero = record { u_is = refl; v_is = refl; p_is = refl; used_is = refl; j0_is = refl; minv_long = refl; way_long = refl }
    scan_kept (suc k) =
        let r = scan_kept k in
        cond_all (λ (t : State N). Kept t) (get_or s.used (k + 1) false) (scan O a ui s k) (relax O (k + 1) (cur (k + 1)) (scan O a ui s k)) r (relax_kept (k + 1) (cur (k + 1)) (scan O a ui s k) r)

    -- a column that is ahead, or used, is as it was
    pub record As-was (t : State N) (j : ℕ) : Type 0 where
      pub minv_was : get_or t.minv j O.out ≡ get_or s.minv j O.out
      pub way_was : get_or t.way j 0 ≡ get_or s.way j 0

    relax_other : (c : ℕ) (x : N) (t : State N) (j : ℕ) → (j ≡ c → ⊥) → As-was t j → As-was (relax O c x t) j
    unfolding relax
    relax_other c x t j h w =
        let b = O.lt x (get_or t.minv c O.out) in
        record { minv_was = put_other b t.minv c x O.out j h ∙ w.minv_was; way_was = put_other b t.way c t.j0 0 j h ∙ w.way_was }

    pub scan_ahead : (k j : ℕ) → (j ≡ 0) ⊎ (k < j) → As-was (scan O a ui s k) j
    unfolding scan
    scan_ahead zero j h = record { minv_was = refl; way_was = refl }
    scan_ahead (suc k) j h =
        let r = scan_ahead k j (nearer h) in
        cond_all (λ (t : State N). As-was t j) (get_or s.used (k + 1) false) (scan O a ui s k) (relax O (k + 1) (cur (k + 1)) (scan O a ui s k)) r
        (relax_other (k + 1) (cur (k + 1)) (scan O a ui s k) j (differs h) r)
      where
        nearer : (j ≡ 0) ⊎ (suc k < j) → (j ≡ 0) ⊎ (k < j)
        nearer (inl e) = inl e
        nearer (inr l) = inr (omega arith)

        differs : (j ≡ 0) ⊎ (suc k < j) → j ≡ k + 1 → ⊥
        differs (inl e) z = omega arith
        differs (inr l) z = omega arith

    pub scan_used : (k j : ℕ) → get_or s.used j false ≡ true → As-was (scan O a ui s k) j
    unfolding scan
    scan_used zero j h = record { minv_was = refl; way_was = refl }
    scan_used (suc k) j h = go (ℕ_discrete j (k + 1)) (scan_used k j h)
      where
        go : Dec (j ≡ k + 1) → As-was (scan O a ui s k) j → As-was (cond (get_or s.used (k + 1) false) (scan O a ui s k) (relax O (k + 1) (cur (k + 1)) (scan O a ui s k))) j
        go (yes e) r = rw (ap (λ (x : ℕ). get_or s.used x false) (sym e) ∙ h) r
        go (no g) r = cond_all (λ (t : State N). As-was t j) (get_or s.used (k + 1) false) (scan O a ui s k) (relax O (k + 1) (cur (k + 1)) (scan O a ui s k)) r (relax_other (k + 1) (cur (k + 1)) (scan O a ui s k) j g r)

    -- a column that was looked at
    pub record Looked (t : State N) (j : ℕ) : Type 0 where
      pub minv_is : get_or t.minv j O.out ≡ best j
      pub way_is : get_or t.way j 0 ≡ cond (falls j) s.j0 (get_or s.way j 0)

    relax_later : (c : ℕ) (x : N) (t : State N) (j : ℕ) → (j ≡ c → ⊥) → Looked t j → Looked (relax O c x t) j
    unfolding relax
    relax_later c x t j h w =
        let b = O.lt x (get_or t.minv c O.out) in
        record { minv_is = put_other b t.minv c x O.out j h ∙ w.minv_is; way_is = put_other b t.way c t.j0 0 j h ∙ w.way_is }

    relax_same : (t : State N) (j : ℕ) → Kept t → As-was t j → j < length s.minv → j < length s.way → Looked (relax O j (cur j) t) j
    unfolding relax
    relax_same t j k w h l =
        let b = O.lt (cur j) (get_or t.minv j O.out) in
        record {
          minv_is = put_same b t.minv j (cur j) O.out (rw k.minv_long h) ∙ ap (λ (m : N). cond (O.lt (cur j) m) (cur j) m) w.minv_was;
          way_is = put_same b t.way j t.j0 0 (rw k.way_long l) ∙ rw (w.minv_was, w.way_was, k.j0_is);
        }

    pub scan_looked : (k j : ℕ) → 0 < j → j ≤ k → get_or s.used j false ≡ false → j < length s.minv → j < length s.way → Looked (scan O a ui s k) j
    unfolding scan
    scan_looked zero j z h f l m = absurd (none j z h)
      where
        none : (j : ℕ) → 0 < j → j ≤ 0 → ⊥
        none j z h = omega arith
    scan_looked (suc k) j z h f l m = go (ℕ_discrete j (k + 1)) (λ h'. scan_looked k j z h' f l m)
      where
        go : Dec (j ≡ k + 1) → (j ≤ k → Looked (scan O a ui s k) j) → Looked (cond (get_or s.used (k + 1) false) (scan O a ui s k) (relax O (k + 1) (cur (k + 1)) (scan O a ui s k))) j
        go (yes e) r = rw (← e, f) (relax_same (scan O a ui s k) j (scan_kept k) (scan_ahead k j (inr (omega arith))) l m)
        go (no g) r = cond_all (λ (t : State N). Looked t j) (get_or s.used (k + 1) false) (scan O a ui s k) (relax O (k + 1) (cur (k + 1)) (scan O a ui s k)) (r (omega arith)) (relax_later (k + 1) (cur (k + 1)) (scan O a ui s k) j g (r (omega arith)))

    -- ---- the column that is chosen
    pub record Chosen (k : ℕ) (t : State N) : Type 0 where
      pub least : (j : ℕ) → 0 < j → j ≤ k → get_or s.used j false ≡ false → O.lt (best j) t.delta ≡ false
      pub from : ((t.delta ≡ s.delta) × (t.j1 ≡ s.j1)) ⊎ ((0 < t.j1) × (t.j1 ≤ k) × (get_or s.used t.j1 false ≡ false) × (t.delta ≡ best t.j1))

    relax_delta : (c : ℕ) (t : State N) → As-was t c → (relax O c (cur c) t).delta ≡ cond (O.lt (best c) t.delta) (best c) t.delta
    unfolding relax
    relax_delta c t w = ap (λ (m : N). cond (O.lt (cond (O.lt (cur c) m) (cur c) m) t.delta) (cond (O.lt (cur c) m) (cur c) m) t.delta) w.minv_was

    relax_j1 : (c : ℕ) (t : State N) → As-was t c → (relax O c (cur c) t).j1 ≡ cond (O.lt (best c) t.delta) c t.j1
    unfolding relax
    relax_j1 c t w = ap (λ (m : N). cond (O.lt (cond (O.lt (cur c) m) (cur c) m) t.delta) c t.j1) w.minv_was

    -- the laws of order are asked of the numbers that the scan compares: R holds of them
    module _ (R : N → Type 0) (irrefl : (x : N) → R x → O.lt x x ≡ false) (trans : (x y z : N) → R x → R y → R z → O.lt x y ≡ true → O.lt y z ≡ true → O.lt x z ≡ true) (first : R s.delta) where
      abbrev Bests : ℕ → Type 0
      Bests k = (j : ℕ) → 0 < j → j ≤ k → get_or s.used j false ≡ false → R (best j)

      -- what is not below y is not below a z that is below y
      lower : (x y z : N) → R x → R y → R z → O.lt x y ≡ false → O.lt z y ≡ true → O.lt x z ≡ false
      lower x y z p q r f t = go (O.lt x z) refl
        where
          go : (b : Bool) → O.lt x z ≡ b → b ≡ false
          go true e = sym (trans x z y p r q e t) ∙ f
          go false e = refl

      delta_in : (k : ℕ) (t : State N) → Bests k → Chosen k t → R t.delta
      delta_in k t bests h = elim h.from [ inl x ↦ rw x.0 first | inr x ↦ rw x.3 (bests t.j1 x.0 x.1 x.2) ]

      relax_chosen : (k : ℕ) (t : State N) → Bests (suc k) → As-was t (k + 1) → get_or s.used (k + 1) false ≡ false → Chosen k t → Chosen (suc k) (relax O (k + 1) (cur (k + 1)) t)
      relax_chosen k t bests w f h = go (O.lt (best (k + 1)) t.delta) refl (relax_delta (k + 1) t w) (relax_j1 (k + 1) t w)
        where
          r : State N
          r = relax O (k + 1) (cur (k + 1)) t

          new : R (best (k + 1))
          new = bests (k + 1) (omega arith) (omega arith) f

          up : ((t.delta ≡ s.delta) × (t.j1 ≡ s.j1)) ⊎ ((0 < t.j1) × (t.j1 ≤ k) × (get_or s.used t.j1 false ≡ false) × (t.delta ≡ best t.j1)) → r.delta ≡ t.delta → r.j1 ≡ t.j1
              → ((r.delta ≡ s.delta) × (r.j1 ≡ s.j1)) ⊎ ((0 < r.j1) × (r.j1 ≤ suc k) × (get_or s.used r.j1 false ≡ false) × (r.delta ≡ best r.j1))
          up (inl x) d e = inl (d ∙ x.0, e ∙ x.1)
          up (inr x) d e = inr (rw e x.0, rw e (let l = x.1 in omega arith), rw e x.2, d ∙ x.3 ∙ ap (λ (j : ℕ). best j) (sym e))

          go : (b : Bool) → O.lt (best (k + 1)) t.delta ≡ b → r.delta ≡ cond b (best (k + 1)) t.delta → r.j1 ≡ cond b (k + 1) t.j1 → Chosen (suc k) r
          go true e d j =
              record {
                least = λ i z l g. rw d (old i z l g (ℕ_discrete i (k + 1)));
                from = inr (rw j (omega arith), rw j (omega arith), rw j f, d ∙ ap (λ (x : ℕ). best x) (sym j));
              }
            where
              old : (i : ℕ) → 0 < i → i ≤ suc k → get_or s.used i false ≡ false → Dec (i ≡ k + 1) → O.lt (best i) (best (k + 1)) ≡ false
              old i z l g (yes q) = ap (λ (x : ℕ). O.lt (best x) (best (k + 1))) q ∙ irrefl (best (k + 1)) new
              old i z l g (no q) =
                  lower (best i) t.delta (best (k + 1)) (bests i z l g) (delta_in k t (λ y c m. bests y c (omega arith)) h) new (h.least i z (omega arith) g) e
          go false e d j = record { least = λ i z l g. rw d (old i z l g (ℕ_discrete i (k + 1))); from = up h.from d j }
            where
              old : (i : ℕ) → 0 < i → i ≤ suc k → get_or s.used i false ≡ false → Dec (i ≡ k + 1) → O.lt (best i) t.delta ≡ false
              old i z l g (yes q) = ap (λ (x : ℕ). O.lt (best x) t.delta) q ∙ e
              old i z l g (no q) = h.least i z (omega arith) g

      pub scan_chosen : (k : ℕ) → Bests k → Chosen k (scan O a ui s k)
      unfolding scan
      scan_chosen zero bests = record { least = λ i z l g. absurd (none i z l); from = inl (refl, refl) }
        where
          none : (i : ℕ) → 0 < i → i ≤ 0 → ⊥
          none i z l = omega arith
      scan_chosen (suc k) bests = go (get_or s.used (k + 1) false) refl (scan_chosen k (λ j z l. bests j z (omega arith)))
        where
          t : State N
          t = scan O a ui s k

          skip : Chosen k t → get_or s.used (k + 1) false ≡ true → Chosen (suc k) t
          skip h e = record { least = λ i z l g. old i z l g (ℕ_discrete i (k + 1)); from = wide h.from }
            where
              old : (i : ℕ) → 0 < i → i ≤ suc k → get_or s.used i false ≡ false → Dec (i ≡ k + 1) → O.lt (best i) t.delta ≡ false
              old i z l g (yes q) = absurd (true≢false (sym e ∙ ap (λ (x : ℕ). get_or s.used x false) (sym q) ∙ g))
              old i z l g (no q) = h.least i z (omega arith) g

              wide : ((t.delta ≡ s.delta) × (t.j1 ≡ s.j1)) ⊎ ((0 < t.j1) × (t.j1 ≤ k) × (get_or s.used t.j1 false ≡ false) × (t.delta ≡ best t.j1))
                  → ((t.delta ≡ s.delta) × (t.j1 ≡ s.j1)) ⊎ ((0 < t.j1) × (t.j1 ≤ suc k) × (get_or s.used t.j1 false ≡ false) × (t.delta ≡ best t.j1))
              wide (inl x) = inl x
              wide (inr x) = inr (x.0, let l = x.1 in omega arith, x.2, x.3)

          go : (b : Bool) → get_or s.used (k + 1) false ≡ b → Chosen k t → Chosen (suc k) (cond b t (relax O (k + 1) (cur (k + 1)) t))
          go true e h = skip h e
          go false e h = relax_chosen k t bests (scan_ahead k (k + 1) (inr (omega arith))) e h

  -- ---- the step by delta
  module _ (s : State N) where
    pub record Shifted (t : State N) : Type 0 where
      pub p_same : t.p ≡ s.p
      pub way_same : t.way ≡ s.way
      pub used_same : t.used ≡ s.used
      pub delta_same : t.delta ≡ s.delta
      pub j1_same : t.j1 ≡ s.j1
      pub u_long : length t.u ≡ length s.u
      pub v_long : length t.v ≡ length s.v
      pub m_long : length t.minv ≡ length s.minv

    pub shift_kept : (k : ℕ) → Shifted (shift O s k)
    unfolding shift shift_at
    shift_kept zero = record { p_same = refl; way_same = refl; used_same = refl; delta_same = refl; j1_same = refl; u_long = refl; v_long = refl; m_long = refl }
    shift_kept (suc k) =
        let r = shift_kept k in
        let t = shift O s k in
        let on = get_or t.used k false in
        record {
          p_same = r.p_same;
          way_same = r.way_same;
          used_same = r.used_same;
          delta_same = r.delta_same;
          j1_same = r.j1_same;
          u_long = put_length on t.u (get_or t.p k 0) (O.add (get_or t.u (get_or t.p k 0) O.out) t.delta) O.out ∙ r.u_long;
          v_long = put_length on t.v k (O.sub (get_or t.v k O.out) t.delta) O.out ∙ r.v_long;
          m_long = keep_length on t.minv k (O.sub (get_or t.minv k O.out) t.delta) ∙ r.m_long;
        }

    pub shift_v_ahead : (k j : ℕ) → k ≤ j → get_or (shift O s k).v j O.out ≡ get_or s.v j O.out
    unfolding shift shift_at
    shift_v_ahead zero j h = refl
    shift_v_ahead (suc k) j h =
        let t = shift O s k in
        put_other (get_or t.used k false) t.v k (O.sub (get_or t.v k O.out) t.delta) O.out j (λ e. apart j e h) ∙ shift_v_ahead k j (omega arith)
      where
        apart : (j : ℕ) → j ≡ k → suc k ≤ j → ⊥
        apart j e h = omega arith

    pub shift_v : (k j : ℕ) → j < length s.v → j < k → get_or (shift O s k).v j O.out ≡ cond (get_or s.used j false) (O.sub (get_or s.v j O.out) s.delta) (get_or s.v j O.out)
    unfolding shift shift_at
    shift_v zero j l h = absurd (none j h)
      where
        none : (j : ℕ) → j < 0 → ⊥
        none j h = omega arith
    shift_v (suc k) j l h = go (ℕ_discrete j k) (λ m. shift_v k j l m)
      where
        t : State N
        t = shift O s k

        r : Shifted t
        r = shift_kept k

        go : Dec (j ≡ k) → (j < k → get_or t.v j O.out ≡ cond (get_or s.used j false) (O.sub (get_or s.v j O.out) s.delta) (get_or s.v j O.out))
            → get_or (cond (get_or t.used k false) (set t.v k (O.sub (get_or t.v k O.out) t.delta)) t.v) j O.out ≡ cond (get_or s.used j false) (O.sub (get_or s.v j O.out) s.delta) (get_or s.v j O.out)
        go (yes e) ih = rw (e, put_same (get_or t.used k false) t.v k (O.sub (get_or t.v k O.out) t.delta) O.out (rw r.v_long (rw e at l)), r.used_same, r.delta_same, shift_v_ahead k k (omega arith))
        go (no g) ih = put_other (get_or t.used k false) t.v k (O.sub (get_or t.v k O.out) t.delta) O.out j g ∙ ih (omega arith)

    pub shift_minv_ahead : (k j : ℕ) → k ≤ j → get_or (shift O s k).minv j O.out ≡ get_or s.minv j O.out
    unfolding shift shift_at
    shift_minv_ahead zero j h = refl
    shift_minv_ahead (suc k) j h =
        let t = shift O s k in
        keep_other (get_or t.used k false) t.minv k (O.sub (get_or t.minv k O.out) t.delta) O.out j (λ e. apart j e h) ∙ shift_minv_ahead k j (omega arith)
      where
        apart : (j : ℕ) → j ≡ k → suc k ≤ j → ⊥
        apart j e h = omega arith

    pub shift_minv : (k j : ℕ) → j < length s.minv → j < k → get_or (shift O s k).minv j O.out ≡ cond (get_or s.used j false) (get_or s.minv j O.out) (O.sub (get_or s.minv j O.out) s.delta)
    unfolding shift shift_at
    shift_minv zero j l h = absurd (none j h)
      where
        none : (j : ℕ) → j < 0 → ⊥
        none j h = omega arith
    shift_minv (suc k) j l h = go (ℕ_discrete j k) (λ m. shift_minv k j l m)
      where
        t : State N
        t = shift O s k

        r : Shifted t
        r = shift_kept k

        go : Dec (j ≡ k) → (j < k → get_or t.minv j O.out ≡ cond (get_or s.used j false) (get_or s.minv j O.out) (O.sub (get_or s.minv j O.out) s.delta))
            → get_or (cond (get_or t.used k false) t.minv (set t.minv k (O.sub (get_or t.minv k O.out) t.delta))) j O.out ≡ cond (get_or s.used j false) (get_or s.minv j O.out) (O.sub (get_or s.minv j O.out) s.delta)
        go (yes e) ih = rw (e, keep_same (get_or t.used k false) t.minv k (O.sub (get_or t.minv k O.out) t.delta) O.out (rw r.m_long (rw e at l)), r.used_same, r.delta_same, shift_minv_ahead k k (omega arith))
        go (no g) ih = keep_other (get_or t.used k false) t.minv k (O.sub (get_or t.minv k O.out) t.delta) O.out j g ∙ ih (omega arith)

    -- a row that no used place below k holds is as it was
    pub shift_u_miss : (k i : ℕ) → ((j : ℕ) → j < k → get_or s.used j false ≡ true → get_or s.p j 0 ≡ i → ⊥) → get_or (shift O s k).u i O.out ≡ get_or s.u i O.out
    unfolding shift shift_at
    shift_u_miss zero i h = refl
    shift_u_miss (suc k) i h = go (get_or s.used k false) refl (shift_u_miss k i (λ j l. h j (omega arith)))
      where
        t : State N
        t = shift O s k

        r : Shifted t
        r = shift_kept k

        go : (b : Bool) → get_or s.used k false ≡ b → get_or t.u i O.out ≡ get_or s.u i O.out
            → get_or (cond (get_or t.used k false) (set t.u (get_or t.p k 0) (O.add (get_or t.u (get_or t.p k 0) O.out) t.delta)) t.u) i O.out ≡ get_or s.u i O.out
        go true e ih = put_other (get_or t.used k false) t.u (get_or t.p k 0) (O.add (get_or t.u (get_or t.p k 0) O.out) t.delta) O.out i (λ z. h k (omega arith) e (rw r.p_same at (sym z))) ∙ ih
        go false e ih = rw (r.used_same, e) ih

    -- the row of the one used place j that holds it goes up by delta
    pub shift_u_hit : (k j : ℕ) → j < k → get_or s.p j 0 < length s.u → get_or s.used j false ≡ true
        → ((j' : ℕ) → j' < k → get_or s.used j' false ≡ true → get_or s.p j' 0 ≡ get_or s.p j 0 → j' ≡ j)
        → get_or (shift O s k).u (get_or s.p j 0) O.out ≡ O.add (get_or s.u (get_or s.p j 0) O.out) s.delta
    unfolding shift shift_at
    shift_u_hit zero j h l e one = absurd (none j h)
      where
        none : (j : ℕ) → j < 0 → ⊥
        none j h = omega arith
    shift_u_hit (suc k) j h l e one = go (ℕ_discrete j k) (λ m. shift_u_hit k j m l e (λ j' q. one j' (omega arith))) (shift_u_miss k (get_or s.p j 0))
      where
        t : State N
        t = shift O s k

        r : Shifted t
        r = shift_kept k

        i : ℕ
        i = get_or s.p j 0

        go : Dec (j ≡ k) → (j < k → get_or t.u i O.out ≡ O.add (get_or s.u i O.out) s.delta) → (((j' : ℕ) → j' < k → get_or s.used j' false ≡ true → get_or s.p j' 0 ≡ i → ⊥) → get_or t.u i O.out ≡ get_or s.u i O.out)
            → get_or (cond (get_or t.used k false) (set t.u (get_or t.p k 0) (O.add (get_or t.u (get_or t.p k 0) O.out) t.delta)) t.u) i O.out ≡ O.add (get_or s.u i O.out) s.delta
        go (yes z) ih miss =
            let o : get_or t.used k false ≡ true = ap (λ (l : List Bool). get_or l k false) r.used_same ∙ ap (λ (x : ℕ). get_or s.used x false) (sym z) ∙ e in
            let q : get_or t.p k 0 ≡ i = ap (λ (l : List ℕ). get_or l k 0) r.p_same ∙ ap (λ (x : ℕ). get_or s.p x 0) (sym z) in
            let m = miss (λ j' m f w. before_it j' m (one j' (omega arith) f w)) in
            rw (o, q, get_or-set_same t.u i (O.add (get_or t.u i O.out) t.delta) O.out (rw r.u_long l), m, r.delta_same)
          where
            before_it : (j' : ℕ) → j' < k → j' ≡ j → ⊥
            before_it j' m w = omega arith
        go (no g) ih miss = by (get_or s.used k false) refl
          where
            by : (b : Bool) → get_or s.used k false ≡ b
                → get_or (cond (get_or t.used k false) (set t.u (get_or t.p k 0) (O.add (get_or t.u (get_or t.p k 0) O.out) t.delta)) t.u) i O.out ≡ O.add (get_or s.u i O.out) s.delta
            by true f = put_other (get_or t.used k false) t.u (get_or t.p k 0) (O.add (get_or t.u (get_or t.p k 0) O.out) t.delta) O.out i (λ w. g (sym (one k (omega arith) f (rw r.p_same at (sym w))))) ∙ ih (omega arith)
            by false f = rw (r.used_same, f) (ih (omega arith))
