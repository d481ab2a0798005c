-- One turn of the search keeps the potentials: the mathematics, over functions. p gives the row of each column, 0 where it has none; place 0 has the row
-- that is being put in, and counts once it is used. Entries are at most B either way.
use mathlib.Core.Path.{◌≡◌, refl, sym, ◌∙◌, subst}
use mathlib.Core.Logic.{◌⊎◌, inl, inr}
use mathlib.Core.Bool.{Bool, true, false, true≢false}
use Prim.Native.Nat.{ℕ, zero, suc, ◌+◌, ◌≤◌, ◌<◌}
use native.Mathlib.Omega.{arith}
use Rattle.whole.specs.Integer.{Integer, 0_z, natural, neg_z, ◌+Z◌, ◌-Z◌, ◌≤Z◌, ◌≈◌, Within}

module _ (n B : ℕ) (a : ℕ → ℕ → Integer) (p : ℕ → ℕ) where
  -- before the first turn of a row nothing is used, and the row's potential is 0
  pub record Start (on : ℕ → Bool) (j0 : ℕ) (u : ℕ → Integer) : Type 0 where
    pub at_zero : j0 ≡ 0
    pub none_on : (k : ℕ) → on k ≡ true → ⊥
    pub u_zero : u (p 0) ≈ 0_z

  -- later each column that is not used has its least reduced cost over the used rows, and where it came from
  pub record Later (on : ℕ → Bool) (j0 : ℕ) (u v m : ℕ → Integer) (way : ℕ → ℕ) : Type 0 where
    pub past_zero : 0 < j0
    pub edge : (j : ℕ) → 0 < j → j ≤ n → on j ≡ false → (on (way j) ≡ true) × (m j ≈ a (p (way j)) j -Z u (p (way j)) -Z v j)
    pub low : (j k : ℕ) → 0 < j → j ≤ n → on j ≡ false → on k ≡ true → m j ≤Z a (p k) j -Z u (p k) -Z v j

  -- no entry is below its potentials, pairs and the tree of used columns are tight
  pub record Tree (on : ℕ → Bool) (j0 : ℕ) (u v m : ℕ → Integer) (way : ℕ → ℕ) : Type 0 where
    pub fine : (k j : ℕ) → k ≤ n → 0 < p k → (0 < k) ⊎ (on k ≡ true) → 0 < j → j ≤ n → u (p k) +Z v j ≤Z a (p k) j
    pub tight : (k : ℕ) → 0 < k → k ≤ n → 0 < p k → a (p k) k ≈ u (p k) +Z v k
    pub tree : (j : ℕ) → 0 < j → j ≤ n → (on j ≡ true) ⊎ (j ≡ j0) → (on (way j) ≡ true) × (a (p (way j)) j ≈ u (p (way j)) +Z v j)
    pub row : (k : ℕ) → on k ≡ true → (k ≤ n) × (0 < p k)
    pub u_low : (k : ℕ) → k ≤ n → 0 < p k → (0 < k) ⊎ (on k ≡ true) → neg_z (natural B) ≤Z u (p k)
    pub v_high : (j : ℕ) → 0 < j → j ≤ n → v j ≤Z 0_z
    pub v_free : (j : ℕ) → 0 < j → j ≤ n → p j ≡ 0 → v j ≈ 0_z
    pub phase : Start on j0 u ⊎ Later on j0 u v m way

  -- b j is the lesser of the old least, if there was one, and the new reduced cost, with the way that it came
  pub record Was (j0 : ℕ) (u v m : ℕ → Integer) (way way' : ℕ → ℕ) (b : ℕ → Integer) (j : ℕ) : Type 0 where
    pub later : 0 < j0
    pub b_was : b j ≈ m j
    pub way_was : way' j ≡ way j
    pub below : m j ≤Z a (p j0) j -Z u (p j0) -Z v j

  pub record Now (j0 : ℕ) (u v m : ℕ → Integer) (way' : ℕ → ℕ) (b : ℕ → Integer) (j : ℕ) : Type 0 where
    pub b_now : b j ≈ a (p j0) j -Z u (p j0) -Z v j
    pub way_now : way' j ≡ j0
    pub below : 0 < j0 → b j ≤Z m j

  -- what the scan of column j0's row reads
  pub record Scanned (on : ℕ → Bool) (j0 : ℕ) (u v m : ℕ → Integer) (way : ℕ → ℕ) (on' : ℕ → Bool) (j1 : ℕ) (way' : ℕ → ℕ) (δ : Integer) (b : ℕ → Integer) : Type 0 where
    pub now_on : (k : ℕ) → on' k ≡ true → (on k ≡ true) ⊎ (k ≡ j0)
    pub still_on : (k : ℕ) → on k ≡ true → on' k ≡ true
    pub at_on : on' j0 ≡ true
    pub j0_le : j0 ≤ n
    pub j0_row : 0 < p j0
    pub j1_pos : 0 < j1
    pub j1_le : j1 ≤ n
    pub j1_off : on' j1 ≡ false
    pub came : (j : ℕ) → 0 < j → j ≤ n → on' j ≡ false → Was j0 u v m way way' b j ⊎ Now j0 u v m way' b j
    pub way_on : (j : ℕ) → on' j ≡ true → way' j ≡ way j
    pub δ_is : δ ≈ b j1
    pub δ_least : (j : ℕ) → 0 < j → j ≤ n → on' j ≡ false → δ ≤Z b j

  -- what holds after the scan, before the step by δ
  pub record Seen (on : ℕ → Bool) (j1 : ℕ) (u v b : ℕ → Integer) (way : ℕ → ℕ) (δ : Integer) : Type 0 where
    pub fine : (k j : ℕ) → k ≤ n → 0 < p k → (0 < k) ⊎ ((on k ≡ true) × (on j ≡ true)) → 0 < j → j ≤ n → u (p k) +Z v j ≤Z a (p k) j
    pub tight : (k : ℕ) → 0 < k → k ≤ n → 0 < p k → a (p k) k ≈ u (p k) +Z v k
    pub tree : (j : ℕ) → 0 < j → j ≤ n → on j ≡ true → (on (way j) ≡ true) × (a (p (way j)) j ≈ u (p (way j)) +Z v j)
    pub row : (k : ℕ) → on k ≡ true → (k ≤ n) × (0 < p k)
    pub edge : (j : ℕ) → 0 < j → j ≤ n → on j ≡ false → (on (way j) ≡ true) × (b j ≈ a (p (way j)) j -Z u (p (way j)) -Z v j)
    pub low : (j k : ℕ) → 0 < j → j ≤ n → on j ≡ false → on k ≡ true → b j ≤Z a (p k) j -Z u (p k) -Z v j
    pub j1_pos : 0 < j1
    pub j1_le : j1 ≤ n
    pub j1_off : on j1 ≡ false
    pub δ_is : δ ≈ b j1
    pub δ_least : (j : ℕ) → 0 < j → j ≤ n → on j ≡ false → δ ≤Z b j
    pub rise : (j : ℕ) → 0 < j → on j ≡ true → 0_z ≤Z δ
    pub u_in : (k : ℕ) → k ≤ n → 0 < p k → (0 < k) ⊎ (on k ≡ true) → Within B (u (p k))
    pub u_next : (k : ℕ) → on k ≡ true → neg_z (natural B) ≤Z u (p k) +Z δ
    pub v_low : (j : ℕ) → 0 < j → j ≤ n → neg_z (natural (B + B)) ≤Z v j
    pub v_high : (j : ℕ) → 0 < j → j ≤ n → v j ≤Z 0_z
    pub v_free : (j : ℕ) → 0 < j → j ≤ n → p j ≡ 0 → v j ≈ 0_z

  -- the step by δ
  pub record Moved (on : ℕ → Bool) (u v b u' v' m' : ℕ → Integer) (δ : Integer) : Type 0 where
    pub u_on : (k : ℕ) → on k ≡ true → u' (p k) ≈ u (p k) +Z δ
    pub u_off : (k : ℕ) → k ≤ n → 0 < p k → on k ≡ false → u' (p k) ≈ u (p k)
    pub v_on : (j : ℕ) → 0 < j → j ≤ n → on j ≡ true → v' j ≈ v j -Z δ
    pub v_off : (j : ℕ) → 0 < j → j ≤ n → on j ≡ false → v' j ≈ v j
    pub m_off : (j : ℕ) → 0 < j → j ≤ n → on j ≡ false → m' j ≈ b j -Z δ

  module _ (p_le : (k : ℕ) → p k ≤ n) (small : (i j : ℕ) → 0 < i → i ≤ n → 0 < j → j ≤ n → Within B (a i j)) where
    -- ---- the tree, with a free column f, and what the scan reads of it
    module _ (on : ℕ → Bool) (j0 : ℕ) (u v m : ℕ → Integer) (way : ℕ → ℕ) (I : Tree on j0 u v m way) (f : ℕ) (f-pos : 0 < f) (f-le : f ≤ n) (free : p f ≡ 0) where
      -- a row that counts, or the one that is looked at
      u_held : (k : ℕ) → k ≤ n → 0 < p k → (0 < k) ⊎ (on k ≡ true) → Within B (u (p k))
      u_held k l z h =
          let x = I.fine k f l z h f-pos f-le in
          let y = small (p k) f z (p_le k) f-pos f-le in
          let q = I.v_free f f-pos f-le free in
          let r = I.u_low k l z h in
          (omega arith, omega arith)

      pub u_in : (k : ℕ) → k ≤ n → 0 < p k → (0 < k) ⊎ ((on k ≡ true) ⊎ (k ≡ j0)) → Within B (u (p k))
      u_in k l z (inl h) = u_held k l z (inl h)
      u_in k l z (inr (inl h)) = u_held k l z (inr h)
      u_in k l z (inr (inr h)) = go I.phase
        where
          go : Start on j0 u ⊎ Later on j0 u v m way → Within B (u (p k))
          go (inl S) = let e : k ≡ 0 = h ∙ S.at_zero in rw e (let q = S.u_zero in (omega arith, omega arith))
          go (inr L) = u_held k l z (inl (rw h L.past_zero))

      pub v_low : (j : ℕ) → 0 < j → j ≤ n → neg_z (natural (B + B)) ≤Z v j
      v_low j z l = go (p j) refl
        where
          go : (i : ℕ) → p j ≡ i → neg_z (natural (B + B)) ≤Z v j
          go zero e = let q = I.v_free j z l e in omega arith
          go (suc i) e =
              let h : 0 < p j = omega arith in
              let q = I.tight j z l h in
              let r = u_held j l h (inl z) in
              let s = small (p j) j h (p_le j) z l in
              omega arith

      -- the reduced cost of row p j0
      pub part_in : j0 ≤ n → 0 < p j0 → (j : ℕ) → 0 < j → j ≤ n → Within (B + B) (a (p j0) j -Z u (p j0))
      part_in l h j z g =
          let x = u_in j0 l h (inr (inr refl)) in
          let y = small (p j0) j h (p_le j0) z g in
          (omega arith, omega arith)

      pub red_in : j0 ≤ n → 0 < p j0 → (j : ℕ) → 0 < j → j ≤ n → Within (B + B + B + B) (a (p j0) j -Z u (p j0) -Z v j)
      red_in l h j z g =
          let x = part_in l h j z g in
          let y = v_low j z g in
          let w = I.v_high j z g in
          (omega arith, omega arith)

      module _ (on' : ℕ → Bool) (j1 : ℕ) (way' : ℕ → ℕ) (δ : Integer) (b : ℕ → Integer) (T : Scanned on j0 u v m way on' j1 way' δ b) where
        off : (j : ℕ) → on' j ≡ false → on j ≡ false
        off j g = go (on j) refl
          where
            go : (x : Bool) → on j ≡ x → x ≡ false
            go true e = absurd (true≢false (sym (T.still_on j e) ∙ g))
            go false e = refl

        row' : (k : ℕ) → on' k ≡ true → (k ≤ n) × (0 < p k)
        row' k h = elim (T.now_on k h) [ inl e ↦ I.row k e | inr e ↦ rw e (T.j0_le, T.j0_row) ]

        later_of : 0 < j0 → Later on j0 u v m way
        later_of z = elim I.phase [ inl S ↦ (let e = S.at_zero in absurd (omega arith)) | inr L ↦ L ]

        edge' : (j : ℕ) → 0 < j → j ≤ n → on' j ≡ false → (on' (way' j) ≡ true) × (b j ≈ a (p (way' j)) j -Z u (p (way' j)) -Z v j)
        edge' j z l g = go (T.came j z l g)
          where
            go : Was j0 u v m way way' b j ⊎ Now j0 u v m way' b j → (on' (way' j) ≡ true) × (b j ≈ a (p (way' j)) j -Z u (p (way' j)) -Z v j)
            go (inl x) =
                let e = (later_of x.later).edge j z l (off j g) in
                let q = e.1 in
                let r = x.b_was in
                rw x.way_was (T.still_on (way j) e.0, omega arith)
            go (inr x) = rw x.way_now (T.at_on, x.b_now)

        low' : (j k : ℕ) → 0 < j → j ≤ n → on' j ≡ false → on' k ≡ true → b j ≤Z a (p k) j -Z u (p k) -Z v j
        low' j k z l g h = go (T.now_on k h) (T.came j z l g)
          where
            started : on k ≡ true → 0 < j0
            started e = elim I.phase [ inl S ↦ absurd (S.none_on k e) | inr L ↦ L.past_zero ]

            go : (on k ≡ true) ⊎ (k ≡ j0) → Was j0 u v m way way' b j ⊎ Now j0 u v m way' b j → b j ≤Z a (p k) j -Z u (p k) -Z v j
            go (inl e) (inl x) = let q = (later_of x.later).low j k z l (off j g) e in let r = x.b_was in omega arith
            go (inl e) (inr x) = let s = started e in let q = (later_of s).low j k z l (off j g) e in let r = x.below s in omega arith
            go (inr e) (inl x) = rw e (let q = x.below in let r = x.b_was in omega arith)
            go (inr e) (inr x) = rw e (let q = x.b_now in omega arith)

        -- a used row counts where a column is used too
        on_fine : (k j : ℕ) → on' k ≡ true → 0 < j → j ≤ n → (on' j ≡ true) ⊎ (0 < j0) → u (p k) +Z v j ≤Z a (p k) j
        on_fine k j h z l o = go (T.now_on k h) I.phase
          where
            go : (on k ≡ true) ⊎ (k ≡ j0) → Start on j0 u ⊎ Later on j0 u v m way → u (p k) +Z v j ≤Z a (p k) j
            go (inl e) s = I.fine k j (row' k h).0 (row' k h).1 (inr e) z l
            go (inr e) (inr L) = I.fine k j (row' k h).0 (row' k h).1 (inl (rw e L.past_zero)) z l
            go (inr e) (inl S) = absurd (elim o [ inl q ↦ elim (T.now_on j q) [ inl w ↦ S.none_on j w | inr w ↦ (let c = S.at_zero in omega arith) ] | inr q ↦ (let c = S.at_zero in omega arith) ])

        -- past the first turn the step is not negative
        rise_later : 0 < j0 → 0_z ≤Z δ
        rise_later s =
            let e = edge' j1 T.j1_pos T.j1_le T.j1_off in
            let q = on_fine (way' j1) j1 e.0 T.j1_pos T.j1_le (inr s) in
            let r = e.1 in
            let d = T.δ_is in
            omega arith

        rise' : (j : ℕ) → 0 < j → on' j ≡ true → 0_z ≤Z δ
        rise' j z h = rise_later (elim I.phase [ inl S ↦ absurd (elim (T.now_on j h) [ inl w ↦ S.none_on j w | inr w ↦ (let c = S.at_zero in omega arith) ]) | inr L ↦ L.past_zero ])

        u_next' : (k : ℕ) → on' k ≡ true → neg_z (natural B) ≤Z u (p k) +Z δ
        u_next' k h = go I.phase
          where
            go : Start on j0 u ⊎ Later on j0 u v m way → neg_z (natural B) ≤Z u (p k) +Z δ
            go (inl S) =
                let only : (i : ℕ) → on' i ≡ true → i ≡ 0 = λ i o. elim (T.now_on i o) [ inl w ↦ absurd (S.none_on i w) | inr w ↦ w ∙ S.at_zero ] in
                let e = edge' j1 T.j1_pos T.j1_le T.j1_off in
                let r : b j1 ≈ a (p k) j1 -Z u (p k) -Z v j1 = subst (λ (i : ℕ). b j1 ≈ a (p i) j1 -Z u (p i) -Z v j1) (only (way' j1) e.0 ∙ sym (only k h)) e.1 in
                let s = small (p k) j1 (row' k h).1 (p_le k) T.j1_pos T.j1_le in
                let d = T.δ_is in
                let w = I.v_high j1 T.j1_pos T.j1_le in
                omega arith
            go (inr L) = let d = rise_later L.past_zero in let x = u_in k (row' k h).0 (row' k h).1 (inr (T.now_on k h)) in omega arith

        pub seen : Seen on' j1 u v b way' δ
        seen = record {
          fine = λ k j l h o z g. elim o [ inl q ↦ I.fine k j l h (inl q) z g | inr q ↦ on_fine k j q.0 z g (inl q.1) ];
          tight = I.tight;
          tree = λ j z l h. (let t = I.tree j z l (T.now_on j h) in rw (T.way_on j h) (T.still_on (way j) t.0, t.1));
          row = row';
          edge = edge';
          low = low';
          j1_pos = T.j1_pos;
          j1_le = T.j1_le;
          j1_off = T.j1_off;
          δ_is = T.δ_is;
          δ_least = T.δ_least;
          rise = rise';
          u_in = λ k l z o. elim o [ inl q ↦ u_in k l z (inl q) | inr q ↦ u_in k l z (inr (T.now_on k q)) ];
          u_next = u_next';
          v_low = v_low;
          v_high = I.v_high;
          v_free = I.v_free;
        }

    -- ---- the step
    module _ (on : ℕ → Bool) (j1 : ℕ) (u v b : ℕ → Integer) (way : ℕ → ℕ) (δ : Integer) (S : Seen on j1 u v b way δ) where
      pub b_in : (j : ℕ) → 0 < j → j ≤ n → on j ≡ false → Within (B + B + B + B) (b j)
      b_in j z l g =
          let e = S.edge j z l g in
          let r = S.row (way j) e.0 in
          let x = S.u_in (way j) r.0 r.1 (inr e.0) in
          let y = small (p (way j)) j r.1 (p_le (way j)) z l in
          let q = e.1 in
          let w = S.v_low j z l in
          let t = S.v_high j z l in
          (omega arith, omega arith)

      pub δ_in : Within (B + B + B + B) δ
      δ_in = let x = b_in j1 S.j1_pos S.j1_le S.j1_off in let d = S.δ_is in (omega arith, omega arith)

      module _ (u' v' m' : ℕ → Integer) (T : Moved on u v b u' v' m' δ) where
        held : (k : ℕ) → (0 < k) ⊎ (on k ≡ true) → on k ≡ false → 0 < k
        held k (inl z) f = z
        held k (inr e) f = absurd (true≢false (sym e ∙ f))

        fine' : (k j : ℕ) → k ≤ n → 0 < p k → (0 < k) ⊎ (on k ≡ true) → 0 < j → j ≤ n → u' (p k) +Z v' j ≤Z a (p k) j
        fine' k j kl pk o z l = go (on k) refl (on j) refl
          where
            go : (x : Bool) → on k ≡ x → (y : Bool) → on j ≡ y → u' (p k) +Z v' j ≤Z a (p k) j
            go true e true g = omega (arith, T.u_on k e, T.v_on j z l g, S.fine k j kl pk (inr (e, g)) z l)
            go true e false g = omega (arith, T.u_on k e, T.v_off j z l g, S.low j k z l g e, S.δ_least j z l g)
            go false e true g = omega (arith, T.u_off k kl pk e, T.v_on j z l g, S.fine k j kl pk (inl (held k o e)) z l, S.rise j z g)
            go false e false g = omega (arith, T.u_off k kl pk e, T.v_off j z l g, S.fine k j kl pk (inl (held k o e)) z l)

        tight' : (k : ℕ) → 0 < k → k ≤ n → 0 < p k → a (p k) k ≈ u' (p k) +Z v' k
        tight' k z l pk = go (on k) refl
          where
            go : (x : Bool) → on k ≡ x → a (p k) k ≈ u' (p k) +Z v' k
            go true e = omega (arith, T.u_on k e, T.v_on k z l e, S.tight k z l pk)
            go false e = omega (arith, T.u_off k l pk e, T.v_off k z l e, S.tight k z l pk)

        tree' : (j : ℕ) → 0 < j → j ≤ n → (on j ≡ true) ⊎ (j ≡ j1) → (on (way j) ≡ true) × (a (p (way j)) j ≈ u' (p (way j)) +Z v' j)
        tree' j z l (inl e) = let t = S.tree j z l e in (t.0, omega (arith, t.1, T.u_on (way j) t.0, T.v_on j z l e))
        tree' j z l (inr e) =
            let f : on j ≡ false = rw e S.j1_off in
            let t = S.edge j z l f in
            let d : δ ≈ b j = rw e S.δ_is in
            (t.0, omega (arith, t.1, d, T.u_on (way j) t.0, T.v_off j z l f))

        pub moved : Tree on j1 u' v' m' way
        moved = record {
          fine = fine';
          tight = tight';
          tree = tree';
          row = S.row;
          u_low = λ k l z o. u_low' k l z o (on k) refl;
          v_high = λ j z l. v_high' j z l (on j) refl;
          v_free = λ j z l e. v_free' j z l e (on j) refl;
          phase = inr (record {
            past_zero = S.j1_pos;
            edge = λ j z l f. (let t = S.edge j z l f in (t.0, omega (arith, t.1, T.m_off j z l f, T.u_on (way j) t.0, T.v_off j z l f)));
            low = λ j k z l f e. omega (arith, S.low j k z l f e, T.m_off j z l f, T.u_on k e, T.v_off j z l f);
          });
        }
          where
            u_low' : (k : ℕ) → k ≤ n → 0 < p k → (0 < k) ⊎ (on k ≡ true) → (x : Bool) → on k ≡ x → neg_z (natural B) ≤Z u' (p k)
            u_low' k l z o true e = omega (arith, T.u_on k e, S.u_next k e)
            u_low' k l z o false e = let q = S.u_in k l z o in omega (arith, T.u_off k l z e)

            v_high' : (j : ℕ) → 0 < j → j ≤ n → (x : Bool) → on j ≡ x → v' j ≤Z 0_z
            v_high' j z l true e = omega (arith, T.v_on j z l e, S.v_high j z l, S.rise j z e)
            v_high' j z l false e = omega (arith, T.v_off j z l e, S.v_high j z l)

            v_free' : (j : ℕ) → 0 < j → j ≤ n → p j ≡ 0 → (x : Bool) → on j ≡ x → v' j ≈ 0_z
            v_free' j z l e true o = let r = (S.row j o).1 in absurd (omega arith)
            v_free' j z l e false o = omega (arith, T.v_off j z l o, S.v_free j z l e)
