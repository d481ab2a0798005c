-- Row after row on whole numbers: each row is put in, no entry is below its potentials, and the pairs are tight.
use mathlib.Core.Path.{◌≡◌, refl, sym, ap, ◌∙◌}
use mathlib.Core.Logic.{◌⊎◌, inl, inr}
use mathlib.Core.Bool.{true, false}
use mathlib.Core.List.{List}
use Prim.Native.Nat.{ℕ, zero, suc, ◌+◌, ◌≤◌, ◌<◌}
use native.Mathlib.Omega.{arith}
use borrow.Author.Tests.{eq-eqb, ne_eqb}
use lib.Dec.{eqb}
use lib.IntN.{pos}
use lib.ListN.{get_or, set, length, length-set, replicate, get_or-replicate}
use lib.Ieee.{Float, nan, inf, fin}
use Rattle.whole.specs.Integer.{Integer, 0_z, natural, neg_z, ◌+Z◌, ◌≤Z◌, ◌≈◌}
use Rattle.whole.specs.Whole.{WholeValue}
use Rattle.whole.proofs.Values.{whole_same, is_whole}
use Rattle.kuhn_munkres.specs.Binary64.{float}
use Rattle.kuhn_munkres.specs.Steps.{State, Search, found, spent, search, start, settle, fresh, enter, leave, rows, size}
use Rattle.kuhn_munkres.proofs.Ends.{rows_end}
use Rattle.kuhn_munkres.proofs.Marks.{all_alike}
use Rattle.kuhn_munkres.proofs.Kept.{of_found, search_p}
use Rattle.kuhn_munkres.proofs.Matched.{Matched, rows_matched, row_matched, start_shape, at_zero, at_other, all_low, none_used, settled_at}
use Rattle.kuhn_munkres.proofs.Top.{top_stays}
use Rattle.potentials.proofs.Turn.{Tree}
use Rattle.potentials.proofs.Free.{free_in, free_same, free_less, free_some, free_all}
use Rattle.potentials.proofs.Numbers.{Entries, Potentials, Turning, u_of, v_of, m_of, p_of, way_of, used}
use Rattle.potentials.proofs.Search.{Arrived, search_arrives}

module _ (n B : ℕ) (a : ℕ → ℕ → Float) (A : ℕ → ℕ → Integer) where
  -- after k rows
  pub record Dual (k : ℕ) (s : State Float) : Type 0 where
    pub matched : Matched float refl top_stays a n k s
    pub fine : (i j : ℕ) → 0 < i → i ≤ n → 0 < p_of s i → 0 < j → j ≤ n → u_of s (p_of s i) +Z v_of s j ≤Z A (p_of s i) j
    pub tight : (j : ℕ) → 0 < j → j ≤ n → 0 < p_of s j → A (p_of s j) j ≈ u_of s (p_of s j) +Z v_of s j
    pub u_low : (j : ℕ) → 0 < j → j ≤ n → 0 < p_of s j → neg_z (natural B) ≤Z u_of s (p_of s j)
    pub v_high : (j : ℕ) → 0 < j → j ≤ n → v_of s j ≤Z 0_z
    pub v_free : (j : ℕ) → 0 < j → j ≤ n → p_of s j ≡ 0 → v_of s j ≈ 0_z
    pub potentials : Potentials n s
    pub rest : (i : ℕ) → k < i → i ≤ n → u_of s i ≈ 0_z
    pub left : free_in (p_of s) n + k ≡ n

  module _ (fits : n < size) (E : Entries n B a A) where
    -- ---- row k + 1
    module _ (k : ℕ) (s : State Float) (D : Dual k s) (less : k < n) where
      abbrev b : State Float
      b = start float (k + 1) s

      p_same : (j : ℕ) → 0 < j → p_of b j ≡ p_of s j
      p_same = at_other float refl top_stays a n fits k s D.matched less

      p_new : p_of b 0 ≡ k + 1
      p_new = at_zero float refl top_stays a n fits k s D.matched less

      unused : (j : ℕ) → used b j ≡ true → ⊥
      unused = none_used float refl top_stays a n fits k s D.matched less

      -- place 0 does not count yet
      column : (j : ℕ) → (0 < j) ⊎ (used b j ≡ true) → 0 < j
      column j (inl z) = z
      column j (inr e) = absurd (unused j e)

      start_tree : Tree n B A (p_of b) (used b) b.j0 (u_of b) (v_of b) (m_of b) (way_of b)
      start_tree = record {
        fine = λ i j h z o y g. fine' i j h z (column i o) y g;
        tight = λ j y h z. tight' j y h z;
        tree = λ j z h o. absurd (elim o [ inl e ↦ unused j e | inr e ↦ (let q : j ≡ 0 = (unfold start in e) in omega arith) ]);
        row = λ j e. absurd (unused j e);
        u_low = λ j h z o. u_low' j h z (column j o);
        v_high = unfold start in D.v_high;
        v_free = λ j z h e. (unfold start in D.v_free j z h (sym (p_same j z) ∙ e));
        phase = inl (record { at_zero = unfold start in refl; none_on = unused; u_zero = rw p_new (unfold start in D.rest (k + 1) (omega arith) (omega arith)) });
      }
        where
          fine' : (i j : ℕ) → i ≤ n → 0 < p_of b i → 0 < i → 0 < j → j ≤ n → u_of b (p_of b i) +Z v_of b j ≤Z A (p_of b i) j
          fine' i j h z x y g = rw (p_same i x) (unfold start in D.fine i j x h (rw (p_same i x) at z) y g)

          tight' : (j : ℕ) → 0 < j → j ≤ n → 0 < p_of b j → A (p_of b j) j ≈ u_of b (p_of b j) +Z v_of b j
          tight' j y h z = rw (p_same j y) (unfold start in D.tight j y h (rw (p_same j y) at z))

          u_low' : (j : ℕ) → j ≤ n → 0 < p_of b j → 0 < j → neg_z (natural B) ≤Z u_of b (p_of b j)
          u_low' j h z y = rw (p_same j y) (unfold start in D.u_low j y h (rw (p_same j y) at z))

      start_turning : Turning n B (k + 1) A b
      start_turning = record {
        tree = start_tree;
        potentials = unfold start in record { u_at = D.potentials.u_at; v_at = D.potentials.v_at; u_long = D.potentials.u_long; v_long = D.potentials.v_long };
        m_at = λ j z h e. inl (unfold start in refl, unfold start in get_or-replicate size j (inf false) nan (omega arith));
        held = all_low float refl top_stays a n fits k s D.matched less;
        rest = λ i h l. (unfold start in D.rest i (omega arith) l);
      }

      -- ---- the walk back
      module _ (y : State Float) (Y : Arrived n B (k + 1) a A E (n + 1) y) (p_is : y.p ≡ b.p) where
        abbrev z : State Float
        z = settle float n y

        abbrev T : Tree n B A (p_of y) (used y) y.j0 (u_of y) (v_of y) (m_of y) (way_of y)
        T = Y.turning.tree

        long : n < length y.p
        long = rw p_is (unfold start in rw (length-set s.p 0 (k + 1)) D.matched.p_long)

        settled : (i : ℕ) → ((p_of z i ≡ p_of y (way_of y i)) × ((used y i ≡ true) ⊎ (i ≡ y.j0))) ⊎ ((p_of z i ≡ p_of y i) × (i ≡ y.j0 → ⊥))
        settled = settled_at float refl top_stays a n (n + 1) y Y.reached (omega arith) long

        -- a column on the path has a row, from a used place
        on_path : (i : ℕ) → 0 < i → i ≤ n → p_of z i ≡ p_of y (way_of y i) → (used y i ≡ true) ⊎ (i ≡ y.j0) → 0 < p_of z i
        on_path i x h e o = rw e (T.row (way_of y i) (T.tree i x h o).0).1

        -- the place whose row column i gets
        record Source (i : ℕ) : Type 0 where
          from : ℕ
          from_is : p_of z i ≡ p_of y from
          from_le : from ≤ n
          counts : (0 < from) ⊎ (used y from ≡ true)
          tight_at : 0 < p_of y from → A (p_of y from) i ≈ u_of y (p_of y from) +Z v_of y i

        source : (i : ℕ) → 0 < i → i ≤ n → Source i
        source i x h = go (settled i)
          where
            go : ((p_of z i ≡ p_of y (way_of y i)) × ((used y i ≡ true) ⊎ (i ≡ y.j0))) ⊎ ((p_of z i ≡ p_of y i) × (i ≡ y.j0 → ⊥)) → Source i
            go (inl q) =
                let t = T.tree i x h q.1 in
                record { from = way_of y i; from_is = q.0; from_le = (T.row (way_of y i) t.0).0; counts = inr t.0; tight_at = λ w. t.1 }
            go (inr q) = record { from = i; from_is = q.0; from_le = h; counts = inl x; tight_at = T.tight i x h }

        still_free : (j : ℕ) → 0 < j → j ≤ n → p_of z j ≡ 0 → p_of y j ≡ 0
        still_free j x h e = elim (settled j) [ inl q ↦ (let w = on_path j x h q.0 q.1 in absurd (omega arith)) | inr q ↦ sym q.0 ∙ e ]

        not_zero : (m : ℕ) → 0 < m → eqb m 0 ≡ false
        not_zero m h = ne_eqb m 0 (λ e. omega arith)

        -- only the column that was reached is no longer free
        same_free : (j : ℕ) → 0 < j → j ≤ n → (j ≡ y.j0 → ⊥) → eqb (p_of y j) 0 ≡ eqb (p_of z j) 0
        same_free j x h f = go (settled j)
          where
            go : ((p_of z j ≡ p_of y (way_of y j)) × ((used y j ≡ true) ⊎ (j ≡ y.j0))) ⊎ ((p_of z j ≡ p_of y j) × (j ≡ y.j0 → ⊥)) → eqb (p_of y j) 0 ≡ eqb (p_of z j) 0
            go (inl q) = not_zero (p_of y j) (elim q.1 [ inl u ↦ (T.row j u).1 | inr e ↦ absurd (f e) ]) ∙ sym (not_zero (p_of z j) (on_path j x h q.0 q.1))
            go (inr q) = ap (λ (m : ℕ). eqb m 0) (sym q.0)

        one_less : free_in (p_of s) n ≡ suc (free_in (p_of z) n)
        one_less =
            free_same (p_of s) (p_of y) n (λ j x h. ap (λ (m : ℕ). eqb m 0) (sym (p_same j x) ∙ ap (λ (l : List ℕ). get_or l j 0) (sym p_is)))
            ∙ free_less (p_of y) (p_of z) n y.j0 first last (eq-eqb (p_of y y.j0) 0 Y.reached.free) (not_zero (p_of z y.j0) (taken (settled y.j0))) same_free
          where
            first : 0 < y.j0
            first = Y.reached.pos

            last : y.j0 ≤ n
            last = Y.reached.shape.sane.j0_le

            taken : ((p_of z y.j0 ≡ p_of y (way_of y y.j0)) × ((used y y.j0 ≡ true) ⊎ (y.j0 ≡ y.j0))) ⊎ ((p_of z y.j0 ≡ p_of y y.j0) × (y.j0 ≡ y.j0 → ⊥)) → 0 < p_of z y.j0
            taken (inl q) = on_path y.j0 first last q.0 q.1
            taken (inr q) = absurd (q.1 refl)

        settle_dual : Matched float refl top_stays a n (suc k) z → Dual (suc k) z
        settle_dual m = record {
          matched = m;
          fine = λ i j x h w y' g. fine' i j h w y' g (source i x h);
          tight = λ j x h w. tight' j w (source j x h);
          u_low = λ j x h w. u_low' j w (source j x h);
          v_high = unfold settle in T.v_high;
          v_free = λ j x h e. (unfold settle in T.v_free j x h (still_free j x h e));
          potentials = unfold settle in record { u_at = Y.turning.potentials.u_at; v_at = Y.turning.potentials.v_at; u_long = Y.turning.potentials.u_long; v_long = Y.turning.potentials.v_long };
          rest = λ i h l. (unfold settle in Y.turning.rest i (omega arith) l);
          left = (let q = one_less in let r = D.left in omega arith);
        }
          where
            fine' : (i j : ℕ) → i ≤ n → 0 < p_of z i → 0 < j → j ≤ n → Source i → u_of z (p_of z i) +Z v_of z j ≤Z A (p_of z i) j
            fine' i j h w x g q = rw q.from_is (unfold settle in T.fine q.from j q.from_le (rw q.from_is at w) q.counts x g)

            tight' : (j : ℕ) → 0 < p_of z j → Source j → A (p_of z j) j ≈ u_of z (p_of z j) +Z v_of z j
            tight' j w q = rw q.from_is (unfold settle in q.tight_at (rw q.from_is at w))

            u_low' : (j : ℕ) → 0 < p_of z j → Source j → neg_z (natural B) ≤Z u_of z (p_of z j)
            u_low' j w q = rw q.from_is (unfold settle in T.u_low q.from q.from_le (rw q.from_is at w) q.counts)

      -- ---- the row is put in
      abbrev Put : Search Float → Type 0
      Put r = (r ≡ spent) ⊎ ((w : State Float) × (r ≡ found w) × Dual (suc k) w)

      put : Put (leave float n (enter float a n (k + 1) (found s)))
      put = go (free_some (p_of s) n (let q = D.left in omega arith))
        where
          after : enter float a n (k + 1) (found s) ≡ search float a n (n + 1) b
          after = unfold enter in refl

          out : (search float a n (n + 1) b ≡ spent) ⊎ ((y : State Float) × (search float a n (n + 1) b ≡ found y) × Arrived n B (k + 1) a A E (n + 1) y) → Put (leave float n (enter float a n (k + 1) (found s)))
          out (inl e) = inl (ap (leave float n) (after ∙ e) ∙ (unfold leave in refl))
          out (inr q) =
              let e : leave float n (enter float a n (k + 1) (found s)) ≡ found (settle float n q.0) = ap (leave float n) (after ∙ q.1) ∙ (unfold leave in refl) in
              let m = of_found float (Matched float refl top_stays a n (suc k)) (leave float n (enter float a n (k + 1) (found s))) (settle float n q.0) e (row_matched float refl top_stays a n fits k s D.matched less) in
              let p = of_found float (λ (t : State Float). t.p ≡ b.p) (search float a n (n + 1) b) q.0 q.1 (search_p float a n (n + 1) b) in
              inr (settle float n q.0, e, settle_dual q.0 q.2 p m)

          go : (j : ℕ) × (0 < j) × (j ≤ n) × (p_of s j ≡ 0) → Put (leave float n (enter float a n (k + 1) (found s)))
          go x =
              out
              (search_arrives n B (k + 1) a A E x.0 x.1 x.2 (n + 1) (n + 1) 0 (omega arith) b (start_shape float refl top_stays a n fits k s D.matched less) start_turning
              (unfold start in rw p_new' (omega arith)) (p_same x.0 x.1 ∙ x.3))
            where
              p_new' : get_or (set s.p 0 (k + 1)) 0 0 ≡ k + 1
              p_new' = unfold start in p_new

    -- ---- the first state
    zero_whole : WholeValue (fin false 0 (pos 0)) 0_z
    zero_whole = record { minus = false; mag = 0; val = (refl, refl); is = refl }

    first_dual : Dual 0 (fresh float)
    first_dual = record {
      matched = of_found float (Matched float refl top_stays a n 0) (rows float a n 0) (fresh float) (unfold rows in refl) (rows_matched float refl top_stays a n fits 0 (omega arith));
      fine = λ i j x h w y g. absurd (free i w);
      tight = λ j x h w. absurd (free j w);
      u_low = λ j x h w. absurd (free j w);
      v_high = λ j x h. (let q = v_zero j h in omega arith);
      v_free = λ j x h e. v_zero j h;
      potentials = record {
        u_at = λ i x h. (unfold fresh in rw (at i h) (is_whole (fin false 0 (pos 0)) 0_z zero_whole));
        v_at = λ i x h. (unfold fresh in rw (at i h) (is_whole (fin false 0 (pos 0)) 0_z zero_whole));
        u_long = unfold fresh in fits;
        v_long = unfold fresh in fits;
      };
      rest = λ i x h. (unfold fresh in rw (at i h) (whole_same (fin false 0 (pos 0)) 0_z zero_whole));
      left = (let q = free_all (p_of (fresh float)) n (λ j x h. p_zero j) in omega arith);
    }
      where
        p_zero : (j : ℕ) → p_of (fresh float) j ≡ 0
        p_zero j = unfold fresh in all_alike {A = ℕ} 0 size j

        free : (j : ℕ) → 0 < p_of (fresh float) j → ⊥
        free j w = let q = p_zero j in omega arith

        at : (i : ℕ) → i ≤ n → get_or (replicate size (fin false 0 (pos 0))) i nan ≡ fin false 0 (pos 0)
        at i h = get_or-replicate size i (fin false 0 (pos 0)) nan (omega arith)

        v_zero : (j : ℕ) → j ≤ n → v_of (fresh float) j ≈ 0_z
        v_zero j h = unfold fresh in rw (at j h) (whole_same (fin false 0 (pos 0)) 0_z zero_whole)

    pub rows_dual : (k : ℕ) → k ≤ n → (s : State Float) × (rows float a n k ≡ found s) × Dual k s
    rows_dual zero h = (fresh float, unfold rows in refl, first_dual)
    rows_dual (suc k) h = go (rows_dual k (omega arith))
      where
        go : (s : State Float) × (rows float a n k ≡ found s) × Dual k s → (s : State Float) × (rows float a n (suc k) ≡ found s) × Dual (suc k) s
        go x = elim (put k x.0 x.2 (omega arith)) [ inl e ↦ absurd (rows_end float refl a n fits (suc k) (next ∙ e)) | inr w ↦ (w.0, next ∙ w.1, w.2) ]
          where
            next : rows float a n (suc k) ≡ leave float n (enter float a n (k + 1) (found x.0))
            next = unfold rows in ap (λ (r : Search Float). leave float n (enter float a n (k + 1) r)) x.1
