-- Row after row, from the code's arrays.
use mathlib.Core.Path.{◌≡◌, refl, sym, ap, ◌∙◌, subst}
use mathlib.Core.Bool.{Bool, false}
use mathlib.Core.List.{List}
use Prim.Native.Nat.{ℕ, suc, ◌+◌, ◌≤◌, ◌<◌, zero-le}
use native.Mathlib.Omega.{arith}
use native.Mathlib.Numerals.{add-one}
use lib.ListN.{get_or, set, replicate}
use lib.Seq.{get_or-set_same}
use lib.Ieee.{Float}
use Rattle.kuhn_munkres.specs.Binary64.{float}
use Rattle.kuhn_munkres.specs.Steps.{State, Search, found, stopped, spent, mark, look, search, back, start, settle, fresh, enter, leave, rows}
use Rattle.kuhn_munkres.specs.Ranges.{Sane}
use Rattle.kuhn_munkres.proofs.Ranges.{fresh_sane, start_sane, found_sane, settle_sane, rows_stopped, rows_spent}
use Rattle.hungarian.specs.Passes.{Least}
use Rattle.std.specs.Prelude.{Err}
use Rattle.hungarian.specs.declared.SearchError.{SearchError}
use Rattle.hungarian.specs.declared.SearchError.TheVariants.{NotFinite, Spent}
use Rattle.hungarian.specs.Ends.{st, went, halted, lost, met, met_of, begun, none, halts, loses, end_of, pick_end}

-- where a search begins says nothing of delta and j1
anew : (a : ℕ → ℕ → Float) (n k : ℕ) (u v m : List Float) (p way : List ℕ) (used : List Bool) (j0 : ℕ) (b c : Least Float) → search float a n (suc k) (st u v m p way used j0 b) ≡ search float a n (suc k) (st u v m p way used j0 c)
unfolding search look mark
anew a n k u v m p way used j0 b c = refl

pub record Got (x : Search Float) (u v : List Float) (w p : List ℕ) (j : ℕ) : Type 0 where
  pub s : State Float
  pub is : x ≡ found s
  pub u_is : s.u ≡ u
  pub v_is : s.v ≡ v
  pub way_is : s.way ≡ w
  pub p_is : s.p ≡ p
  pub j0_is : s.j0 ≡ j

got : (x : Search Float) (u v : List Float) (w p : List ℕ) (j : ℕ) → went u v w p j ≡ met x → Got x u v w p j
got (found s) u v w p j e = record { s = s; is = refl; u_is = cc; v_is = cc; way_is = cc; p_is = cc; j0_is = cc }
got stopped u v w p j e = let z : ◌≡◌ {A = ℕ} 0 1 = cc in absurd (omega arith)
got spent u v w p j e = let z : ◌≡◌ {A = ℕ} 0 1 = cc in absurd (omega arith)

halted_is : (x : Search Float) → halted ≡ met x → x ≡ stopped
halted_is (found s) e = let z : ◌≡◌ {A = ℕ} 0 1 = cc in absurd (omega arith)
halted_is stopped e = refl
halted_is spent e = let z : ◌≡◌ {A = ℕ} 0 1 = cc in absurd (omega arith)

lost_is : (x : Search Float) → lost ≡ met x → x ≡ spent
lost_is (found s) e = let z : ◌≡◌ {A = ℕ} 0 1 = cc in absurd (omega arith)
lost_is stopped e = let z : ◌≡◌ {A = ℕ} 0 1 = cc in absurd (omega arith)
lost_is spent e = refl

settled : (n : ℕ) (x : State Float) (u v : List Float) (w p : List ℕ) (j : ℕ) → x.u ≡ u → x.v ≡ v → x.way ≡ w → x.p ≡ p → x.j0 ≡ j
    → settle float n x ≡ st u v x.minv (back float (n + 1) w p j) w x.used j (record { delta = x.delta; j1 = x.j1 })
unfolding settle
settled n x u v w p j e1 e2 e3 e4 e5 = rw (← e1, ← e2, ← e3, ← e4, ← e5)

module _ (a : ℕ → ℕ → Float) (n : ℕ) where
  pub record Row (k : ℕ) (u v : List Float) (p way : List ℕ) : Type 0 where
    pub b : Least Float
    pub m : List Float
    pub used : List Bool
    pub j0 : ℕ
    pub is : found (st u v m p way used j0 b) ≡ rows float a n k
    pub sane : Sane n (st u v m p way used j0 b)

  pub row_first : Row 0 (replicate 129 float.zer) (replicate 129 float.zer) (replicate 129 0) (replicate 129 0)
  unfolding rows fresh
  row_first = record { b = none; m = replicate 129 float.top; used = replicate 129 false; j0 = 0; is = refl; sane = fresh_sane float n }

  module _ (k : ℕ) (u v : List Float) (p way : List ℕ) (r : Row k u v p way) (le : k < n) where
    pub begun_sane : Sane n (begun u v (set p 0 (k + 1)) way)
    unfolding start
    begun_sane = let q = start_sane float n (k + 1) (st u v r.m p way r.used r.j0 r.b) (omega arith) r.sane in record { p_le = q.p_le; way_le = q.way_le; j0_le = zero-le; j1_le = zero-le; p_some = q.p_some }

    pub begun_row : 0 < get_or (set p 0 (k + 1)) 0 0
    begun_row = rw (get_or-set_same p 0 (k + 1) 0 r.sane.p_some) (omega arith)

    runs : search float a n (n + 1) (begun u v (set p 0 (k + 1)) way) ≡ enter float a n (k + 1) (rows float a n k)
    unfolding enter start
    runs =
        rw (add-one n) (anew a n n u v (replicate 129 float.top) (set p 0 (k + 1)) way (replicate 129 false) 0 none r.b)
        ∙ ap (λ (x : Search Float). enter float a n (k + 1) x) r.is

    module _ (u' v' : List Float) (w' p' : List ℕ) (j : ℕ) (e : went u' v' w' p' j ≡ met (search float a n (n + 1) (begun u v (set p 0 (k + 1)) way))) where
      g : Got (search float a n (n + 1) (begun u v (set p 0 (k + 1)) way)) u' v' w' p' j
      g = got (search float a n (n + 1) (begun u v (set p 0 (k + 1)) way)) u' v' w' p' j e

      pub went_j : j ≤ n
      went_j = rw g.j0_is at (found_sane float a n (n + 1) (begun u v (set p 0 (k + 1)) way) g.s begun_sane (sym g.is)).j0_le

      pub went_way : (i : ℕ) → get_or w' i 0 ≤ n
      went_way i = rw g.way_is at ((found_sane float a n (n + 1) (begun u v (set p 0 (k + 1)) way) g.s begun_sane (sym g.is)).way_le i)

      pub row_next : Row (k + 1) u' v' (back float (n + 1) w' p' j) w'
      unfolding rows leave settle
      row_next =
          let x = g.s in
          let q = settle_sane float n x (found_sane float a n (n + 1) (begun u v (set p 0 (k + 1)) way) x begun_sane (sym g.is)) in
          let e1 : settle float n x ≡ st u' v' x.minv (back float (n + 1) w' p' j) w' x.used j (record { delta = x.delta; j1 = x.j1 }) = settled n x u' v' w' p' j g.u_is g.v_is g.way_is g.p_is g.j0_is in
          record {
            b = record { delta = x.delta; j1 = x.j1 };
            m = x.minv;
            used = x.used;
            j0 = j;
            is = ap (λ (y : State Float). found y) (sym e1) ∙ ap (leave float n) (sym g.is ∙ runs) ∙ sym (ap (λ (i : ℕ). rows float a n i) (add-one k));
            sane = subst (λ (y : State Float). Sane n y) e1 q;
          }

    pub row_halts : halted ≡ met (search float a n (n + 1) (begun u v (set p 0 (k + 1)) way)) → halts ≡ end_of (rows float a n n)
    unfolding rows leave
    row_halts e = sym (ap end_of (rows_stopped float a n (suc k) n (omega arith) (ap (leave float n) (sym runs ∙ halted_is (search float a n (n + 1) (begun u v (set p 0 (k + 1)) way)) e))))

    pub row_loses : lost ≡ met (search float a n (n + 1) (begun u v (set p 0 (k + 1)) way)) → loses ≡ end_of (rows float a n n)
    unfolding rows leave
    row_loses e = sym (ap end_of (rows_spent float a n (suc k) n (omega arith) (ap (leave float n) (sym runs ∙ lost_is (search float a n (n + 1) (begun u v (set p 0 (k + 1)) way)) e))))

    -- a search that ends without a column
    pub row_ends : (x : SearchError) (u' v' : List Float) (w' p' end : List ℕ) → met_of (Err x) u' v' w' p' ≡ met (search float a n (n + 1) (begun u v (set p 0 (k + 1)) way)) → pick_end (Err x) end ≡ end_of (rows float a n n)
    row_ends NotFinite u' v' w' p' end e = row_halts e
    row_ends Spent u' v' w' p' end e = row_loses e
