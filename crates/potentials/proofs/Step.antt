-- The step by delta in a turn of the run on whole numbers is exact, so what holds between two turns holds after one more.
use mathlib.Core.Path.{◌≡◌, refl, sym, ap, ap₂, ◌∙◌, subst}
use mathlib.Core.Logic.{◌⊎◌, inl, inr}
use mathlib.Core.Bool.{Bool, true, false, cond, true≢false}
use mathlib.Core.List.{List}
use Prim.Native.Nat.{ℕ, ◌+◌, ◌^◌, ◌≤◌, ◌<◌}
use native.Mathlib.Omega.{arith}
use lib.ListN.{get_or, set, length}
use lib.Ieee.{Float, nan, binary64, add, sub}
use Rattle.whole.specs.Integer.{Integer, ◌+Z◌, ◌-Z◌, ◌≈◌, Within}
use Rattle.whole.specs.Whole.{WholeValue, whole_of}
use Rattle.whole.proofs.OneOne.{Hit, hit?}
use Rattle.whole.proofs.Exact.{add_whole, sub_whole}
use Rattle.whole.proofs.Values.{IsWhole, whole_same, is_whole}
use Rattle.kuhn_munkres.specs.Binary64.{float}
use Rattle.kuhn_munkres.specs.Steps.{State, mark, look, go_on, step, shift}
use Rattle.kuhn_munkres.proofs.Places.{scan_kept, shift_kept, shift_v, shift_minv, shift_u_hit, shift_u_miss}
use Rattle.kuhn_munkres.proofs.Kept.{look_used, turn_used, turn_way, turn_p, turn_j0}
use Rattle.kuhn_munkres.proofs.Matched.{Shape}
use Rattle.potentials.proofs.Turn.{Tree, Seen, Moved, seen, b_in, δ_in, moved}
use Rattle.potentials.proofs.Numbers.{Entries, Turning, u_of, v_of, m_of, p_of, way_of, used}
use Rattle.potentials.proofs.Scan

module _ (n B c : ℕ) (a : ℕ → ℕ → Float) (A : ℕ → ℕ → Integer) (E : Entries n B a A) (t : ℕ) (s : State Float) (S : Shape float n t s) (G : Turning n B c A s)
    (has : 0 < p_of s s.j0) (f : ℕ) (f-pos : 0 < f) (f-le : f ≤ n) (free : p_of s f ≡ 0) where
  abbrev l : State Float
  l = look float a n s

  abbrev x : State Float
  x = step float n l

  abbrev used' : List Bool
  used' = set s.used s.j0 true

  abbrev on' : ℕ → Bool
  on' k = get_or used' k false

  abbrev δ : Integer
  δ = whole_of l.delta

  delta_whole : IsWhole l.delta
  delta_whole = Scan.delta_whole n B c a A E t s S G has f f-pos f-le free

  sight : Seen n B A (p_of s) on' l.j1 (u_of s) (v_of s) (m_of l) (way_of l) δ
  sight = seen n B A (p_of s) S.sane.p_le E.small (used s) s.j0 (u_of s) (v_of s) (m_of s) (way_of s) G.tree f f-pos f-le free on' l.j1 (way_of l) δ (m_of l) (Scan.scanned n B c a A E t s S G has f f-pos f-le free)

  -- ---- what the scan and the step leave
  abbrev ui : Float
  ui = get_or s.u (p_of s s.j0) nan

  l_u : l.u ≡ s.u
  l_u = unfold look mark in (scan_kept float (a (p_of s s.j0)) ui (mark float s) n).u_is

  l_v : l.v ≡ s.v
  l_v = unfold look mark in (scan_kept float (a (p_of s s.j0)) ui (mark float s) n).v_is

  l_p : l.p ≡ s.p
  l_p = unfold look mark in (scan_kept float (a (p_of s s.j0)) ui (mark float s) n).p_is

  l_used : l.used ≡ used'
  l_used = look_used float a n s

  l_minv_long : n < length l.minv
  l_minv_long = unfold look mark in rw (scan_kept float (a (p_of s s.j0)) ui (mark float s) n).minv_long S.minv_long

  x_p : x.p ≡ s.p
  x_p = turn_p float a n s

  x_used : x.used ≡ used'
  x_used = turn_used float a n s

  x_way : x.way ≡ l.way
  x_way = turn_way float a n s

  x_j0 : x.j0 ≡ l.j1
  x_j0 = turn_j0 float a n s

  wide : (d : Integer) → Within (B + B + B + B + B + B + B + B) d → Within (2 ^ 53) d
  wide d w = let e = E.exact in (omega arith, omega arith)

  δ_within : Within (B + B + B + B) δ
  δ_within = δ_in n B A (p_of s) S.sane.p_le E.small on' l.j1 (u_of s) (v_of s) (m_of l) (way_of l) δ sight

  -- ---- the rows' potentials
  u_hit : (k : ℕ) → on' k ≡ true → WholeValue (get_or x.u (p_of s k) nan) (u_of s (p_of s k) +Z δ)
  u_hit k h =
      let b = sight.u_in k r.0 r.1 (inr h) in
      let d = δ_within in
      rw is (add_whole (get_or s.u (p_of s k) nan) l.delta (u_of s (p_of s k)) δ (G.potentials.u_at (p_of s k) r.1 (S.sane.p_le k)) delta_whole (wide (u_of s (p_of s k) +Z δ) (omega arith, omega arith)))
    where
      r : (k ≤ n) × (0 < p_of s k)
      r = sight.row k h

      is : get_or x.u (p_of s k) nan ≡ add binary64 (get_or s.u (p_of s k) nan) l.delta
      is =
          unfold step go_on in
          (subst (λ (i : ℕ). get_or (shift float l (n + 1)).u i nan ≡ add binary64 (get_or l.u i nan) l.delta) (ap (λ (q : List ℕ). get_or q k 0) l_p)
          (shift_u_hit float l (n + 1) k (let q = r.0 in omega arith) (rw (l_p, l_u) (let q = G.potentials.u_long in let w = S.sane.p_le k in omega arith)) (rw l_used h)
          (λ j m g e. S.one j k (omega arith) r.0 (λ z. S-row j m (rw l_used at g) z) (rw l_p at e)))
          ∙ ap (λ (q : List Float). add binary64 (get_or q (p_of s k) nan) l.delta) l_u)
        where
          S-row : (j : ℕ) → j < n + 1 → on' j ≡ true → p_of s j ≡ 0 → ⊥
          S-row j m g z = let w = (sight.row j g).1 in omega arith

  u_miss : (i : ℕ) → ((j : ℕ) → j ≤ n → on' j ≡ true → p_of s j ≡ i → ⊥) → get_or x.u i nan ≡ get_or s.u i nan
  u_miss i h = unfold step go_on in (shift_u_miss float l (n + 1) i (λ j m g e. h j (omega arith) (rw l_used at g) (rw l_p at e)) ∙ ap (λ (q : List Float). get_or q i nan) l_u)

  u_off : (k : ℕ) → k ≤ n → 0 < p_of s k → on' k ≡ false → get_or x.u (p_of s k) nan ≡ get_or s.u (p_of s k) nan
  u_off k h z g = u_miss (p_of s k) (λ j m o e. true≢false (sym o ∙ ap on' (S.one j k m h (λ w. positive (p_of s j) (sight.row j o).1 w) e) ∙ g))
    where
      positive : (i : ℕ) → 0 < i → i ≡ 0 → ⊥
      positive i z e = omega arith

  -- the row that a used place holds, or 0
  held_by : ℕ → ℕ
  held_by j = cond (on' j) (p_of s j) 0

  held_by_lem : (i j : ℕ) → 0 < i → held_by j ≡ i → (on' j ≡ true) × (p_of s j ≡ i)
  unfolding held_by
  held_by_lem i j z e = go (on' j) refl e
    where
      go : (b : Bool) → on' j ≡ b → cond b (p_of s j) 0 ≡ i → (on' j ≡ true) × (p_of s j ≡ i)
      go true g q = (g, q)
      go false g q = absurd (omega arith)

  by_held : (i j : ℕ) → on' j ≡ true → p_of s j ≡ i → held_by j ≡ i
  unfolding held_by
  by_held i j g e = ap (λ (b : Bool). cond b (p_of s j) 0) g ∙ e

  u_at : (i : ℕ) → 0 < i → i ≤ n → IsWhole (get_or x.u i nan)
  u_at i z h = go (hit? held_by (n + 1) i)
    where
      go : Hit held_by (n + 1) i ⊎ ((j : ℕ) → j < n + 1 → held_by j ≡ i → ⊥) → IsWhole (get_or x.u i nan)
      go (inl y) =
          let q = held_by_lem i y.0 z y.2 in
          rw (sym q.1) (is_whole (get_or x.u (p_of s y.0) nan) (u_of s (p_of s y.0) +Z δ) (u_hit y.0 q.0))
      go (inr y) = rw (u_miss i (λ j m g e. y j (omega arith) (by_held i j g e))) (G.potentials.u_at i z h)

  -- ---- the columns' potentials and their leasts
  v_is : (j : ℕ) → j ≤ n → get_or x.v j nan ≡ cond (on' j) (sub binary64 (get_or s.v j nan) l.delta) (get_or s.v j nan)
  v_is j h =
      unfold step go_on in
      (shift_v float l (n + 1) j (rw l_v (let q = G.potentials.v_long in omega arith)) (omega arith)
      ∙ ap₂ (λ (q : List Bool) (w : List Float). cond (get_or q j false) (sub binary64 (get_or w j nan) l.delta) (get_or w j nan)) l_used l_v)

  v_hit : (j : ℕ) → 0 < j → j ≤ n → on' j ≡ true → WholeValue (get_or x.v j nan) (v_of s j -Z δ)
  v_hit j z h g =
      let e : get_or x.v j nan ≡ sub binary64 (get_or s.v j nan) l.delta = v_is j h ∙ ap (λ (b : Bool). cond b (sub binary64 (get_or s.v j nan) l.delta) (get_or s.v j nan)) g in
      let d = δ_within in
      let q = sight.v_low j z h in
      let r = sight.v_high j z h in
      rw e (sub_whole (get_or s.v j nan) l.delta (v_of s j) δ (G.potentials.v_at j z h) delta_whole (wide (v_of s j -Z δ) (omega arith, omega arith)))

  v_off : (j : ℕ) → j ≤ n → on' j ≡ false → get_or x.v j nan ≡ get_or s.v j nan
  v_off j h g = v_is j h ∙ ap (λ (b : Bool). cond b (sub binary64 (get_or s.v j nan) l.delta) (get_or s.v j nan)) g

  v_at : (j : ℕ) → 0 < j → j ≤ n → IsWhole (get_or x.v j nan)
  v_at j z h = go (on' j) refl
    where
      go : (b : Bool) → on' j ≡ b → IsWhole (get_or x.v j nan)
      go true e = is_whole (get_or x.v j nan) (v_of s j -Z δ) (v_hit j z h e)
      go false e = rw (v_off j h e) (G.potentials.v_at j z h)

  m_off : (j : ℕ) → 0 < j → j ≤ n → on' j ≡ false → WholeValue (get_or x.minv j nan) (m_of l j -Z δ)
  m_off j z h g =
      let b = b_in n B A (p_of s) S.sane.p_le E.small on' l.j1 (u_of s) (v_of s) (m_of l) (way_of l) δ sight j z h g in
      let d = δ_within in
      let w = Scan.minv_whole n B c a A E t s S G has f f-pos f-le free j z h g in
      rw is (sub_whole (get_or l.minv j nan) l.delta (m_of l j) δ w delta_whole (wide (m_of l j -Z δ) (omega arith, omega arith)))
    where
      is : get_or x.minv j nan ≡ sub binary64 (get_or l.minv j nan) l.delta
      is =
          unfold step go_on in
          (shift_minv float l (n + 1) j (let q = l_minv_long in omega arith) (omega arith)
          ∙ ap (λ (b : Bool). cond b (get_or l.minv j nan) (sub binary64 (get_or l.minv j nan) l.delta)) (ap (λ (q : List Bool). get_or q j false) l_used ∙ g))

  same : {d e : Integer} → d ≡ e → d ≈ e
  same q = rw q (omega arith)

  shifted : Moved n B A (p_of s) on' (u_of s) (v_of s) (m_of l) (u_of x) (v_of x) (m_of x) δ
  shifted = record {
    u_on = λ k h. whole_same (get_or x.u (p_of s k) nan) (u_of s (p_of s k) +Z δ) (u_hit k h);
    u_off = λ k h z g. same (ap whole_of (u_off k h z g));
    v_on = λ j z h g. whole_same (get_or x.v j nan) (v_of s j -Z δ) (v_hit j z h g);
    v_off = λ j z h g. same (ap whole_of (v_off j h g));
    m_off = λ j z h g. whole_same (get_or x.minv j nan) (m_of l j -Z δ) (m_off j z h g);
  }

  -- ---- the turn
  tree_on : Tree n B A (p_of x) (used x) x.j0 (u_of x) (v_of x) (m_of x) (way_of x)
  tree_on = rw (x_p, x_used, x_j0, x_way) (moved n B A (p_of s) S.sane.p_le E.small on' l.j1 (u_of s) (v_of s) (m_of l) (way_of l) δ sight (u_of x) (v_of x) (m_of x) shifted)

  pub turned_on : Turning n B c A x
  turned_on = record {
    tree = tree_on;
    potentials = record {
      u_at = u_at;
      v_at = v_at;
      u_long = unfold step go_on in rw ((shift_kept float l (n + 1)).u_long, l_u) G.potentials.u_long;
      v_long = unfold step go_on in rw ((shift_kept float l (n + 1)).v_long, l_v) G.potentials.v_long;
    };
    m_at = λ j z h g. inr (rw x_j0 sight.j1_pos, is_whole (get_or x.minv j nan) (m_of l j -Z δ) (m_off j z h (rw x_used at g)));
    held = λ k h. rw x_p (G.held k h);
    rest = λ i h m. (let e : u_of x i ≡ u_of s i = ap whole_of (u_miss i (λ j q o w. above i j h q w)) in rw e (G.rest i h m));
  }
    where
      above : (i j : ℕ) → c < i → j ≤ n → p_of s j ≡ i → ⊥
      above i j h q w = let r = G.held j q in omega arith
