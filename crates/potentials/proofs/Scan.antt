-- The scan of a row in a turn of the run on whole numbers: each number that it works out is exact, and the column that it chooses is a nearest one.
use mathlib.Core.Path.{◌≡◌, refl, sym, ap, ◌∙◌}
use mathlib.Core.Logic.{◌⊎◌, inl, inr}
use mathlib.Core.Bool.{Bool, true, false, cond, true≢false}
use Prim.Native.Nat.{ℕ, ◌+◌, ◌^◌, ◌≤◌, ◌<◌}
use native.Mathlib.Omega.{arith}
use borrow.Author.Tests.{ltb-true, ltb-false, lt-ltb, le-ltb}
use lib.ListN.{get_or, set, length}
use lib.Ieee.{Float, nan, inf, binary64, sub, lt}
use lib.Ieee.Scale.{finite}
use Rattle.whole.specs.Integer.{Integer, ◌-Z◌, ◌≤Z◌, ◌≈◌, Within}
use Rattle.whole.specs.Whole.{WholeValue, whole_of}
use Rattle.whole.proofs.Exact.{sub_whole, lt_whole}
use Rattle.whole.proofs.Values.{IsWhole, whole_same, is_whole, whole_finite, lt_top, top_lt}
use Rattle.kuhn_munkres.specs.Binary64.{float}
use Rattle.kuhn_munkres.specs.Steps.{State, mark, look}
use Rattle.kuhn_munkres.proofs.Marks.{mark_set, mark_cases, mark_more, mark_less}
use Rattle.kuhn_munkres.proofs.Places.{cur, falls, best, Looked, Chosen, scan_used, scan_looked, scan_chosen}
use Rattle.kuhn_munkres.proofs.Matched.{Shape}
use Rattle.potentials.proofs.Turn.{Was, Now, Scanned, part_in, red_in}
use Rattle.potentials.proofs.Numbers.{Entries, Turning, u_of, v_of, m_of, p_of, way_of, used}

-- ---- the order of numbers that are whole, or the top
Compared : Float → Type 0
Compared x = (x ≡ inf false) ⊎ IsWhole x

compared_irrefl : (x : Float) → Compared x → lt x x ≡ false
unfolding Compared
compared_irrefl x (inl e) = rw e (top_lt (inf false))
compared_irrefl x (inr w) = let d = whole_of x in lt_whole x x d d w w ∙ le-ltb (d.up + d.dn) (d.up + d.dn) (omega arith)

compared_trans : (x y z : Float) → Compared x → Compared y → Compared z → lt x y ≡ true → lt y z ≡ true → lt x z ≡ true
unfolding Compared
compared_trans x y z (inl p) q r e f = absurd (true≢false (sym e ∙ ap (λ (w : Float). lt w y) p ∙ top_lt y))
compared_trans x y z (inr p) (inl q) r e f = absurd (true≢false (sym f ∙ ap (λ (w : Float). lt w z) q ∙ top_lt z))
compared_trans x y z (inr p) (inr q) (inl r) e f = rw r (lt_top x (whole_of x) p)
compared_trans x y z (inr p) (inr q) (inr r) e f =
    let a = whole_of x in
    let b = whole_of y in
    let c = whole_of z in
    let g = ltb-true (a.up + b.dn) (b.up + a.dn) (sym (lt_whole x y a b p q) ∙ e) in
    let h = ltb-true (b.up + c.dn) (c.up + b.dn) (sym (lt_whole y z b c q r) ∙ f) in
    lt_whole x z a c p r ∙ lt-ltb (a.up + c.dn) (c.up + a.dn) (omega arith)

-- ---- the scan
module _ (n B c : ℕ) (a : ℕ → ℕ → Float) (A : ℕ → ℕ → Integer) (E : Entries n B a A) (t : ℕ) (s : State Float) (S : Shape float n t s) (G : Turning n B c A s)
    (has : 0 < p_of s s.j0) (f : ℕ) (f-pos : 0 < f) (f-le : f ≤ n) (free : p_of s f ≡ 0) where
  abbrev i0 : ℕ
  i0 = p_of s s.j0

  abbrev ui : Float
  ui = get_or s.u i0 nan

  abbrev l : State Float
  l = look float a n s

  abbrev on' : ℕ → Bool
  on' k = get_or (set s.used s.j0 true) k false

  -- the reduced cost of column j
  abbrev red : ℕ → Integer
  red j = A i0 j -Z u_of s i0 -Z v_of s j

  abbrev new : ℕ → Float
  new j = cur float (a i0) ui (mark float s) j

  abbrev least : ℕ → Float
  least j = best float (a i0) ui (mark float s) j

  wide : (k : ℕ) (d : Integer) → k ≤ 2 ^ 53 → Within k d → Within (2 ^ 53) d
  wide k d h w = (omega arith, omega arith)

  new_is : (j : ℕ) → 0 < j → j ≤ n → WholeValue (new j) (red j)
  unfolding mark
  new_is j z h =
      let x = E.exact in
      let p_le = S.sane.p_le in
      let l0 = S.sane.j0_le in
      let part = part_in n B A (p_of s) p_le E.small (used s) s.j0 (u_of s) (v_of s) (m_of s) (way_of s) G.tree f f-pos f-le free l0 has j z h in
      let whole = red_in n B A (p_of s) p_le E.small (used s) s.j0 (u_of s) (v_of s) (m_of s) (way_of s) G.tree f f-pos f-le free l0 has j z h in
      sub_whole (sub binary64 (a i0 j) ui) (get_or s.v j nan) (A i0 j -Z u_of s i0) (v_of s j)
      (sub_whole (a i0 j) ui (A i0 j) (u_of s i0) (E.value i0 j has (p_le s.j0) z h) (G.potentials.u_at i0 has (p_le s.j0)) (wide (B + B) (A i0 j -Z u_of s i0) (omega arith) part))
      (G.potentials.v_at j z h)
      (wide (B + B + B + B) (red j) (omega arith) whole)

  -- ---- the marks
  j0_in : s.j0 < length s.used
  j0_in = let g = S.used_long in let h = S.sane.j0_le in omega arith

  now_on : (k : ℕ) → on' k ≡ true → (used s k ≡ true) ⊎ (k ≡ s.j0)
  now_on k h = elim (mark_cases s.used s.j0 j0_in k h) [ inl e ↦ inr e | inr e ↦ inl e ]

  -- ---- a column that is not used: its least is the new reduced cost, or the old least
  seen_at : (j : ℕ) → 0 < j → j ≤ n → on' j ≡ false → Looked float (a i0) ui (mark float s) l j
  unfolding look mark
  seen_at j z h g = scan_looked float (a i0) ui (mark float s) n j z h g (let m = S.minv_long in omega arith) (let m = S.way_long in omega arith)

  record Fell (j : ℕ) : Type 0 where
    least_new : least j ≡ new j
    way_new : way_of l j ≡ s.j0
    not_above : 0 < s.j0 → red j ≤Z m_of s j

  record Stayed (j : ℕ) : Type 0 where
    later : 0 < s.j0
    was_whole : IsWhole (get_or s.minv j nan)
    least_old : least j ≡ get_or s.minv j nan
    way_old : way_of l j ≡ way_of s j
    not_below : m_of s j ≤Z red j

  fell_or_stayed : (j : ℕ) → 0 < j → j ≤ n → on' j ≡ false → Fell j ⊎ Stayed j
  unfolding mark
  fell_or_stayed j z h g = go (falls float (a i0) ui (mark float s) j) refl (G.m_at j z h (mark_less s.used s.j0 j0_in j g)) (seen_at j z h g).way_is
    where
      go : (b : Bool) → lt (new j) (get_or s.minv j nan) ≡ b → ((s.j0 ≡ 0) × (get_or s.minv j nan ≡ inf false)) ⊎ ((0 < s.j0) × IsWhole (get_or s.minv j nan))
          → way_of l j ≡ cond (lt (new j) (get_or s.minv j nan)) s.j0 (way_of s j) → Fell j ⊎ Stayed j
      go true e m w = inl (record {
        least_new = ap (λ (b : Bool). cond b (new j) (get_or s.minv j nan)) e;
        way_new = w ∙ ap (λ (b : Bool). cond b s.j0 (way_of s j)) e;
        not_above = λ q. above q m;
      })
        where
          above : 0 < s.j0 → ((s.j0 ≡ 0) × (get_or s.minv j nan ≡ inf false)) ⊎ ((0 < s.j0) × IsWhole (get_or s.minv j nan)) → red j ≤Z m_of s j
          above q (inl x) = let y = x.0 in absurd (omega arith)
          above q (inr x) =
              let y = ltb-true ((red j).up + (m_of s j).dn) ((m_of s j).up + (red j).dn) (sym (lt_whole (new j) (get_or s.minv j nan) (red j) (m_of s j) (new_is j z h) x.1) ∙ e) in
              omega arith
      go false e (inl x) w = absurd (true≢false (sym (lt_top (new j) (red j) (new_is j z h)) ∙ ap (λ (y : Float). lt (new j) y) (sym x.1) ∙ e))
      go false e (inr x) w = inr (record {
        later = x.0;
        was_whole = x.1;
        least_old = ap (λ (b : Bool). cond b (new j) (get_or s.minv j nan)) e;
        way_old = w ∙ ap (λ (b : Bool). cond b s.j0 (way_of s j)) e;
        not_below = (let y = ltb-false ((red j).up + (m_of s j).dn) ((m_of s j).up + (red j).dn) (sym (lt_whole (new j) (get_or s.minv j nan) (red j) (m_of s j) (new_is j z h) x.1) ∙ e) in omega arith);
      })

  least_whole : (j : ℕ) → 0 < j → j ≤ n → on' j ≡ false → IsWhole (least j)
  least_whole j z h g = elim (fell_or_stayed j z h g) [ inl x ↦ rw x.least_new (is_whole (new j) (red j) (new_is j z h)) | inr x ↦ rw x.least_old x.was_whole ]

  pub minv_whole : (j : ℕ) → 0 < j → j ≤ n → on' j ≡ false → IsWhole (get_or l.minv j nan)
  minv_whole j z h g = rw (seen_at j z h g).minv_is (least_whole j z h g)

  came : (j : ℕ) → 0 < j → j ≤ n → on' j ≡ false → Was n B A (p_of s) s.j0 (u_of s) (v_of s) (m_of s) (way_of s) (way_of l) (m_of l) j ⊎ Now n B A (p_of s) s.j0 (u_of s) (v_of s) (m_of s) (way_of l) (m_of l) j
  came j z h g = go (fell_or_stayed j z h g)
    where
      e : get_or l.minv j nan ≡ least j
      e = (seen_at j z h g).minv_is

      go : Fell j ⊎ Stayed j → Was n B A (p_of s) s.j0 (u_of s) (v_of s) (m_of s) (way_of s) (way_of l) (m_of l) j ⊎ Now n B A (p_of s) s.j0 (u_of s) (v_of s) (m_of s) (way_of l) (m_of l) j
      go (inl x) =
          let q : m_of l j ≈ red j = rw (e ∙ x.least_new) (whole_same (new j) (red j) (new_is j z h)) in
          inr (record { b_now = q; way_now = x.way_new; below = λ y. (let w = x.not_above y in omega arith) })
      go (inr x) =
          let q : m_of l j ≡ m_of s j = ap whole_of (e ∙ x.least_old) in
          inl (record { later = x.later; b_was = rw q (omega arith); way_was = x.way_old; below = x.not_below })

  -- ---- the choice
  chosen : Chosen float (a i0) ui (mark float s) n l
  unfolding look Compared mark
  chosen = scan_chosen float (a i0) ui (mark float s) Compared compared_irrefl compared_trans (inl refl) n (λ j z h g. inr (least_whole j z h g))

  f_off : on' f ≡ false
  f_off = go (on' f) refl
    where
      go : (b : Bool) → on' f ≡ b → b ≡ false
      go true e = absurd (elim (now_on f e) [ inl q ↦ S.row f q free | inr q ↦ (let w : p_of s s.j0 ≡ 0 = ap (p_of s) (sym q) ∙ free in omega arith) ])
      go false e = refl

  record Nearest : Type 0 where
    near_pos : 0 < l.j1
    near_le : l.j1 ≤ n
    near_off : on' l.j1 ≡ false
    near_is : l.delta ≡ least l.j1

  nearest : Nearest
  unfolding mark
  nearest = go chosen.from
    where
      go : ((l.delta ≡ inf false) × (l.j1 ≡ 0)) ⊎ ((0 < l.j1) × (l.j1 ≤ n) × (on' l.j1 ≡ false) × (l.delta ≡ least l.j1)) → Nearest
      go (inl x) = absurd (true≢false (sym (lt_top (least f) (whole_of (least f)) (least_whole f f-pos f-le f_off)) ∙ ap (λ (y : Float). lt (least f) y) (sym x.0) ∙ chosen.least f f-pos f-le f_off))
      go (inr x) = record { near_pos = x.0; near_le = x.1; near_off = x.2; near_is = x.3 }

  pub delta_whole : IsWhole l.delta
  delta_whole = rw nearest.near_is (least_whole l.j1 nearest.near_pos nearest.near_le nearest.near_off)

  pub delta_finite : finite l.delta ≡ true
  delta_finite = whole_finite l.delta (whole_of l.delta) delta_whole

  abbrev δ : Integer
  δ = whole_of l.delta

  δ_least : (j : ℕ) → 0 < j → j ≤ n → on' j ≡ false → δ ≤Z m_of l j
  unfolding mark
  δ_least j z h g =
      let e : m_of l j ≡ whole_of (least j) = ap whole_of (seen_at j z h g).minv_is in
      let b = whole_of (least j) in
      let q = ltb-false (b.up + δ.dn) (δ.up + b.dn) (sym (lt_whole (least j) l.delta b δ (least_whole j z h g) delta_whole) ∙ chosen.least j z h g) in
      rw e (omega arith)

  pub scanned : Scanned n B A (p_of s) (used s) s.j0 (u_of s) (v_of s) (m_of s) (way_of s) on' l.j1 (way_of l) δ (m_of l)
  unfolding look mark
  scanned = record {
    now_on = now_on;
    still_on = mark_more s.used s.j0 j0_in;
    at_on = mark_set s.used s.j0 j0_in;
    j0_le = S.sane.j0_le;
    j0_row = has;
    j1_pos = nearest.near_pos;
    j1_le = nearest.near_le;
    j1_off = nearest.near_off;
    came = came;
    way_on = λ j h. (scan_used float (a i0) ui (mark float s) n j h).way_was;
    δ_is = same (ap whole_of (nearest.near_is ∙ sym (seen_at l.j1 nearest.near_pos nearest.near_le nearest.near_off).minv_is));
    δ_least = δ_least;
  }
    where
      same : {d e : Integer} → d ≡ e → d ≈ e
      same q = rw q (omega arith)
