-- The search for a free column, from the code's arrays.
use mathlib.Core.Path.{◌≡◌, refl, sym, ap, ◌∙◌}
use mathlib.Core.Bool.{Bool, true, false}
use mathlib.Core.List.{List}
use Prim.Native.Nat.{ℕ, suc, ◌+◌, ◌-◌, ◌≤◌, ◌<◌}
use native.Mathlib.Omega.{arith}
use borrow.Author.Tests.{eq-eqb, ne_eqb}
use lib.ListN.{get_or}
use lib.Dec.{eqb}
use lib.Ieee.{Float}
use Rattle.kuhn_munkres.specs.Binary64.{float}
use lib.Ieee.Scale.{finite}
use Rattle.kuhn_munkres.specs.Steps.{State, look, step, search, turned}
use Rattle.kuhn_munkres.specs.Ranges.{Sane}
use Rattle.kuhn_munkres.proofs.Ranges.{look_sane, step_sane, search_stop, search_on}
use Rattle.hungarian.specs.Passes.{Least}
use Rattle.hungarian.specs.Ends.{went, halted, lost, met}
use Rattle.hungarian.proofs.Turn.{Holds}

module _ (a : ℕ → ℕ → Float) (n : ℕ) (first : State Float) where
  pub record In (t : ℕ) (u v minv : List Float) (p way : List ℕ) (used : List Bool) (j0 : ℕ) : Type 0 where
    pub s : State Float
    pub b : Least Float
    pub holds : Holds float s u v minv p way used j0 b
    pub sane : Sane n s
    pub row : 0 < get_or p j0 0
    pub rest : search float a n (n + 1 - t) s ≡ search float a n (n + 1) first

  module _ (t : ℕ) (u v minv : List Float) (p way : List ℕ) (used : List Bool) (j0 : ℕ) (i : In t u v minv p way used j0) where
    pub in_j0 : j0 ≤ n
    in_j0 = rw (ap (λ (x : State Float). x.j0) i.holds.is) at i.sane.j0_le

    pub in_p : (k : ℕ) → get_or p k 0 ≤ n
    in_p k = rw (ap (λ (x : State Float). x.p) i.holds.is) at (i.sane.p_le k)

    module _ (le : t ≤ n) (u' v' minv' minv'' : List Float) (way' : List ℕ) (used' : List Bool) (b' : Least Float) (hl : Holds float (look float a n i.s) u v minv' p way' used' j0 b') where
      fuel : n + 1 - t ≡ suc (n - t)
      fuel = omega arith

      fuel' : n + 1 - (t + 1) ≡ n - t
      fuel' = omega arith

      goes : search float a n (suc (n - t)) i.s ≡ search float a n (n + 1) first
      goes = rw fuel at i.rest

      delta_is : (look float a n i.s).delta ≡ b'.delta
      delta_is = ap (λ (x : State Float). x.delta) hl.is

      pub next_j0 : b'.j1 ≤ n
      next_j0 = rw (ap (λ (x : State Float). x.j1) hl.is) at (look_sane float n a i.s i.sane).j1_le

      pub stops : finite b'.delta ≡ false → halted ≡ met (search float a n (n + 1) first)
      stops h = sym (ap met (sym goes ∙ search_stop float a n (n - t) i.s (look float a n i.s) refl (ap finite delta_is ∙ h)))

      module _ (hs : Holds float (step float n (look float a n i.s)) u' v' minv'' p way' used' b'.j1 b') (fine : finite b'.delta ≡ true) where
        on : (free : Bool) → eqb (get_or p b'.j1 0) 0 ≡ free → search float a n (n + 1) first ≡ turned float true free (step float n (look float a n i.s)) (search float a n (n - t) (step float n (look float a n i.s)))
        on free h = sym goes ∙ search_on float a n (n - t) i.s (look float a n i.s) refl (step float n (look float a n i.s)) free refl (ap finite delta_is ∙ fine) (ap (λ (x : State Float). eqb (get_or x.p x.j0 0) 0) hs.is ∙ h)

        pub finds : get_or p b'.j1 0 ≡ 0 → went u' v' way' p b'.j1 ≡ met (search float a n (n + 1) first)
        finds h = sym (ap met (on true (eq-eqb _ _ h)) ∙ ap (λ (x : State Float). went x.u x.v x.way x.p x.j0) hs.is)

        pub goes_on : (get_or p b'.j1 0 ≡ 0 → ⊥) → In (t + 1) u' v' minv'' p way' used' b'.j1
        goes_on h = record {
          s = step float n (look float a n i.s);
          b = b';
          holds = hs;
          sane = step_sane float n (look float a n i.s) (look_sane float n a i.s i.sane);
          row = omega (arith, h);
          rest = rw fuel' (sym (on false (ne_eqb _ _ h)));
        }

    pub ends : n + 1 ≤ t → lost ≡ met (search float a n (n + 1) first)
    unfolding search
    ends h = let e : n + 1 - t ≡ 0 = omega arith in ap met (rw e at i.rest)
