-- The search for a free column on whole numbers reaches one, with the potentials kept.
use mathlib.Core.Path.{◌≡◌, refl, ap, ◌∙◌}
use mathlib.Core.Logic.{◌⊎◌, inl, inr}
use mathlib.Core.Bool.{Bool, true, false}
use mathlib.Core.List.{List}
use Prim.Native.Nat.{ℕ, zero, suc, ◌+◌, ◌≤◌, ◌<◌}
use native.Mathlib.Omega.{arith}
use borrow.Author.Tests.{eqb-true, eqb-false}
use lib.Dec.{eqb}
use lib.ListN.{get_or}
use lib.Ieee.{Float}
use lib.Ieee.Scale.{finite}
use Rattle.whole.specs.Integer.{Integer}
use Rattle.kuhn_munkres.specs.Binary64.{float}
use Rattle.kuhn_munkres.specs.Steps.{State, Search, found, spent, look, step, search}
use Rattle.kuhn_munkres.proofs.Ranges.{search_on}
use Rattle.kuhn_munkres.proofs.Kept.{turn_p}
use Rattle.kuhn_munkres.proofs.Matched.{Shape, Reached, turn_shape, turn_pos}
use Rattle.kuhn_munkres.proofs.Top.{top_stays}
use Rattle.potentials.proofs.Numbers.{Entries, Turning, p_of}
use Rattle.potentials.proofs.Scan.{delta_finite}
use Rattle.potentials.proofs.Step.{turned_on}

module _ (n B c : ℕ) (a : ℕ → ℕ → Float) (A : ℕ → ℕ → Integer) (E : Entries n B a A) where
  -- a free column is reached
  pub record Arrived (bound : ℕ) (y : State Float) : Type 0 where
    pub reached : Reached float refl top_stays a n bound y
    pub turning : Turning n B c A y

  abbrev pub Outcome : ℕ → Search Float → Type 0
  Outcome bound r = (r ≡ spent) ⊎ ((y : State Float) × (r ≡ found y) × Arrived bound y)

  module _ (f : ℕ) (f-pos : 0 < f) (f-le : f ≤ n) where
    pub search_arrives : (bound k t : ℕ) → t + k ≤ bound → (s : State Float) → Shape float n t s → Turning n B c A s → 0 < p_of s s.j0 → p_of s f ≡ 0 → Outcome bound (search float a n k s)
    search_arrives bound zero t b s S G has free = inl (unfold search in refl)
    search_arrives bound (suc k) t b s S G has free = go (eqb (p_of x x.j0) 0) refl (search_arrives bound k (suc t) (omega arith) x shape (turned_on n B c a A E t s S G has f f-pos f-le free))
      where
        x : State Float
        x = step float n (look float a n s)

        fin : finite (look float a n s).delta ≡ true
        fin = delta_finite n B c a A E t s S G has f f-pos f-le free

        some : p_of s s.j0 ≡ 0 → ⊥
        some e = omega arith

        shape : Shape float n (suc t) x
        shape = turn_shape float refl top_stays a n t s S fin some

        go : (e : Bool) → eqb (p_of x x.j0) 0 ≡ e → (0 < p_of x x.j0 → p_of x f ≡ 0 → Outcome bound (search float a n k x)) → Outcome bound (search float a n (suc k) s)
        go true e ih =
            inr (
              x,
              search_on float a n k s (look float a n s) refl x true refl fin e,
              record {
                reached = record { t = suc t; t_le = omega arith; shape = shape; pos = turn_pos float refl top_stays a n t s S fin some; free = eqb-true (p_of x x.j0) 0 e };
                turning = turned_on n B c a A E t s S G has f f-pos f-le free;
              },
            )
        go false e ih =
            rw (search_on float a n k s (look float a n s) refl x false refl fin e)
            (ih (let q = eqb-false (p_of x x.j0) 0 e in omega arith) (ap (λ (p : List ℕ). get_or p f 0) (turn_p float a n s) ∙ free))
