-- What a turn of the search for a free column knows from its invariant. Assumes nothing.
use mathlib.Core.Path.{◌≡◌}
use mathlib.Core.Bool.{Bool, true, false}
use mathlib.Core.List.{List}
use Prim.Native.Nat.{ℕ, ◌+◌, ◌≤◌, ◌<◌}
use lib.ListN.{get_or, set}
use lib.Ieee.{Float}
use lib.Ieee.Scale.{finite}
use Rattle.kuhn_munkres.specs.Binary64.{float}
use Rattle.kuhn_munkres.specs.Steps.{State, look, step, search}
use Rattle.hungarian.specs.Passes.{Least, relaxed, chosen, two, paid, lowered, pots}
use Rattle.hungarian.specs.Ends.{went, halted, met}
use Rattle.hungarian.proofs.Places.{under}
use Rattle.hungarian.proofs.Entries.{outside}
use Rattle.hungarian.proofs.Turn.{Holds, looked, stepped}
use Rattle.hungarian.proofs.Path.{In, in_j0, in_p, next_j0, stops, finds, goes_on}

module _ {a : ℕ → ℕ → Float} {n : ℕ} {first : State Float} {t : ℕ} {u v minv : List Float} {p way : List ℕ} {used : List Bool} {j0 : ℕ} (few : n < 129) (i : In a n first t u v minv p way used j0) where
  pub j0_room : j0 < 129
  j0_room = under (in_j0 a n first t u v minv p way used j0 i) few

  pub row_in : (k : ℕ) → get_or p k 0 ≤ n
  row_in k = in_p a n first t u v minv p way used j0 i k

  pub row_room : (k : ℕ) → get_or p k 0 < 129
  row_room k = under (row_in k) few

  module _ {minv' : List Float} {way' : List ℕ} {b' : Least Float} (le : t ≤ n) (relaxes : two minv' way' ≡ relaxed float (a (get_or p j0 0)) (get_or u (get_or p j0 0) float.out) v j0 (two (set minv j0 float.out) way) n) (chooses : b' ≡ chosen float minv' n) where
    pub seen : Holds float (look float a n i.s) u v minv' p way' (set used j0 true) j0 b'
    seen = looked float outside a n few i.s u v minv p way used j0 i.b i.holds j0_room minv' way' b' relaxes chooses

    pub next_room : b'.j1 < 129
    next_room = under (next_j0 a n first t u v minv p way used j0 i le u v minv' minv' way' (set used j0 true) b' seen) few

    pub stopped_here : finite b'.delta ≡ false → halted ≡ met (search float a n (n + 1) first)
    stopped_here h = stops a n first t u v minv p way used j0 i le u v minv' minv' way' (set used j0 true) b' seen h

    module _ {u' v' minv'' : List Float} (fine : finite b'.delta ≡ true) (pays : pots u' v' ≡ paid float (set used j0 true) p b'.delta (pots u v) (n + 1)) (lowers : minv'' ≡ lowered float b'.delta minv' (n + 1)) where
      shifted : Holds float (step float n (look float a n i.s)) u' v' minv'' p way' (set used j0 true) b'.j1 b'
      shifted = stepped float outside a n few (look float a n i.s) u v minv' p way' (set used j0 true) j0 b' seen u' v' minv'' pays lowers

      pub found_here : get_or p b'.j1 0 ≡ 0 → went u' v' way' p b'.j1 ≡ met (search float a n (n + 1) first)
      found_here h = finds a n first t u v minv p way used j0 i le u' v' minv' minv'' way' (set used j0 true) b' seen shifted fine h

      pub next_turn : (get_or p b'.j1 0 ≡ 0 → ⊥) → In a n first (t + 1) u' v' minv'' p way' (set used j0 true) b'.j1
      next_turn h = goes_on a n first t u v minv p way used j0 i le u' v' minv' minv'' way' (set used j0 true) b' seen shifted fine h
