-- The births as a loop over the columns: one detection more, and a refusal. Assumes nothing.
use mathlib.Core.Path.{◌≡◌, refl, sym, ap, ◌∙◌}
use mathlib.Core.List.{List, [], ◌∷◌, ◌++◌}
use Prim.Native.Nat.{ℕ, suc, ◌+◌, ◌<◌}
use native.Mathlib.Numerals.{add-one}
use lib.IntN.{ℤ}
use lib.ListN.{length, take, drop, get_or, take-append-drop}
use lib.Seq.{take-suc, drop-cons}
use Rattle.number.specs.Reply.{refused, given}
use Rattle.settings.specs.declared.Cartesian3DTrackerConfig.{Cartesian3DTrackerConfig}
use Rattle.matrix.specs.Matrix.{Vector}
use Rattle.types.specs.States.{State}
use Rattle.calls.specs.Update.{Column}
use Rattle.calls.specs.Births.{Born, Births, born_unless_taken, births_of}
use Rattle.calls.proofs.Spawning.{births_nil, births_walk, walk_births}

module _ (c : Cartesian3DTrackerConfig) (sensor : ℕ) (now : ℤ) (places : List Vector) where
  -- all births so far, and one more
  abbrev and_then : Births → Born → Births
  and_then w b = record { state = b.state; fates = w.fates ++ (b.fate ∷ []) }

  one : (k : Column) (s : State) (b : Born) → born_unless_taken c sensor now places k.pair k.detection s ≡ given b
      → births_of c sensor now places (k ∷ []) s ≡ given (record { state = b.state; fates = b.fate ∷ [] })
  one k s b e =
      walk_births c sensor now places k [] s _
      (record { one = b; rest = record { state = b.state; fates = [] }; first = e; then = unfold births_of in refl; whole = refl })

  snoc : (l : List Column) (k : Column) (s : State) (w : Births) (b : Born) → births_of c sensor now places l s ≡ given w → born_unless_taken c sensor now places k.pair k.detection w.state ≡ given b
      → births_of c sensor now places (l ++ (k ∷ [])) s ≡ given (and_then w b)
  snoc [] k s w b e g =
      let p = births_nil c sensor now places s w e in
      one k s b (rw (← ap (λ (v : Births). v.state) p) g) ∙ ap (λ (v : Births). given (and_then v b)) (sym p)
  snoc (x ∷ l) k s w b e g =
      let p = births_walk c sensor now places x l s w e in
      walk_births c sensor now places x (l ++ (k ∷ [])) s (and_then w b)
      (record {
        one = p.one;
        rest = and_then p.rest b;
        first = p.first;
        then = snoc l k p.one.state p.rest b p.then (rw (← ap (λ (v : Births). v.state) p.whole) g);
        whole = ap (λ (v : Births). and_then v b) p.whole;
      })

  refused_after : (l : List Column) (k : Column) (r : List Column) (s : State) (w : Births) (n : ℕ) → births_of c sensor now places l s ≡ given w
      → born_unless_taken c sensor now places k.pair k.detection w.state ≡ refused n → births_of c sensor now places (l ++ (k ∷ r)) s ≡ refused n
  unfolding births_of
  refused_after [] k r s w n e g =
      let p = births_nil c sensor now places s w e in
      let q : born_unless_taken c sensor now places k.pair k.detection s ≡ refused n = rw (← ap (λ (v : Births). v.state) p) g in
      rw q
  refused_after (x ∷ l) k r s w n e g =
      let p = births_walk c sensor now places x l s w e in
      rw (p.first, refused_after l k r p.one.state p.rest n p.then (rw (← ap (λ (v : Births). v.state) p.whole) g))

  -- ---- at column j of l

  pub births_more : (l : List Column) (j : ℕ) (k : Column) (s : State) (w : Births) (b : Born) → j < length l → births_of c sensor now places (take j l) s ≡ given w
      → born_unless_taken c sensor now places (get_or l j k).pair (get_or l j k).detection w.state ≡ given b
      → births_of c sensor now places (take (j + 1) l) s ≡ given (record { state = b.state; fates = w.fates ++ (b.fate ∷ []) })
  births_more l j k s w b h e g = rw (add-one, take-suc l j k h) (snoc (take j l) (get_or l j k) s w b e g)

  pub births_stops : (l : List Column) (j : ℕ) (k : Column) (s : State) (w : Births) (n : ℕ) → j < length l → births_of c sensor now places (take j l) s ≡ given w
      → born_unless_taken c sensor now places (get_or l j k).pair (get_or l j k).detection w.state ≡ refused n → births_of c sensor now places l s ≡ refused n
  births_stops l j k s w n h e g =
      let split : l ≡ take j l ++ (get_or l j k ∷ drop (suc j) l) = sym (take-append-drop j l) ∙ ap (λ (r : List Column). take j l ++ r) (drop-cons l j k h) in
      rw split (refused_after (take j l) (get_or l j k) (drop (suc j) l) s w n e g)
