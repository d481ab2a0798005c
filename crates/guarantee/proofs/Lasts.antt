-- With the struck columns last, the births begin with those over the columns that are left. Assumes nothing.
use mathlib.Core.Path.{◌≡◌, refl}
use mathlib.Core.List.{List, [], ◌∷◌}
use mathlib.Core.Bool.{Bool, true, false}
use Prim.Native.Nat.{ℕ}
use lib.IntN.{ℤ}
use Rattle.number.specs.Reply.{given}
use Rattle.settings.specs.declared.Cartesian3DTrackerConfig.{Cartesian3DTrackerConfig}
use Rattle.matrix.specs.Matrix.{Vector}
use Rattle.lists.specs.Masks.{left_by, Every}
use Rattle.lists.proofs.Masks.{all_struck}
use Rattle.types.specs.States.{State}
use Rattle.calls.specs.Update.{Column}
use Rattle.calls.specs.Births.{Births, births_of}
use Rattle.calls.proofs.Spawning.{Later, Walk, births_nil, births_walk, walk_births, births_later}
use Rattle.guarantee.specs.Claim.{Last}

module _ (c : Cartesian3DTrackerConfig) (sensor : ℕ) (now : ℤ) (places : List Vector) where
  pub record Begins (k : List Bool) (l : List Column) (s : State) (w : Births) : Type 0 where
    pub part : Births
    pub runs : births_of c sensor now places (left_by k l) s ≡ given part
    pub same : left_by k w.fates ≡ part.fates
    pub later : Later part.state w.state

  -- nothing is left
  none_left : (k : List Bool) (l : List Column) (s : State) (w : Births) → left_by k l ≡ [] → left_by k w.fates ≡ [] → births_of c sensor now places l s ≡ given w → Begins k l s w
  none_left k l s w p q e =
      record { part = record { state = s; fates = [] }; runs = rw p (unfold births_of in refl); same = q; later = births_later c sensor now places l s w e }

  extend : (k : List Bool) (x : Column) (l : List Column) (s : State) (w : Births) (p : Walk c sensor now places x l s w) → Begins k l p.one.state p.rest → Begins (true ∷ k) (x ∷ l) s w
  unfolding left_by
  extend k x l s w p q =
      record {
        part = record { state = q.part.state; fates = p.one.fate ∷ q.part.fates };
        runs = walk_births c sensor now places x (left_by k l) s _ (record { one = p.one; rest = q.part; first = p.first; then = q.runs; whole = refl });
        same = rw (p.whole, q.same);
        later = rw p.whole q.later;
      }

  pub births_begin : (k : List Bool) (l : List Column) (s : State) (w : Births) → Last k → births_of c sensor now places l s ≡ given w → Begins k l s w
  unfolding Last left_by
  births_begin [] l s w h e = none_left [] l s w refl refl e
  births_begin (b ∷ k) [] s w h e = none_left (b ∷ k) [] s w refl (rw (births_nil c sensor now places s w e)) e
  births_begin (true ∷ k) (x ∷ l) s w h e =
      let p = births_walk c sensor now places x l s w e in
      extend k x l s w p (births_begin k l p.one.state p.rest h p.then)
  births_begin (false ∷ k) (x ∷ l) s w h e =
      none_left (false ∷ k) (x ∷ l) s w (all_struck k l h) (all_struck (false ∷ k) w.fates (unfold Every in (refl, h))) e
