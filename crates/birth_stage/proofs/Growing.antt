-- What births leave alone: no track goes, and the sensors stay. Assumes nothing.
use Rattle.std.specs.Prelude.{None, Option, Some}
use mathlib.Core.Path.{◌≡◌, refl, sym, subst, ◌∙◌}
use mathlib.Core.Bool.{Bool}
use mathlib.Core.List.{List, [], ◌∷◌}
use Prim.Native.Nat.{ℕ, ◌≤◌}
use native.Mathlib.Omega.{arith}
use lib.IntN.{ℤ}
use lib.ListN.{length, length-append}
use Rattle.number.specs.Reply.{given}
use Rattle.settings.specs.declared.Cartesian3DTrackerConfig.{Cartesian3DTrackerConfig}
use Rattle.matrix.specs.Matrix.{Vector}
use Rattle.detections.specs.declared.Detection.{Detection}
use Rattle.types.specs.declared.track.Track3D.{Track3D}
use Rattle.types.specs.declared.tracker.BirthCandidate.{BirthCandidate}
use Rattle.types.specs.States.{State}
use Rattle.calls.specs.Update.{Match, Column}
use Rattle.calls.specs.Births.{Born, Births, born_unless_taken, born_unless_low, low_score, near_confirmed, births_of, remaining, with_candidates, confirmed_places}
use Rattle.number.proofs.Replies.{given_same, bound}
use Rattle.calls.proofs.Spawning.{births_nil, births_walk}
use Rattle.birth_stage.specs.One.{one_of}
use Rattle.birth_stage.specs.Walk.{births_after}
use Rattle.birth_stage.proofs.Walking.{born_with, one_born}

-- b has no fewer tracks than a, the same time and the same sensors
pub record Grows (a b : State) : Type 0 where
  pub tracks : length a.tracks ≤ length b.tracks
  pub last : b.last ≡ a.last
  pub sequences : b.sequences ≡ a.sequences

grows_with : (s : State) (l : List BirthCandidate) (o : Option Track3D) → Grows s (born_with s l o).state
unfolding born_with
grows_with s l None = record { tracks = omega arith; last = refl; sequences = refl }
grows_with s l (Some t) = record { tracks = omega (arith, length-append s.tracks (t ∷ [])); last = refl; sequences = refl }

module _ (c : Cartesian3DTrackerConfig) (sensor : ℕ) (now : ℤ) where
  grows_low : (low near : Bool) (d : Detection) (s : State) (b : Born) → born_unless_low c sensor now low near d s ≡ given b → Grows s b.state
  grows_low low near d s b e =
      let p = bound (one_of c sensor now low near d (length s.tracks) s.next s.candidates) _ b (sym (one_born c sensor now low near d s) ∙ e) in
      subst (λ (x : Born). Grows s x.state) (given_same _ b p.2) (grows_with s p.0.candidates p.0.track)

  module _ (places : List Vector) where
    grows_one : (p : Option Match) (d : Detection) (s : State) (b : Born) → born_unless_taken c sensor now places p d s ≡ given b → Grows s b.state
    unfolding born_unless_taken
    grows_one None d s b e = grows_low (low_score c d) (near_confirmed c places d) d s b e
    grows_one (Some m) d s b e = subst (λ (x : Born). Grows s x.state) (given_same _ b e) (record { tracks = omega arith; last = refl; sequences = refl })

    pub births_grow : (l : List Column) (s : State) (w : Births) → births_of c sensor now places l s ≡ given w → Grows s w.state
    births_grow [] s w e = subst (λ (x : Births). Grows s x.state) (sym (births_nil c sensor now places s w e)) (record { tracks = omega arith; last = refl; sequences = refl })
    births_grow (k ∷ l) s w e =
        let p = births_walk c sensor now places k l s w e in
        let a = grows_one k.pair k.detection s p.one p.first in
        let b = births_grow l p.one.state p.rest p.then in
        subst (λ (x : Births). Grows s x.state) (sym p.whole) (record { tracks = omega (arith, a.tracks, b.tracks); last = b.last ∙ a.last; sequences = b.sequences ∙ a.sequences })

  -- the same once old candidates are gone
  pub after_grows : (l : List Column) (s : State) (w : Births) → births_after c sensor now l s ≡ given w → Grows s w.state
  unfolding births_after
  after_grows l s w e =
      let p = bound (remaining c.birth_candidate_timeout_ns now s.candidates) _ w e in
      let g = births_grow (confirmed_places s.tracks) l (with_candidates p.0 s) w p.2 in
      record { tracks = g.tracks; last = g.last; sequences = g.sequences }
