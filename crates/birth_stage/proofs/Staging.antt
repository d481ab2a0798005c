-- The births of a batch: old candidates go, and the detections are walked. Assumes nothing.
use mathlib.Core.Path.{◌≡◌, refl, sym, ap, ◌∙◌}
use mathlib.Core.List.{List, [], ◌∷◌, map}
use Prim.Native.Nat.{ℕ}
use lib.IntN.{ℤ}
use lib.ListN.{take, length-map}
use Rattle.number.specs.Reply.{Reply, refused, given, and_then}
use Rattle.lists.specs.Lay.{lay}
use Rattle.lists.proofs.Laying.{take_lay}
use Rattle.matrix.specs.Matrix.{Vector}
use Rattle.types.specs.declared.tracker.BirthCandidate.{BirthCandidate}
use Rattle.types.specs.declared.tracker.Cartesian3DTracker.{Cartesian3DTracker}
use Rattle.types.specs.States.{state_of, tracks_of, candidates_of}
use Rattle.calls.specs.Update.{Column}
use Rattle.calls.specs.Births.{Births, remaining, with_candidates, confirmed_places, births_of}
use Rattle.birth_stage.specs.declared.Walked.{Walked}
use Rattle.birth_candidates.specs.declared.Candidates.{Candidates}
use Rattle.spawning.specs.declared.ruling.Spot.{Spot}
use Rattle.spawning.specs.declared.ruling.Places.{Places}
use Rattle.birth_candidates.specs.Candidates.{list_of, after_aging}
use Rattle.birth_candidates.proofs.Listing.{aged_is, aged_not}
use Rattle.spawning.specs.Ruling.{spot_at, no_spots, laid_out, places_of}
use Rattle.birth_stage.specs.Walk.{candidates_in, births_after, after_walk}

positions : (l : List Vector) → map (λ (s : Spot). s.position) (map spot_at l) ≡ l
positions [] = refl
positions (x ∷ l) = ap {B = List Vector} (λ r. x ∷ r) (positions l)

pub placed : (p : Places) (l : List Vector) → p ≡ laid_out l → places_of p ≡ l
unfolding places_of laid_out
placed p l e =
    ap (λ (q : Places). map (λ (s : Spot). s.position) (take q.count q.items)) e
    ∙ ap (λ (n : ℕ). map (λ (s : Spot). s.position) (take n (lay (map spot_at l) no_spots))) (sym (length-map l spot_at))
    ∙ ap (map (λ (s : Spot). s.position)) (take_lay (map spot_at l) no_spots)
    ∙ positions l

module _ (t : Cartesian3DTracker) (sensor : ℕ) (now : ℤ) (cols : List Column) where
  abbrev stay : Reply (List BirthCandidate)
  stay = remaining t.config.birth_candidate_timeout_ns now (list_of (candidates_in t))

  abbrev born : List BirthCandidate → Reply Births
  born l = births_of t.config sensor now (confirmed_places (tracks_of t)) cols (with_candidates l (state_of t))

  aged_births : births_after t.config sensor now cols (state_of t) ≡ and_then stay born
  unfolding births_after state_of candidates_of list_of
  aged_births = refl

  pub births_stops : (n : ℕ) → refused n ≡ after_aging (candidates_in t) stay → refused n ≡ after_walk t (births_after t.config sensor now cols (state_of t))
  births_stops n e = rw (aged_births, aged_not (candidates_in t) n stay e)

  pub births_done : (c : Candidates) (p : Places) (r : Reply Walked) → given c ≡ after_aging (candidates_in t) stay → p ≡ laid_out (confirmed_places (tracks_of t))
      → r ≡ after_walk t (births_of t.config sensor now (places_of p) cols (with_candidates (list_of c) (state_of t))) → r ≡ after_walk t (births_after t.config sensor now cols (state_of t))
  births_done c p r e q w = rw (aged_births, aged_is (candidates_in t) c stay e) (rw (placed p (confirmed_places (tracks_of t)) q) at w)
