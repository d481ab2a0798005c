-- What a sighting makes of the candidates. Assumes nothing.
use Rattle.std.specs.Prelude.{None, Option, Some}
use mathlib.Core.Path.{◌≡◌, refl, sym, ap, ◌∙◌}
use mathlib.Core.List.{[], ◌∷◌, ◌++◌}
use Prim.Native.Nat.{ℕ, ◌≤◌, ◌<◌}
use native.Mathlib.Omega.{arith}
use borrow.Author.Tests.{lt-ltb, le-ltb, le-leb, lt-leb}
use lib.IntN.{ℤ}
use lib.Ieee.{Float}
use lib.ListN.{length, set, get_or}
use lib.Seq.{get_or-take}
use Rattle.number.specs.Reply.{refused, given}
use Rattle.lists.specs.Table.{swap_remove}
use Rattle.detections.specs.declared.Detection.{Detection}
use Rattle.types.specs.declared.tracker.BirthCandidate.{BirthCandidate}
use Rattle.calls.specs.Births.{Nearest, nearest_from, continued_at, seen_again, first_sighting, sighted_by, sighted_for}
use Rattle.calls.proofs.Nearest.{nearest_stands}
use Rattle.birth_candidates.specs.declared.Candidates.{Candidates}
use Rattle.birth_candidates.specs.declared.Near.{Near}
use Rattle.birth_candidates.specs.Candidates.{list_of, over, no_candidate, near_of, seen_in, after_sighting}
use Rattle.birth_candidates.proofs.Listing.{front}

module _ (c : Candidates) where
  -- the one at k is x now
  pub enough : (required k : ℕ) (x : BirthCandidate) (n : ℕ) (u : Candidates) → n ≡ x.sightings → required ≤ n → u ≡ over c (swap_remove k (list_of c))
      → record { begins = Some n; candidates = u } ≡ seen_in c (continued_at required (list_of c) k x)
  unfolding continued_at
  enough required k x n u e h q = rw (← e, le-leb required n h, q)

  pub not_yet : (required k : ℕ) (x : BirthCandidate) (u : Candidates) → x.sightings < required → u ≡ over c (set (list_of c) k x)
      → record { begins = None; candidates = u } ≡ seen_in c (continued_at required (list_of c) k x)
  unfolding continued_at
  not_yet required k x u h q = rw (lt-leb required x.sightings h, q)

  module _ (radius : Float) (now : ℤ) (d : Detection) (required : ℕ) where
    -- none is near

    pub first_seen : (u : Candidates) → length (list_of c) < 64 → u ≡ over c (list_of c ++ (first_sighting radius now d ∷ []))
        → given (record { begins = None; candidates = u }) ≡ after_sighting c (sighted_by radius now d required (list_of c) None)
    unfolding sighted_by
    first_seen u h q = rw (lt-ltb (length (list_of c)) 64 h, q)

    pub no_room : 64 ≤ length (list_of c) → refused 11 ≡ after_sighting c (sighted_by radius now d required (list_of c) None)
    unfolding sighted_by
    no_room h = rw (le-ltb (length (list_of c)) 64 h)

    -- the nearest that was found is near, or none is

    module _ (size : length c.items ≡ 64) where
      stands : (o : Option Nearest) (r : Near) → nearest_from radius now d 0 None (list_of c) ≡ o → Some r ≡ near_of o → r.at < length (list_of c)
      stands None r e q = absurd (let z : ◌≡◌ {A = ℕ} 0 1 = cc in omega arith)
      stands (Some m) r e q =
          let z : r.at ≡ m.place = cc in
          omega (arith, (nearest_stands radius now d (list_of c) no_candidate m e).0)

      pub near_stands : (r : Near) → Some r ≡ near_of (nearest_from radius now d 0 None (list_of c)) → r.at < length (list_of c)
      near_stands r q = stands (nearest_from radius now d 0 None (list_of c)) r refl q

      found : (o : Option Nearest) (r : Near) → nearest_from radius now d 0 None (list_of c) ≡ o → Some r ≡ near_of o
          → sighted_by radius now d required (list_of c) o ≡ given (continued_at required (list_of c) r.at (seen_again radius now d (get_or c.items r.at no_candidate)))
      unfolding sighted_by
      found None r e q = absurd (let z : ◌≡◌ {A = ℕ} 0 1 = cc in omega arith)
      found (Some m) r e q =
          let z : r.at ≡ m.place = cc in
          let p = nearest_stands radius now d (list_of c) no_candidate m e in
          let h : r.at < length (list_of c) = omega (arith, p.0) in
          let f : get_or c.items r.at no_candidate ≡ m.candidate =
          sym (get_or-take (length (list_of c)) c.items r.at no_candidate h) ∙ ap (λ l. get_or l r.at no_candidate) (sym (front c (length (list_of c)) size refl)) ∙ ap (λ (k : ℕ). get_or (list_of c) k no_candidate) z ∙ p.1 in
          rw (z, rw z at f)

      pub found_near : (r : Near) → Some r ≡ near_of (nearest_from radius now d 0 None (list_of c))
          → sighted_for radius now d (Some required) (list_of c) ≡ given (continued_at required (list_of c) r.at (seen_again radius now d (get_or c.items r.at no_candidate)))
      unfolding sighted_for
      found_near r q = found (nearest_from radius now d 0 None (list_of c)) r refl q

    none : (o : Option Nearest) → None ≡ near_of o → o ≡ None
    none None q = refl
    none (Some m) q = absurd (let z : ◌≡◌ {A = ℕ} 0 1 = cc in omega arith)

    pub found_none : None ≡ near_of (nearest_from radius now d 0 None (list_of c)) → sighted_for radius now d (Some required) (list_of c) ≡ sighted_by radius now d required (list_of c) None
    unfolding sighted_for
    found_none q = ap (sighted_by radius now d required (list_of c)) (none (nearest_from radius now d 0 None (list_of c)) q)
