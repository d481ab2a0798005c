-- One detection that no track took: what its parts answer together. Assumes nothing.
use Rattle.std.specs.Prelude.{None, Option, Some}
use mathlib.Core.Path.{◌≡◌, refl, sym, ap, ◌∙◌}
use mathlib.Core.Bool.{Bool, true, false}
use mathlib.Core.List.{List}
use Prim.Native.Nat.{ℕ}
use native.Mathlib.Omega.{arith}
use lib.IntN.{ℤ}
use Rattle.number.specs.Reply.{Reply, refused, given, and_then}
use Rattle.number.proofs.Replies.{given_same, never_given}
use Rattle.settings.specs.declared.Cartesian3DTrackerConfig.{Cartesian3DTrackerConfig}
use Rattle.detections.specs.declared.Detection.{Detection}
use Rattle.types.specs.declared.track.Track3D.{Track3D}
use Rattle.types.specs.declared.tracker.BirthCandidate.{BirthCandidate}
use Rattle.calls.specs.Births.{Sighting, sighted_for, sighted}
use Rattle.birth_candidates.specs.declared.Candidates.{Candidates}
use Rattle.birth_candidates.specs.declared.Sighted.{Sighted}
use Rattle.spawning.specs.declared.ruling.Ruling.TheVariants as ruling
use Rattle.spawning.specs.declared.spawn.Begin.{Begin}
use Rattle.birth_stage.specs.declared.one.Considered.{Considered}
use Rattle.birth_candidates.specs.Candidates.{list_of, over, seen_in, after_sighting}
use Rattle.birth_candidates.proofs.Listing.{listed}
use Rattle.spawning.specs.Ruling.{ruling_of}
use Rattle.birth_stage.specs.One.{decided_of, begin_with, tried_of, One, one_with, one_of, after_one}

-- ---- by the ruling

module _ (config : Cartesian3DTrackerConfig) (now : ℤ) (d : Detection) (c : Candidates) where
  abbrev decided : Bool → Bool → Reply Sighted
  decided low near = after_sighting c (decided_of config now low near d (list_of c))

  passed_by : (low near : Bool) (o : Option ℕ) (u : Candidates) → config.birth_persistence ≡ o → ruling.Passed ≡ ruling_of low near o → u ≡ over c (list_of c)
      → given (record { begins = None; candidates = u }) ≡ decided low near
  unfolding ruling_of decided_of sighted sighted_for
  passed_by true near o u p e q = rw q
  passed_by false false o u p e q = absurd (let z : ◌≡◌ {A = ℕ} 0 1 = cc in omega arith)
  passed_by false true None u p e q = rw (p, q)
  passed_by false true (Some k) u p e q = absurd (let z : ◌≡◌ {A = ℕ} 0 1 = cc in omega arith)

  begins_by : (low near : Bool) (o : Option ℕ) (u : Candidates) → ruling.Begins ≡ ruling_of low near o → u ≡ over c (list_of c) → given (record { begins = Some 1; candidates = u }) ≡ decided low near
  unfolding ruling_of decided_of
  begins_by true near o u e q = absurd (let z : ◌≡◌ {A = ℕ} 0 1 = cc in omega arith)
  begins_by false false o u e q = rw q
  begins_by false true None u e q = absurd (let z : ◌≡◌ {A = ℕ} 0 1 = cc in omega arith)
  begins_by false true (Some k) u e q = absurd (let z : ◌≡◌ {A = ℕ} 0 1 = cc in omega arith)

  counted_by : (low near : Bool) (o : Option ℕ) (k : ℕ) (r : Reply Sighted) → config.birth_persistence ≡ o → ruling.Counted k ≡ ruling_of low near o
      → r ≡ after_sighting c (sighted_for config.birth_candidate_radius_m now d (Some k) (list_of c)) → r ≡ decided low near
  unfolding ruling_of decided_of sighted
  counted_by true near o k r p e s = absurd (let z : ◌≡◌ {A = ℕ} 0 1 = cc in omega arith)
  counted_by false false o k r p e s = absurd (let z : ◌≡◌ {A = ℕ} 0 1 = cc in omega arith)
  counted_by false true None k r p e s = absurd (let z : ◌≡◌ {A = ℕ} 0 1 = cc in omega arith)
  counted_by false true (Some m) k r p e s = let z : k ≡ m = cc in rw (p, ← z) s

  module _ (low near : Bool) where
    abbrev required : Option ℕ
    required = config.birth_persistence

    pub decide_passed : (u : Candidates) → ruling.Passed ≡ ruling_of low near required → u ≡ over c (list_of c) → given (record { begins = None; candidates = u }) ≡ decided low near
    decide_passed u e q = passed_by low near required u refl e q

    pub decide_begins : (u : Candidates) → ruling.Begins ≡ ruling_of low near required → u ≡ over c (list_of c) → given (record { begins = Some 1; candidates = u }) ≡ decided low near
    decide_begins u e q = begins_by low near required u e q

    pub decide_counted : (k : ℕ) (r : Reply Sighted) → ruling.Counted k ≡ ruling_of low near required → r ≡ after_sighting c (sighted_for config.birth_candidate_radius_m now d (Some k) (list_of c)) → r ≡ decided low near
    decide_counted k r e s = counted_by low near required k r refl e s

-- ---- both

module _ (config : Cartesian3DTrackerConfig) (sensor : ℕ) (now : ℤ) (low near : Bool) (d : Detection) (k id : ℕ) (c : Candidates) where
  abbrev reply : Reply One
  reply = one_of config sensor now low near d k id (list_of c)

  abbrev seen : Reply Sighting
  seen = decided_of config now low near d (list_of c)

  pub consider_stops : (n : ℕ) → refused n ≡ after_sighting c seen → refused n ≡ after_one c reply
  unfolding one_of
  consider_stops n e = go seen e
    where
      go : (x : Reply Sighting) → refused n ≡ after_sighting c x → refused n ≡ after_one c (and_then x (λ y. one_with d k id (begin_with config now sensor) y.candidates y.enough))
      go (refused m) e = cc
      go (given y) e = never_given n (seen_in c y) e

  -- what was decided, by how the sighting ended
  pub consider_waits : (s : Sighted) → given s ≡ after_sighting c seen → s.begins ≡ None → given (record { candidates = s.candidates; begun = None }) ≡ after_one c reply
  unfolding one_of one_with
  consider_waits s e q = go seen e
    where
      go : (x : Reply Sighting) → given s ≡ after_sighting c x → given (record { candidates = s.candidates; begun = None }) ≡ after_one c (and_then x (λ y. one_with d k id (begin_with config now sensor) y.candidates y.enough))
      go (refused m) e = never_given m s (sym e)
      go (given y) e =
          let p = given_same s (seen_in c y) e in
          let w : y.enough ≡ None = sym (ap (λ (u : Sighted). u.begins) p) ∙ q in
          rw (w, ap (λ (u : Sighted). u.candidates) p)

  pub consider_begins : (s : Sighted) (n : ℕ) (b : Begin) (r : Reply Track3D) → given s ≡ after_sighting c seen → s.begins ≡ Some n → b ≡ begin_with config now sensor → r ≡ tried_of d k id n b
      → and_then r (λ t. given (record { candidates = s.candidates; begun = Some t })) ≡ after_one c reply
  unfolding one_of one_with
  consider_begins s n b r e q z t = rw (t, z) (go seen e)
    where
      made : (l : List BirthCandidate) (u : Candidates) (o : Reply Track3D) → u ≡ over c l → and_then o (λ t. given (record { candidates = u; begun = Some t })) ≡ after_one c (and_then o (λ t. given (record { candidates = l; track = Some t })))
      made l u (refused m) e = refl
      made l u (given t) e = rw e

      go : (x : Reply Sighting) → given s ≡ after_sighting c x
          → and_then (tried_of d k id n (begin_with config now sensor)) (λ t. given (record { candidates = s.candidates; begun = Some t })) ≡ after_one c (and_then x (λ y. one_with d k id (begin_with config now sensor) y.candidates y.enough))
      go (refused m) e = never_given m s (sym e)
      go (given y) e =
          let p = given_same s (seen_in c y) e in
          let w : y.enough ≡ Some n = sym (ap (λ (u : Sighted). u.begins) p) ∙ q in
          rw w (made y.candidates s.candidates (tried_of d k id n (begin_with config now sensor)) (ap (λ (u : Sighted). u.candidates) p))

-- ---- what was considered, as the list that is left

pub considered_is : (c : Candidates) (r : Considered) (reply : Reply One) (o : Option Track3D) → given r ≡ after_one c reply → r.begun ≡ o → reply ≡ given (record { candidates = list_of r.candidates; track = o })
considered_is c r (refused n) o e q = never_given n r (sym e)
considered_is c r (given x) o e q =
    let p = given_same r (record { candidates = over c x.candidates; begun = x.track }) e in
    let l : x.candidates ≡ list_of r.candidates = sym (ap (λ (u : Considered). list_of u.candidates) p ∙ listed c x.candidates) in
    let t : x.track ≡ o = sym (ap (λ (u : Considered). u.begun) p) ∙ q in
    (λ i. given (record { candidates = l i; track = t i }))

pub considered_not : (c : Candidates) (n : ℕ) (reply : Reply One) → refused n ≡ after_one c reply → reply ≡ refused n
considered_not c n (refused m) e = cc
considered_not c n (given o) e = never_given n (record { candidates = over c o.candidates; begun = o.track }) e
