-- One detection that no track took, apart from the state: what becomes of the candidates, and the track that it begins.
use Rattle.std.specs.Prelude.{ℕ, ◌^◌, ◌-◌, Bool, true, false, ◌&&◌, List, ltb, ℤ, None, Option, Some}
use Rattle.number.specs.Reply.{Reply, given, and_then, refuse_unless}
use Rattle.settings.specs.declared.Cartesian3DTrackerConfig.{Cartesian3DTrackerConfig}
use Rattle.detections.specs.declared.Detection.{Detection}
use Rattle.types.specs.declared.track.Track3D.{Track3D}
use Rattle.types.specs.declared.tracker.BirthCandidate.{BirthCandidate}
use Rattle.calls.specs.Births.{Sighting, sighted}
use Rattle.birth_candidates.specs.declared.Candidates.{Candidates}
use Rattle.spawning.specs.declared.spawn.Begin.{Begin}
use Rattle.birth_stage.specs.declared.one.Considered.{Considered}
use Rattle.birth_candidates.specs.Candidates.{over}
use Rattle.spawning.specs.Spawn.{made_of}

-- the candidates after it, and the sightings that begin a track: with a low score none, and 1 away from the confirmed tracks
unfoldable pub decided_of : Cartesian3DTrackerConfig → ℤ → Bool → Bool → Detection → List BirthCandidate → Reply Sighting
decided_of c now true near d l = given (record { candidates = l; enough = None })
decided_of c now false false d l = given (record { candidates = l; enough = Some 1 })
decided_of c now false true d l = sighted c now d l

abbrev pub begin_with : Cartesian3DTrackerConfig → ℤ → ℕ → Begin
begin_with c now sensor =
    record {
      time = now;
      sensor = sensor;
      limit = c.max_contributing_sensors;
      variance = c.initial_velocity_variance;
      deviation = c.velocity_measurement_std;
      lifecycle = c.lifecycle;
    }

-- behind k tracks, with the number id: "11 for .. a 65th track or a next number of 2⁶⁴−1, then 5, 7"
unfoldable pub tried_of : Detection → ℕ → ℕ → ℕ → Begin → Reply Track3D
tried_of d k id sightings b =
    refuse_unless (ltb k 64 && ltb id (2 ^ 64 - 1)) 11 (made_of d id sightings b)

-- the candidates, and the new track where there is one
pub record One : Type 0 where
  pub candidates : List BirthCandidate
  pub track : Option Track3D

unfoldable pub one_with : Detection → ℕ → ℕ → Begin → List BirthCandidate → Option ℕ → Reply One
one_with d k id b l None = given (record { candidates = l; track = None })
one_with d k id b l (Some sightings) = and_then (tried_of d k id sightings b) (λ t. given (record { candidates = l; track = Some t }))

unfoldable pub one_of : Cartesian3DTrackerConfig → ℕ → ℤ → Bool → Bool → Detection → ℕ → ℕ → List BirthCandidate → Reply One
one_of c sensor now low near d k id l = and_then (decided_of c now low near d l) (λ x. one_with d k id (begin_with c now sensor) x.candidates x.enough)

-- one detection beside the candidates c: those after it, and the new track
abbrev pub after_one : Candidates → Reply One → Reply Considered
after_one c reply = and_then reply (λ o. given (record { candidates = over c o.candidates; begun = o.track }))
