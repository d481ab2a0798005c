-- What a batch on the record has come to after each of its stages: checked, moved, mated, corrected, aged. Each record says it of what the code has then, and holds the one before it. Assumes nothing.
use Rattle.std.specs.Prelude.{Ok, Some}
use mathlib.Core.Path.{◌≡◌, sym, ap, ◌∙◌}
use mathlib.Core.Bool.{false}
use mathlib.Core.List.{List, map}
use Prim.Native.Nat.{ℕ, ◌≤◌}
use lib.IntN.{ℤ}
use lib.ListN.{length, take}
use Rattle.number.specs.Reply.{given}
use Rattle.lists.specs.Lay.{lay}
use Rattle.lists.specs.Each.{each_at}
use Rattle.settings.specs.declared.Cartesian3DTrackerConfig.{Cartesian3DTrackerConfig}
use Rattle.detections.specs.declared.Detection.{Detection}
use Rattle.types.specs.declared.batch.ObservationBatch3D.{ObservationBatch3D}
use Rattle.types.specs.declared.track.Track3D.{Track3D}
use Rattle.types.specs.declared.tracker.BirthCandidate.{BirthCandidate}
use Rattle.types.specs.Track.{with_mark}
use Rattle.types.specs.States.{State}
use Rattle.batches.specs.Check.{batch_reply}
use Rattle.calls.specs.Predict.{predicted_tracks}
use Rattle.calls.specs.Pairing.{pair_config}
use Rattle.calls.specs.Births.{remaining, confirmed_places}
use Rattle.association.specs.Told.{mate_of}
use Rattle.matching.specs.declared.Paired.{Paired}
use Rattle.matching.specs.Stage.{takers_for, Matches}
use Rattle.updating.specs.Updates.{update_of, updated_or_not}
use Rattle.birth_candidates.specs.declared.Candidates.{Candidates}
use Rattle.birth_candidates.specs.Candidates.{list_of}
use Rattle.spawning.specs.declared.ruling.Places.{Places}
use Rattle.spawning.specs.Ruling.{places_of}
use Rattle.records.specs.declared.tracks.PkTrack.{PkTrack}
use Rattle.records.specs.declared.tracker.PkTracker.{PkTracker}
use Rattle.records.specs.Tracks.{track_of, track_to}
use Rattle.records.specs.Configs.{settings_of}
use Rattle.records.specs.Trackers.{pk_state}
use Rattle.records.proofs.Back.{tracks_back}
use Rattle.owner.proofs.Through.{map_take}
use Rattle.owner.proofs.Carrying.{Read}
use Rattle.owner.proofs.Predicting.{with_pk_tracks}

-- a track put back with no mark
abbrev pub unmarked : Track3D → PkTrack
unmarked x = track_to (with_mark false x)

-- the tracks in the record's first n places, as they are meant
abbrev pub meant : PkTracker → ℕ → List Track3D
meant y n = take n (map track_of y.tracks)

pub meant_is : (y : PkTracker) (n : ℕ) {ts : List Track3D} → take n y.tracks ≡ map track_to ts → meant y n ≡ ts
meant_is y n {ts} e = sym (map_take track_of n y.tracks) ∙ ap (map track_of) e ∙ tracks_back ts

-- what the births start from: these tracks, and the candidates that stay
abbrev pub start_at : PkTracker → ℕ → ℕ → ℤ → List BirthCandidate → State
start_at x n id now candidates = record { tracks = meant x n; next = id; last = Some now; sequences = take x.sequence_count x.sequences; candidates = candidates }

module _ (t : PkTracker) (b : ObservationBatch3D) (config : Cartesian3DTrackerConfig) (now : ℤ) where
  abbrev c : Cartesian3DTrackerConfig
  c = settings_of t.settings

  abbrev s : State
  s = pk_state t

  abbrev ds : List Detection
  ds = take b.count b.observations

  -- the settings and the time are read, and the check was passed
  pub record Checked : Type 0 where
    pub is : config ≡ c
    pub read : Read t b.timestamp config.lifecycle config.accel_spectral_density now
    pub seen : length b.observations ≡ 64
    pub ok : batch_reply c.frame_id s.last s.sequences b ≡ given tt

  -- y's first n tracks are those of the record at the batch's time, with no mark
  pub record Moved (y : PkTracker) (n : ℕ) : Type 0 where
    pub checked : Checked
    pub fields : y ≡ with_pk_tracks t y.tracks
    pub places : length y.tracks ≡ 64
    pub few : n ≤ 64
    pub before : List Track3D
    pub gives : predicted_tracks c b.timestamp s.tracks ≡ given before
    pub slots : y.tracks ≡ lay (map track_to (map (with_mark false) before)) t.tracks
    pub stored : take n y.tracks ≡ map track_to (map (with_mark false) before)

  -- and p is their pairing with the detections
  pub record Mated (y : PkTracker) (n : ℕ) (p : Paired) : Type 0 where
    pub moved : Moved y n
    pub told : Matches (pair_config c) (meant y n) ds (takers_for (pair_config c) c.recent_track_window_ns b.timestamp (meant y n) ds) (Ok p)

  -- x's first n tracks are those, each updated by the detection that it took; places has those of the confirmed ones
  pub record Corrected (n : ℕ) (p : Paired) (x : PkTracker) (places : Places) : Type 0 where
    pub from : PkTracker
    pub mated : Mated from n p
    pub fields : x ≡ with_pk_tracks t x.tracks
    pub size : length x.tracks ≡ 64
    pub tracks : List Track3D
    pub gives : each_at (λ i z. updated_or_not (update_of c b.sensor_id b.timestamp) z (mate_of p.mates b.observations i)) 0 (meant from n) ≡ given tracks
    pub slots : x.tracks ≡ lay (map track_to tracks) from.tracks
    pub stored : take n x.tracks ≡ map track_to tracks
    pub spots : places_of places ≡ confirmed_places tracks

  -- and the candidates in kept are those that stay
  pub record Aged (n : ℕ) (p : Paired) (x : PkTracker) (places : Places) (kept : Candidates) : Type 0 where
    pub corrected : Corrected n p x places
    pub stay : remaining c.birth_candidate_timeout_ns b.timestamp s.candidates ≡ given (list_of kept)
